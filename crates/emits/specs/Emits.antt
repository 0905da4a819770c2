-- The replies that tell a guest a list of events, and the size of a tree.
use Rattle.std.specs.Prelude.{ℕ, ◌+◌, ◌-◌, ◌*◌, ◌<◌, ◌≤◌, ◌≡◌, List, [], ◌∷◌, true, length}
use Rattle.devtree.specs.Tree.{Event, begin, prop, end, Nodes, nil, node}
use Rattle.states.specs.declared.Page.{Page}
use Rattle.states.specs.declared.Page.TheVariants.{Asked}
use Rattle.step_status.specs.declared.StepStatus.TheVariants.{Complete, NextChild, NextProperty, PreviousParent, MoreMemory}
use Rattle.guards.specs.Guards.{page_after}
use Rattle.walk.specs.Step.{written}
use Rattle.emits.specs.Run.{Reply, formed, until_zero, two_after_five, consumes, asks, count}

-- the bytes that the reply of a property needs
abbrev pub needed : List ℕ → List ℕ → ℕ
needed name value = 20 + length name + 1 + length value

-- With `depth` nodes open and the second page as `page` says, calls that lend these work areas get these replies: each event has its reply, over the work area that its call lent, and the second page is asked for where one page is too small. The calls may stop before the last event.
pub data Emits : ℕ → Page → List Event → List (List ℕ) → List Reply → Type 0 where
  stopped : {depth : ℕ} {page : Page} {es : List Event} → 1 ≤ length es → Emits depth page es [] []
  child : {depth : ℕ} {page : Page} {name a : List ℕ} {es : List Event} {areas : List (List ℕ)} {rs : List Reply}
      → formed page (length a) ≡ true
      → depth < 8
      → Emits (depth + 1) (page_after (length a)) es areas rs
      → Emits depth page (begin name ∷ es) (a ∷ areas) (record { status = NextChild; area = written a (begin name) } ∷ rs)
  property : {depth : ℕ} {page : Page} {name value a : List ℕ} {es : List Event} {areas : List (List ℕ)} {rs : List Reply}
      → formed page (length a) ≡ true
      → 1 ≤ depth
      → needed name value ≤ length a
      → Emits depth (page_after (length a)) es areas rs
      → Emits depth page (prop name value ∷ es) (a ∷ areas) (record { status = NextProperty; area = written a (prop name value) } ∷ rs)
  more : {depth : ℕ} {page : Page} {name value a : List ℕ} {es : List Event} {areas : List (List ℕ)} {rs : List Reply}
      → formed page (length a) ≡ true
      → 1 ≤ depth
      → length a ≡ 4096
      → length a < needed name value
      → Emits depth Asked (prop name value ∷ es) areas rs
      → Emits depth page (prop name value ∷ es) (a ∷ areas) (record { status = MoreMemory; area = a } ∷ rs)
  parent : {depth : ℕ} {page : Page} {a : List ℕ} {es : List Event} {areas : List (List ℕ)} {rs : List Reply}
      → formed page (length a) ≡ true
      → 2 ≤ depth
      → Emits (depth - 1) (page_after (length a)) es areas rs
      → Emits depth page (end ∷ es) (a ∷ areas) (record { status = PreviousParent; area = a } ∷ rs)
  last : {page : Page} {a : List ℕ} {areas : List (List ℕ)}
      → formed page (length a) ≡ true
      → Emits 1 page (end ∷ []) (a ∷ areas) (record { status = Complete; area = a } ∷ [])

-- the nodes of a tree
unfoldable pub nodes : Nodes → ℕ
nodes nil = 0
nodes (node name props kids rest) = 1 + nodes kids + nodes rest

-- the properties of a tree
unfoldable pub properties : Nodes → ℕ
properties nil = 0
properties (node name props kids rest) = length props + properties kids + properties rest

-- how long the walk of a tree is, by the replies to calls that lend these work areas
pub record WalkLength (t : Nodes) (areas : List (List ℕ)) (rs : List Reply) : Type 0 where
  -- a walk to the 0 has this many replies of 0 to 4, and none has more
  pub tokens : until_zero rs ≡ true → count consumes rs ≡ 2 * nodes t + properties t
  pub most : count consumes rs ≤ 2 * nodes t + properties t
  -- every other reply is a 5
  pub others : length rs ≡ count consumes rs + count asks rs
  -- at most one, if every call after a 5 lends two pages
  pub asked : two_after_five areas rs ≡ true → count asks rs ≤ 1
  -- the 0 comes with so many calls, each of the right form, and one more for each 5
  pub reached : 2 * nodes t + properties t + count asks rs ≤ length areas → until_zero rs ≡ true
