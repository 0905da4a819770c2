-- What the functions behind the check promise each other of the names: by the events from a place on.
use Rattle.std.specs.Prelude.{ℕ, zero, suc, ◌+◌, ◌-◌, ◌*◌, ◌%◌, ◌/◌, ◌<◌, ◌≤◌, ◌≡◌, List, [], ◌∷◌, ◌++◌, Option, Some, None, Bool, true, false, length, get_or}
use Rattle.words.specs.Pick.{pick, every}
use Rattle.words.specs.Bytes.{name_length}
use Rattle.devtree.specs.Tree.{Event, begin, prop, end, events_from}
use Rattle.devtree.specs.declared.Token.{Token}
use Rattle.devtree.specs.declared.Token.TheVariants.{Begin, Property, EndNode, End, Fault}
use Rattle.devtree.specs.Names.{among, distinct}
use Rattle.name_order.specs.Order.{name_at, listed, HasName, SameBelow}
use Rattle.name_marks.specs.Marks.{name_mark}
use Rattle.treecheck.specs.Scan.{scan_from, resume}

-- the names of the properties up to the first event that is none
unfoldable pub props_ahead : List Event → List (List ℕ)
props_ahead [] = []
props_ahead (begin n ∷ es) = []
props_ahead (prop n v ∷ es) = n ∷ props_ahead es
props_ahead (end ∷ es) = []

-- the names of the children still to come of a node below which `depth` others are open
unfoldable pub kids_ahead : ℕ → List Event → List (List ℕ)
kids_ahead depth [] = []
kids_ahead zero (begin n ∷ es) = n ∷ kids_ahead 1 es
kids_ahead (suc depth) (begin n ∷ es) = kids_ahead (suc (suc depth)) es
kids_ahead depth (prop n v ∷ es) = kids_ahead depth es
kids_ahead zero (end ∷ es) = []
kids_ahead (suc depth) (end ∷ es) = kids_ahead depth es

-- of each node that begins: the names of its properties differ, the names of its children differ
unfoldable pub apart : List Event → Bool
apart [] = true
apart (begin n ∷ es) = every (distinct (props_ahead es) ∷ distinct (kids_ahead 0 es) ∷ apart es ∷ [])
apart (prop n v ∷ es) = apart es
apart (end ∷ es) = apart es

-- the scan of a node from past its begin-node token on, and the names of that node and of all that follow
unfoldable pub node_from : List ℕ → List ℕ → ℕ → ℕ → Bool
node_from s st left at =
    let es : List Event = events_from s st at in
    every (scan_from s st left false at ∷ distinct (props_ahead es) ∷ distinct (kids_ahead 0 es) ∷ apart es ∷ [])

-- from the root's token on
unfoldable pub node_root : List ℕ → List ℕ → Token → Bool
node_root s st (Begin at a n next) = node_from s st 7 next
node_root s st (Property at a n v l next) = false
node_root s st (EndNode at next) = false
node_root s st (End at next) = false
node_root s st (Fault at) = false

-- a node from a child on; `names` are those of the children before it
unfoldable pub children_from : List ℕ → List ℕ → ℕ → List (List ℕ) → ℕ → Bool
children_from s st left names at =
    let es : List Event = events_from s st at in
    every (scan_from s st left true at ∷ distinct (names ++ kids_ahead 0 es) ∷ apart es ∷ [])

-- what is left once the node is closed
unfoldable pub resumed : List ℕ → List ℕ → ℕ → Option ℕ → Bool
resumed s st left (Some at) = pick (resume s st left (Some at)) (apart (events_from s st at)) false
resumed s st left None = false

-- past the node, the children still to come are those of the nodes around it
abbrev pub Closed : List ℕ → List ℕ → ℕ → Option ℕ → Type 0
Closed s st at (Some next) = (depth : ℕ) → kids_ahead (suc depth) (events_from s st at) ≡ kids_ahead depth (events_from s st next)
Closed s st at None = Unit

-- ---- the names met so far

abbrev pub mark_at : List ℕ → ℕ → ℕ
mark_at b x = name_mark b x (name_length 48 b x)

-- no element falls below `from`, nor below what it was, whichever is less
abbrev pub Raised : ℕ → List ℕ → List ℕ → Type 0
Raised from xs ys = (least i : ℕ) → least ≤ from → least ≤ get_or xs i 0 → least ≤ get_or ys i 0

-- both marks of a name show that it may have been met since `from`
pub record Shown (marks : List ℕ) (from m : ℕ) : Type 0 where
  pub first : from ≤ get_or marks (m % 2048) 0
  pub second : from ≤ get_or marks (m / 2048) 0

-- the list of the names from `base` to `top`, met since `from`: up to 64 are known to differ
pub record Listing (b names marks : List ℕ) (base top from : ℕ) : Type 0 where
  pub named : (i : ℕ) → base ≤ i → i < top → HasName b (get_or names i 0)
  pub shown : (i : ℕ) → base ≤ i → i < top → Shown marks from (mark_at b (get_or names i 0))
  pub few : top - base ≤ 64 → distinct (listed b names base (top - base)) ≡ true

-- what a function leaves of the two arrays
pub record Kept (base from : ℕ) (names names' marks marks' : List ℕ) : Type 0 where
  pub below : SameBelow base names names'
  pub raised : Raised from marks marks'

-- a name was added to a list: a twin is one of those before it
pub record Added (b names names' marks' : List ℕ) (base top from x : ℕ) (twin : Bool) : Type 0 where
  pub met : twin ≡ true → among (name_at b x) (listed b names base (top - base)) ≡ true
  pub new : twin ≡ false → Listing b names' marks' base (top + 1) from
  pub longer : listed b names' base (top + 1 - base) ≡ listed b names base (top - base) ++ (name_at b x ∷ [])

-- ---- what the scan of a node asks and gives

-- the blocks have lengths that a tree may have, the first array has room for a name for every eight bytes of the first block, the second for all marks; `base` names have been met before `at`
pub record Scannable (s st names marks : List ℕ) (at base : ℕ) : Type 0 where
  pub structure : length s ≤ 32768
  pub strings : length st ≤ 4096
  pub room : length s ≤ 8 * length names
  pub marked : 2048 ≤ length marks
  pub used : 8 * base ≤ at
  pub inside : at ≤ length s

-- from `at` to `r` stand properties; their names differ and no more follow
pub record PastProps (s st : List ℕ) (at r : ℕ) : Type 0 where
  pub later : at ≤ r
  pub inside : r ≤ length s
  pub scan : (left : ℕ) → pick (distinct (props_ahead (events_from s st at))) (scan_from s st left false at) false ≡ scan_from s st left true r
  pub kids : (depth : ℕ) → kids_ahead depth (events_from s st at) ≡ kids_ahead depth (events_from s st r)
  pub rest : apart (events_from s st at) ≡ apart (events_from s st r)

-- the place past the properties from `at` on; where there is none, no node goes on at `at`
abbrev pub PropsFrom : List ℕ → List ℕ → ℕ → Option ℕ → Type 0
PropsFrom s st at (Some r) = PastProps s st at r
PropsFrom s st at None = (left : ℕ) → node_from s st left at ≡ false
