-- The events of the tree that a walk sends.
use mathlib.Core.Path.{◌≡◌, refl, ap, sym, ◌∙◌}
use Prim.Native.Nat.{ℕ, zero, suc, ◌+◌, ◌-◌, ◌≤◌}
use mathlib.Core.List.{List, [], ◌∷◌, ◌++◌, append_assoc, append-nil}
use mathlib.Core.Bool.{Bool, true, false}
use native.Mathlib.Omega.{arith}
use native.Mathlib.Numerals.{one-add}
use lib.Dec.{leb}
use lib.ListN.{length, drop, length-append, length-drop, replicate, length-replicate}
use lib.Seq.{drop-drop}
use borrow.Author.Tests.{le-leb}
use Rattle.words.specs.Pick.{pick, every}
use Rattle.words.specs.Bytes.{word_at}
use Rattle.words.proofs.Pick.{pick-cases, both-picks, pick_same}
use Rattle.devtree.specs.Tree.{Event, begin, prop, end, Prop, Nodes, nil, node, Body, empty_body, with_prop, with_node, bodies, innermost, tree_of, prop_events, flatten}
use Rattle.sent.specs.Sent.{names_connector}
use Rattle.sent_trees.specs.Trees.{belongs_to_unowned, at_next, Sending, sent_row, sent_tree, owned_row, owned_tree, AllAre}

-- the node whose events from past its begin on these are belongs to an unowned connector
unfoldable pub unowned_ahead : (ℕ → Bool) → List Event → Bool
unowned_ahead unowned [] = false
unowned_ahead unowned (begin n ∷ es) = false
unowned_ahead unowned (prop n v ∷ es) = pick (names_connector n (length v)) (unowned (word_at v 0)) (unowned_ahead unowned es)
unowned_ahead unowned (end ∷ es) = false

-- the events that are sent, with `depth` nodes open that are sent, and in them `below` that are not
unfoldable pub sent_events : List (ℕ → Bool) → ℕ → ℕ → List Event → List Event
sent_events us depth below [] = []
sent_events us depth zero (begin n ∷ es) =
    pick (every (leb 1 depth ∷ unowned_ahead (at_next us) es ∷ [])) (sent_events us depth 1 es) (begin n ∷ sent_events (drop 1 us) (depth + 1) 0 es)
sent_events us depth zero (prop n v ∷ es) = prop n v ∷ sent_events (drop 1 us) depth 0 es
sent_events us depth zero (end ∷ es) = end ∷ sent_events (drop 1 us) (depth - 1) 0 es
sent_events us depth (suc below) (begin n ∷ es) = sent_events us depth (suc (suc below)) es
sent_events us depth (suc below) (prop n v ∷ es) = sent_events us depth (suc below) es
sent_events us depth (suc below) (end ∷ es) = sent_events us depth below es

-- ---- the events that are sent of a tree are those of the tree that is sent

-- a node's events before others
abbrev row_events : List ℕ → List Prop → Nodes → Nodes → List Event → List Event
row_events n ps kids rest es = begin n ∷ (prop_events ps ++ (flatten kids ++ (end ∷ (flatten rest ++ es))))

flat-node : (n : List ℕ) (ps : List Prop) (kids rest : Nodes) (es : List Event) → flatten (node n ps kids rest) ++ es ≡ row_events n ps kids rest es
unfolding flatten
flat-node n ps kids rest es = simp append_assoc

-- what stands ahead of a node's children is said by its properties
ahead-props : (u : ℕ → Bool) (ps : List Prop) (kids : Nodes) (es : List Event) → unowned_ahead u (prop_events ps ++ (flatten kids ++ (end ∷ es))) ≡ belongs_to_unowned u ps
unfolding unowned_ahead prop_events flatten belongs_to_unowned
ahead-props u [] nil es = refl
ahead-props u [] (node n ps kids rest) es = refl
ahead-props u (p ∷ ps) kids es = rw (ahead-props u ps kids es)

sent-props : (us : List (ℕ → Bool)) (depth : ℕ) (ps : List Prop) (es : List Event) → sent_events us depth 0 (prop_events ps ++ es) ≡ prop_events ps ++ sent_events (drop (length ps) us) depth 0 es
unfolding sent_events prop_events
sent-props us depth [] es = refl
sent-props us depth (p ∷ ps) es = rw (sent-props (drop 1 us) depth ps es, drop-drop (length ps) 1 us, one-add)

-- in a node that is left out nothing is sent
skip-props : (us : List (ℕ → Bool)) (depth below : ℕ) (ps : List Prop) (es : List Event) → sent_events us depth (suc below) (prop_events ps ++ es) ≡ sent_events us depth (suc below) es
unfolding sent_events prop_events
skip-props us depth below [] es = refl
skip-props us depth below (p ∷ ps) es = skip-props us depth below ps es

skip-row : (us : List (ℕ → Bool)) (depth below : ℕ) (t : Nodes) (es : List Event) → sent_events us depth (suc below) (flatten t ++ es) ≡ sent_events us depth (suc below) es
unfolding sent_events flatten
skip-row us depth below nil es = refl
skip-row us depth below (node n ps kids rest) es =
    ap (sent_events us depth (suc below)) (flat-node n ps kids rest es)
    ∙ skip-props us depth (suc below) ps _
    ∙ skip-row us depth (suc below) kids _
    ∙ skip-row us depth below rest es

-- a node that is sent, where its children are sent as a row
abbrev kids_of : List (ℕ → Bool) → List Prop → Nodes → Sending
kids_of us ps kids = sent_row (drop (1 + length ps) us) kids

abbrev RowSent : List (ℕ → Bool) → ℕ → Nodes → List Event → Type 0
RowSent us depth t es = sent_events us depth 0 (flatten t ++ es) ≡ flatten (sent_row us t).nodes ++ sent_events (sent_row us t).later depth 0 es

sent-node : (us : List (ℕ → Bool)) (depth : ℕ) (ps : List Prop) (kids : Nodes) (es : List Event)
    → RowSent (drop (1 + length ps) us) (depth + 1) kids (end ∷ es)
    → sent_events (drop 1 us) (depth + 1) 0 (prop_events ps ++ (flatten kids ++ (end ∷ es)))
    ≡ prop_events ps ++ (flatten (kids_of us ps kids).nodes ++ (end ∷ sent_events (drop 1 (kids_of us ps kids).later) depth 0 es))
unfolding sent_events
sent-node us depth ps kids es row =
    let up : depth + 1 - 1 ≡ depth = omega arith in
    sent-props (drop 1 us) (depth + 1) ps _ ∙ rw (drop-drop (length ps) 1 us, row, up)

-- by whether a node is left out
by-test : (b : Bool) (x y : List Event) (r s : Sending) (f : Sending → List Event) → x ≡ f r → y ≡ f s → pick b x y ≡ f (pick b r s)
unfolding pick
by-test true x y r s f e e' = e
by-test false x y r s f e e' = e'

begin-sent : (us : List (ℕ → Bool)) (depth : ℕ) (n : List ℕ) (es : List Event) (b : Bool) → 1 ≤ depth → unowned_ahead (at_next us) es ≡ b
    → sent_events us depth 0 (begin n ∷ es) ≡ pick b (sent_events us depth 1 es) (begin n ∷ sent_events (drop 1 us) (depth + 1) 0 es)
unfolding sent_events every pick
begin-sent us depth n es b h e = rw (le-leb 1 depth h, e, pick_same b)

row-sent : (us : List (ℕ → Bool)) (depth : ℕ) (t : Nodes) (es : List Event) → 1 ≤ depth → RowSent us depth t es
unfolding sent_events flatten sent_row
row-sent us depth nil es h = refl
row-sent us depth (node n ps kids rest) es h =
    let below : Sending = kids_of us ps kids in
    let after : Sending = sent_row (drop 1 below.later) rest in
    let most : List Event = flatten rest ++ es in
    ap (sent_events us depth 0) (flat-node n ps kids rest es)
    ∙ begin-sent us depth n _ (belongs_to_unowned (at_next us) ps) h (ahead-props (at_next us) ps kids most)
    ∙ by-test (belongs_to_unowned (at_next us) ps) _ _ (sent_row us rest) (record { nodes = node n ps below.nodes after.nodes; later = after.later })
    (λ r. flatten r.nodes ++ sent_events r.later depth 0 es)
    (skip-props us depth 0 ps _ ∙ skip-row us depth 0 kids _ ∙ row-sent us depth rest es h)
    (ap (◌∷◌ (begin n)) (sent-node us depth ps kids most (row-sent (drop (1 + length ps) us) (depth + 1) kids (end ∷ most) (omega arith)) ∙ rw (row-sent (drop 1 below.later) depth rest es h))
    ∙ sym (flat-node n ps below.nodes after.nodes _))

pub sent-flat : (us : List (ℕ → Bool)) (t : Nodes) → sent_events us 0 0 (flatten t) ≡ flatten (sent_tree us t)
unfolding sent_events flatten sent_tree every pick
sent-flat us nil = refl
sent-flat us (node n ps kids rest) =
    ap (◌∷◌ (begin n)) (sent-node us 0 ps kids (flatten rest) (row-sent (drop (1 + length ps) us) 1 kids (end ∷ flatten rest) (omega arith))
    ∙ rw (sent-flat (drop 1 (kids_of us ps kids).later) rest))

-- ---- where the predicate does not change

are-drop : (u : ℕ → Bool) (k : ℕ) (us : List (ℕ → Bool)) → AllAre u us → AllAre u (drop k us)
are-drop u zero us a = a
are-drop u (suc k) [] a = tt
are-drop u (suc k) (v ∷ vs) a = are-drop u k vs a.1

unowned-same : (u v : ℕ → Bool) (ps : List Prop) → ((k : ℕ) → v k ≡ u k) → belongs_to_unowned v ps ≡ belongs_to_unowned u ps
unfolding belongs_to_unowned
unowned-same u v [] e = refl
unowned-same u v (p ∷ ps) e = rw (e (word_at p.value 0), unowned-same u v ps e)

pub length-props : (ps : List Prop) → length (prop_events ps) ≡ length ps
unfolding prop_events
length-props [] = refl
length-props (p ∷ ps) = ap suc (length-props ps)

length-node : (n : List ℕ) (ps : List Prop) (kids rest : Nodes) → length (flatten (node n ps kids rest)) ≡ 2 + length ps + length (flatten kids) + length (flatten rest)
unfolding flatten
length-node n ps kids rest = simp (length-append, length-props) (omega arith)

-- a row is sent as t, and k of the predicates or more are left, which agree with u
record RowIs (u : ℕ → Bool) (k : ℕ) (r : Sending) (t : Nodes) : Type 0 where
  nodes : r.nodes ≡ t
  later : AllAre u r.later
  left : k ≤ length r.later

row-owned : (u : ℕ → Bool) (us : List (ℕ → Bool)) (t : Nodes) (k : ℕ) → AllAre u us → length (flatten t) + k ≤ length us → RowIs u k (sent_row us t) (owned_row u t)
unfolding sent_row owned_row flatten
row-owned u us nil k a h = record { nodes = refl; later = a; left = omega arith }
row-owned u [] (node n ps kids rest) k a h = absurd (omega arith)
row-owned u (v ∷ vs) (node n ps kids rest) k a h =
    let us : List (ℕ → Bool) = v ∷ vs in
    let long = length-node n ps kids rest in
    let below = row-owned u (drop (1 + length ps) us) kids (1 + length (flatten rest) + k) (are-drop u (1 + length ps) us a) (omega (arith, length-drop (1 + length ps) us)) in
    let more : List (ℕ → Bool) = (kids_of us ps kids).later in
    let after = row-owned u (drop 1 more) rest k (are-drop u 1 more below.later) (omega (arith, length-drop 1 more, below.left)) in
    rw (unowned-same u v ps a.0)
    (both-picks (RowIs u k) (belongs_to_unowned u ps)
    (row-owned u us rest k a (omega arith))
    (record { nodes = rw (below.nodes, after.nodes); later = after.later; left = after.left }))

-- as many predicates as the tree has events are enough
pub again-are : (u : ℕ → Bool) (n : ℕ) → AllAre u (replicate n u)
again-are u zero = tt
again-are u (suc n) = ((λ _. refl), again-are u n)

pub sent-owned : (u : ℕ → Bool) (us : List (ℕ → Bool)) (t : Nodes) → AllAre u us → length (flatten t) ≤ length us → sent_tree us t ≡ owned_tree u t
unfolding sent_tree owned_tree
sent-owned u us nil a h = refl
sent-owned u us (node n ps kids rest) a h =
    let long = length-node n ps kids rest in
    let below = row-owned u (drop (1 + length ps) us) kids (1 + length (flatten rest)) (are-drop u (1 + length ps) us a) (omega (arith, length-drop (1 + length ps) us)) in
    let more : List (ℕ → Bool) = (kids_of us ps kids).later in
    rw (below.nodes, sent-owned u (drop 1 more) rest (are-drop u 1 more below.later) (omega (arith, length-drop 1 more, below.left)))

-- with one predicate for all tokens
pub sent-always : (u : ℕ → Bool) (t : Nodes) → sent_tree (replicate (length (flatten t)) u) t ≡ owned_tree u t
sent-always u t = sent-owned u (replicate (length (flatten t)) u) t (again-are u (length (flatten t))) (omega (arith, length-replicate (length (flatten t)) u))

-- ---- what is sent is no larger than the tree

row_small : (us : List (ℕ → Bool)) (t : Nodes) → length (flatten (sent_row us t).nodes) ≤ length (flatten t)
unfolding sent_row flatten
row_small us nil = omega arith
row_small us (node n ps kids rest) =
    let below = row_small (drop (1 + length ps) us) kids in
    let after = row_small (drop 1 (kids_of us ps kids).later) rest in
    let skip = row_small us rest in
    pick-cases {A = Sending} (λ r. length (flatten r.nodes) ≤ length (flatten (node n ps kids rest))) (belongs_to_unowned (at_next us) ps) _ _
    (λ _. omega (arith, length-node n ps kids rest))
    (λ _. omega (arith, length-node n ps kids rest, length-node n ps (kids_of us ps kids).nodes (sent_row (drop 1 (kids_of us ps kids).later) rest).nodes))

pub sent-small : (us : List (ℕ → Bool)) (t : Nodes) → length (flatten (sent_tree us t)) ≤ length (flatten t)
unfolding sent_tree flatten
sent-small us nil = omega arith
sent-small us (node n ps kids rest) =
    let below = row_small (drop (1 + length ps) us) kids in
    let more : List (ℕ → Bool) = drop 1 (kids_of us ps kids).later in
    let after = sent-small more rest in
    omega (arith, length-node n ps kids rest, length-node n ps (kids_of us ps kids).nodes (sent_tree more rest))

-- ---- the tree of a tree's events is the tree

abbrev holding : List Prop → Nodes → List Body → List Body
holding ps t bs = record { props = ps; nodes = t } ∷ bs

props-in : (ps : List Prop) (t : Nodes) (bs : List Body) (es : List Event) → bodies es ≡ holding [] t bs → bodies (prop_events ps ++ es) ≡ holding ps t bs
unfolding bodies with_prop prop_events
props-in [] t bs es e = e
props-in (p ∷ ps) t bs es e = rw (props-in ps t bs es e)

row_in : (t : Nodes) (bs : List Body) (es : List Event) → bodies es ≡ holding [] nil bs → bodies (flatten t ++ es) ≡ holding [] t bs
unfolding bodies with_node flatten
row_in nil bs es e = e
row_in (node n ps kids rest) bs es e =
    let after = row_in rest bs es e in
    let below = row_in kids (holding [] rest bs) (end ∷ (flatten rest ++ es)) (ap (◌∷◌ empty_body) after) in
    ap bodies (flat-node n ps kids rest es) ∙ rw (props-in ps kids (holding [] rest bs) (flatten kids ++ (end ∷ (flatten rest ++ es))) below)

pub tree-of-flat : (t : Nodes) → tree_of (flatten t) ≡ t
unfolding tree_of innermost bodies
tree-of-flat t = rw (← append-nil (flatten t), row_in t [] [] refl)
