-- The block without the nodes that a walk leaves out means the tree that is sent, and passes the check.
use mathlib.Core.Path.{◌≡◌, refl, sym, ap, ◌∙◌}
use mathlib.Core.List.{List, [], ◌∷◌}
use mathlib.Core.Bool.{Bool, true, false, false≢true}
use Prim.Native.Nat.{ℕ, ◌+◌, ◌%◌, ◌≤◌}
use native.Mathlib.Omega.{arith}
use lib.ListN.{length, drop, replicate}
use borrow.Author.Tests.{leb-true, le-leb, eq-eqb}
use Rattle.words.specs.Pick.{pick, every}
use Rattle.words.specs.Bytes.{part}
use Rattle.words.proofs.Pick.{pick-cases, pick_no, pick-unless, pick-neither, every-each, each-every}
use Rattle.devtree.specs.Tokens.{tokens}
use Rattle.devtree.specs.Tree.{Event, begin, events_of, events_from, Nodes, nil, node, tree_of, tree, flatten}
use Rattle.devtree.specs.Names.{same_name, among, distinct, node_names, names_differ}
use Rattle.devtree.specs.Check.{closes, one_root, well_formed, passes}
use Rattle.devtree.specs.declared.Token.{Token}
use Rattle.devtree.specs.declared.Token.TheVariants.{Begin, Property, EndNode, End, Fault}
use Rattle.devtree.proofs.Tree.{tree-flat, passes-formed}
use Rattle.sent_trees.specs.Trees.{belongs_to_unowned, at_next, Sending, sent_row, sent_tree, owned_tree}
use Rattle.sent_trees.specs.Cut.{cut}
use Rattle.sent_trees.proofs.Events.{sent_events, sent-flat, sent-always, tree-of-flat}
use Rattle.sent_trees.proofs.Kept.{cut-kept}

pub cut-events : (us : List (ℕ → Bool)) (s st : List ℕ) → passes s st ≡ true → events_from (cut us s st) st 0 ≡ sent_events us 0 0 (events_from s st 0)
unfolding events_from
cut-events us s st ok = (cut-kept us s st (passes-formed s st ok)).events

pub cut-tree : (us : List (ℕ → Bool)) (s st : List ℕ) → passes s st ≡ true → tree (cut us s st) st ≡ sent_tree us (tree s st)
unfolding tree
cut-tree us s st ok =
    ap tree_of (cut-events us s st ok ∙ ap (sent_events us 0 0) (sym (tree-flat s st ok)) ∙ sent-flat us (tree s st)) ∙ tree-of-flat (sent_tree us (tree s st))

-- ---- names that differ still do where nodes are left out

row-among : (us : List (ℕ → Bool)) (t : Nodes) (m : List ℕ) → among m (node_names t) ≡ false → among m (node_names (sent_row us t).nodes) ≡ false
unfolding sent_row node_names among
row-among us nil m e = e
row-among us (node n ps kids rest) m e =
    let f = pick-neither (same_name m n) _ e in
    let after : List (ℕ → Bool) = drop 1 (sent_row (drop (1 + length ps) us) kids).later in
    pick-cases {A = Sending} (λ r. among m (node_names r.nodes) ≡ false) (belongs_to_unowned (at_next us) ps) _ _
    (λ y. row-among us rest m f.1)
    (λ y. pick_no (same_name m n) _ _ f.0 ∙ row-among after rest m f.1)

row-distinct : (us : List (ℕ → Bool)) (t : Nodes) → distinct (node_names t) ≡ true → distinct (node_names (sent_row us t).nodes) ≡ true
unfolding sent_row node_names distinct
row-distinct us nil e = e
row-distinct us (node n ps kids rest) e =
    let f = pick-unless (among n (node_names rest)) _ e in
    let after : List (ℕ → Bool) = drop 1 (sent_row (drop (1 + length ps) us) kids).later in
    pick-cases {A = Sending} (λ r. distinct (node_names r.nodes) ≡ true) (belongs_to_unowned (at_next us) ps) _ _
    (λ y. row-distinct us rest f.1)
    (λ y. pick_no (among n (node_names (sent_row after rest).nodes)) _ _ (row-among after rest n f.0) ∙ row-distinct after rest f.1)

row-names : (us : List (ℕ → Bool)) (t : Nodes) → names_differ t ≡ true → names_differ (sent_row us t).nodes ≡ true
unfolding sent_row names_differ
row-names us nil e = e
row-names us (node n ps kids rest) e =
    let f = every-each _ e in
    let more : List (ℕ → Bool) = drop (1 + length ps) us in
    let after : List (ℕ → Bool) = drop 1 (sent_row more kids).later in
    pick-cases {A = Sending} (λ r. names_differ r.nodes ≡ true) (belongs_to_unowned (at_next us) ps) _ _
    (λ y. row-names us rest f.1.1.1.0)
    (λ y. each-every _ (f.0, (row-distinct more kids f.1.0, (row-names more kids f.1.1.0, (row-names after rest f.1.1.1.0, tt)))))

pub tree-names : (us : List (ℕ → Bool)) (t : Nodes) → names_differ t ≡ true → names_differ (sent_tree us t) ≡ true
unfolding sent_tree names_differ
tree-names us nil e = e
tree-names us (node n ps kids rest) e =
    let f = every-each _ e in
    let more : List (ℕ → Bool) = drop (1 + length ps) us in
    let after : List (ℕ → Bool) = drop 1 (sent_row more kids).later in
    each-every _ (f.0, (row-distinct more kids f.1.0, (row-names more kids f.1.1.0, (tree-names after rest f.1.1.1.0, tt))))

-- ---- the block passes the check

-- the first event that is sent is the root's begin
root-sent : (us : List (ℕ → Bool)) (s st : List ℕ) (ts : List Token) → one_root s ts ≡ true → (n : List ℕ) × (es : List Event) × (sent_events us 0 0 (events_of s st ts) ≡ begin n ∷ es)
unfolding one_root events_of sent_events every pick
root-sent us s st [] e = absurd (false≢true e)
root-sent us s st (Begin p a n next ∷ ts) e = (part s a n, sent_events (drop 1 us) 1 0 (events_of s st ts), refl)
root-sent us s st (Property p a n v l next ∷ ts) e = absurd (false≢true e)
root-sent us s st (EndNode p next ∷ ts) e = absurd (false≢true e)
root-sent us s st (End p next ∷ ts) e = absurd (false≢true e)
root-sent us s st (Fault p ∷ ts) e = absurd (false≢true e)

begins-root : (s st : List ℕ) (ts : List Token) (n : List ℕ) (es : List Event) → closes s 0 ts ≡ true → events_of s st ts ≡ begin n ∷ es → one_root s ts ≡ true
unfolding one_root closes events_of
begins-root s st [] n es c e = c
begins-root s st (Begin p a m next ∷ ts) n es c e = c
begins-root s st (Property p a m v l next ∷ ts) n es c e = cc
begins-root s st (EndNode p next ∷ ts) n es c e = cc
begins-root s st (End p next ∷ ts) n es c e = c
begins-root s st (Fault p ∷ ts) n es c e = c

cut-formed : (us : List (ℕ → Bool)) (s st : List ℕ) → well_formed s st ≡ true → well_formed (cut us s st) st ≡ true
unfolding well_formed events_from
cut-formed us s st e =
    let k = cut-kept us s st e in
    let f = every-each _ e in
    let r = root-sent us s st (tokens s st 0) f.1.1.1.0 in
    let root : one_root (cut us s st) (tokens (cut us s st) st 0) ≡ true = begins-root (cut us s st) st _ r.0 r.1 k.closed (k.events ∙ r.2) in
    let size : length (cut us s st) ≤ 32768 = omega (arith, k.fits.size, leb-true (length s) 32768 f.0) in
    let four : length (cut us s st) % 4 ≡ 0 = omega (arith, k.fits.four) in
    each-every _ (le-leb _ _ size, (eq-eqb _ _ four, (f.1.1.0, (root, (k.near, (k.zeros, (k.order, tt)))))))

pub cut-passes : (us : List (ℕ → Bool)) (s st : List ℕ) → passes s st ≡ true → passes (cut us s st) st ≡ true
unfolding passes
cut-passes us s st ok =
    let f = every-each _ ok in
    each-every _ (cut-formed us s st f.0, (rw (cut-tree us s st ok) (tree-names us (tree s st) f.1.0), tt))

-- the block is no longer than before
pub cut_small : (us : List (ℕ → Bool)) (s st : List ℕ) → passes s st ≡ true → length (cut us s st) ≤ length s
cut_small us s st e = omega (arith, (cut-kept us s st (passes-formed s st e)).fits.size)

-- with one predicate for all tokens the nodes left out are those of the definition on the tree alone
pub cut-owned : (u : ℕ → Bool) (s st : List ℕ) → passes s st ≡ true → tree (cut (replicate (length (flatten (tree s st))) u) s st) st ≡ owned_tree u (tree s st)
cut-owned u s st e = cut-tree (replicate (length (flatten (tree s st))) u) s st e ∙ sent-always u (tree s st)
