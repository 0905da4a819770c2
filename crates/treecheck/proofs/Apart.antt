-- The names ahead, by the events of a tree: the functions go by the tokens, the definition by the tree.
use mathlib.Core.Path.{◌≡◌, refl, sym, ◌∙◌, ap}
use mathlib.Core.List.{List, [], ◌∷◌, ◌++◌, append_assoc, append-nil}
use mathlib.Core.Bool.{Bool, true, false}
use Prim.Native.Nat.{ℕ, zero, suc}
use Rattle.words.specs.Pick.{pick, every}
use Rattle.words.proofs.Pick.{pick_same}
use Rattle.devtree.specs.Tree.{Event, end, Prop, Nodes, nil, node, prop_events, flatten}
use Rattle.devtree.specs.Names.{distinct, property_names, node_names, names_differ}
use Rattle.treecheck.specs.Lists.{props_ahead, kids_ahead, apart}

props-kids : (ps : List Prop) (depth : ℕ) (es : List Event) → kids_ahead depth (prop_events ps ++ es) ≡ kids_ahead depth es
unfolding prop_events kids_ahead
props-kids [] depth es = refl
props-kids (p ∷ ps) zero es = props-kids ps zero es
props-kids (p ∷ ps) (suc depth) es = props-kids ps (suc depth) es

props-apart : (ps : List Prop) (es : List Event) → apart (prop_events ps ++ es) ≡ apart es
unfolding prop_events apart
props-apart [] es = refl
props-apart (p ∷ ps) es = props-apart ps es

-- what stands behind the begin-node of a row's first node
abbrev behind : List Prop → Nodes → List Event → List Event
behind ps kids es = prop_events ps ++ (flatten kids ++ (end ∷ es))

regroup : (ps : List Prop) (kids : Nodes) (fs es : List Event) → behind ps kids fs ++ es ≡ behind ps kids (fs ++ es)
regroup ps kids fs es = append_assoc (prop_events ps) _ es ∙ ap (λ l. prop_events ps ++ l) (append_assoc (flatten kids) _ es)

-- a row below an open node has none of its children
below-kids : (t : Nodes) (depth : ℕ) (es : List Event) → kids_ahead (suc depth) (flatten t ++ es) ≡ kids_ahead (suc depth) es
unfolding flatten kids_ahead
below-kids nil depth es = refl
below-kids (node n ps kids rest) depth es =
    ap (kids_ahead (suc (suc depth))) (regroup ps kids (flatten rest) es)
    ∙ props-kids ps (suc (suc depth)) _ ∙ below-kids kids (suc depth) _ ∙ below-kids rest depth es

row-kids : (t : Nodes) (es : List Event) → kids_ahead 0 (flatten t ++ (end ∷ es)) ≡ node_names t
unfolding flatten kids_ahead node_names
row-kids nil es = refl
row-kids (node n ps kids rest) es =
    ap (λ l. n ∷ l)
    (ap (kids_ahead 1) (regroup ps kids (flatten rest) (end ∷ es)) ∙ props-kids ps 1 _ ∙ below-kids kids 0 _ ∙ row-kids rest es)

row-props : (ps : List Prop) (t : Nodes) (es : List Event) → props_ahead (behind ps t es) ≡ property_names ps
unfolding prop_events flatten props_ahead property_names
row-props [] nil es = refl
row-props [] (node n ps kids rest) es = refl
row-props (p ∷ ps) t es = ap (λ l. p.name ∷ l) (row-props ps t es)

each-test : (a b k r e : Bool) → every (a ∷ b ∷ pick k (pick r e false) false ∷ []) ≡ pick (every (a ∷ b ∷ k ∷ r ∷ [])) e false
unfolding every pick
each-test false b k r e = refl
each-test true false k r e = refl
each-test true true false r e = refl
each-test true true true false e = refl
each-test true true true true true = refl
each-test true true true true false = refl

row_apart : (t : Nodes) (es : List Event) → apart (flatten t ++ es) ≡ pick (names_differ t) (apart es) false
unfolding flatten apart names_differ pick
row_apart nil es = refl
row_apart (node n ps kids rest) es =
    let fs : List Event = flatten rest ++ es in
    let inner : apart (behind ps kids fs) ≡ pick (names_differ kids) (pick (names_differ rest) (apart es) false) false = props-apart ps _ ∙ row_apart kids (end ∷ fs) ∙ ap (λ b. pick (names_differ kids) b false) (row_apart rest es) in
    ap (λ l. every (distinct (props_ahead l) ∷ distinct (kids_ahead 0 l) ∷ apart l ∷ [])) (regroup ps kids (flatten rest) es)
    ∙ rw (row-props ps kids fs, props-kids ps 0 (flatten kids ++ (end ∷ fs)), row-kids kids fs, inner) (each-test (distinct (property_names ps)) (distinct (node_names kids)) (names_differ kids) (names_differ rest) (apart es))

-- the names of a tree differ exactly where those of its events do
pub apart-flat : (t : Nodes) → apart (flatten t) ≡ names_differ t
unfolding apart
apart-flat t = ap apart (sym (append-nil (flatten t))) ∙ row_apart t [] ∙ pick_same (names_differ t)
