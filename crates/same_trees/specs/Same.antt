-- When two trees are the same: document 01, "What a tree may hold".
use Rattle.std.specs.Prelude.{ℕ, List, [], ◌∷◌, Bool, true, false, eqb}
use Rattle.words.specs.Pick.{pick, every}
use Rattle.devtree.specs.Tree.{Prop, Nodes, nil, node}

-- two lists, place by place by a test
unfoldable pub alike : {A : Type 0} → (A → A → Bool) → List A → List A → Bool
alike test [] [] = true
alike test [] (y ∷ ys) = false
alike test (x ∷ xs) [] = false
alike test (x ∷ xs) (y ∷ ys) = pick (test x y) (alike test xs ys) false

-- byte by byte
unfoldable pub same_bytes : List ℕ → List ℕ → Bool
same_bytes xs ys = alike eqb xs ys

-- name and value
unfoldable pub same_prop : Prop → Prop → Bool
same_prop p q = pick (same_bytes p.name q.name) (same_bytes p.value q.value) false

-- properties in order
unfoldable pub same_props : List Prop → List Prop → Bool
same_props ps qs = alike same_prop ps qs

-- nodes in a row: the first ones' names, properties and children, child by child downwards, and the nodes after them
unfoldable pub same : Nodes → Nodes → Bool
same nil nil = true
same nil (node n' ps' kids' rest') = false
same (node n ps kids rest) nil = false
same (node n ps kids rest) (node n' ps' kids' rest') =
    every (same_bytes n n' ∷ same_props ps ps' ∷ same kids kids' ∷ same rest rest' ∷ [])
