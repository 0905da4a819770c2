-- When names differ: document 02, Ticket 4. No two properties of a node have one name, and no two children of a node.
use Rattle.std.specs.Prelude.{ℕ, List, [], ◌∷◌, Bool, true, false, eqb}
use Rattle.words.specs.Pick.{pick, every}
use Rattle.devtree.specs.Tree.{Prop, Nodes, nil, node}

-- two names have the same bytes
unfoldable pub same_name : List ℕ → List ℕ → Bool
same_name [] [] = true
same_name [] (y ∷ ys) = false
same_name (x ∷ xs) [] = false
same_name (x ∷ xs) (y ∷ ys) = pick (eqb x y) (same_name xs ys) false

-- a name is one of the names
unfoldable pub among : List ℕ → List (List ℕ) → Bool
among n [] = false
among n (m ∷ ms) = pick (same_name n m) true (among n ms)

-- no two names are the same
unfoldable pub distinct : List (List ℕ) → Bool
distinct [] = true
distinct (n ∷ ns) = pick (among n ns) false (distinct ns)

unfoldable pub property_names : List Prop → List (List ℕ)
property_names [] = []
property_names (p ∷ ps) = p.name ∷ property_names ps

-- the names of the nodes in a row
unfoldable pub node_names : Nodes → List (List ℕ)
node_names nil = []
node_names (node n ps kids rest) = n ∷ node_names rest

-- of each node: the names of its properties differ, the names of its children differ
unfoldable pub names_differ : Nodes → Bool
names_differ nil = true
names_differ (node n ps kids rest) =
    every (distinct (property_names ps) ∷ distinct (node_names kids) ∷ names_differ kids ∷ names_differ rest ∷ [])
