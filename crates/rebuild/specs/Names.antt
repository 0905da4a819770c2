-- The names in the strings block that a reader writes: document 01, "each different property name once, in order of first use".
use Rattle.std.specs.Prelude.{ℕ, List, [], ◌∷◌, ◌++◌, Bool, true, false}
use Rattle.words.specs.Pick.{pick}
use Rattle.devtree.specs.Tree.{Event, begin, prop, end}
use Rattle.same_trees.specs.Same.{same_bytes}

-- the names of the properties, in order
unfoldable pub prop_names : List Event → List (List ℕ)
prop_names [] = []
prop_names (begin name ∷ es) = prop_names es
prop_names (prop name value ∷ es) = name ∷ prop_names es
prop_names (end ∷ es) = prop_names es

-- whether the name is one of the names
unfoldable pub one_of : List ℕ → List (List ℕ) → Bool
one_of name [] = false
one_of name (other ∷ names) = pick (same_bytes name other) true (one_of name names)

-- of the names, those that are not known: each once, in order of first use
unfoldable pub firsts_after : List (List ℕ) → List (List ℕ) → List (List ℕ)
firsts_after known [] = []
firsts_after known (name ∷ names) =
    pick (one_of name known) (firsts_after known names) (name ∷ firsts_after (known ++ (name ∷ [])) names)

abbrev pub firsts : List (List ℕ) → List (List ℕ)
firsts names = firsts_after [] names

abbrev pub with_nul : List ℕ → List ℕ
with_nul name = name ++ (0 ∷ [])

-- each name and its NUL, one after the other
unfoldable pub joined : List (List ℕ) → List ℕ
joined [] = []
joined (name ∷ names) = with_nul name ++ joined names
