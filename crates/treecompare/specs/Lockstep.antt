-- What the functions that read two trees in step promise each other. `s` and `st` are the first tree's structure and strings block, `s'` and `st'` the second's.
use Rattle.std.specs.Prelude.{ℕ, ◌+◌, ◌-◌, List, [], ◌∷◌, Option, Some, None, Bool, true, false, eqb}
use Rattle.words.specs.Pick.{pick}
use Rattle.devtree.specs.Tree.{Event, begin, prop, end, events_from}
use Rattle.treecheck.specs.Scan.{Between}
use Rattle.same_trees.specs.Same.{same_bytes}
use Rattle.token_pairs.specs.Pairs.{places, pair_at}
use Rattle.token_pairs.specs.declared.Places.{Places}
use Rattle.token_pairs.specs.declared.Pair.{Pair}
use Rattle.token_pairs.specs.declared.Pair.TheVariants.{Open, Equal, Close, Unlike}

-- whether events are the same up to the end of the root, inside nodes in which `left` more levels may be nested: 7 in the root
unfoldable pub in_step : ℕ → List Event → List Event → Bool
in_step left [] es' = false
in_step left (begin n ∷ es) [] = false
in_step left (begin n ∷ es) (begin n' ∷ es') = pick (same_bytes n n') (pick (eqb left 0) false (in_step (left - 1) es es')) false
in_step left (begin n ∷ es) (prop n' v' ∷ es') = false
in_step left (begin n ∷ es) (end ∷ es') = false
in_step left (prop n v ∷ es) [] = false
in_step left (prop n v ∷ es) (begin n' ∷ es') = false
in_step left (prop n v ∷ es) (prop n' v' ∷ es') = pick (same_bytes n n') (pick (same_bytes v v') (in_step left es es') false) false
in_step left (prop n v ∷ es) (end ∷ es') = false
in_step left (end ∷ es) [] = false
in_step left (end ∷ es) (begin n' ∷ es') = false
in_step left (end ∷ es) (prop n' v' ∷ es') = false
in_step left (end ∷ es) (end ∷ es') = pick (eqb left 7) true (in_step (left + 1) es es')

unfoldable pub in_step_from : List ℕ → List ℕ → List ℕ → List ℕ → ℕ → Places → Bool
in_step_from s st s' st' left p = in_step left (events_from s st p.a) (events_from s' st' p.b)

-- what is left to compare once two nodes in which `left` levels may be nested are closed
unfoldable pub resume : List ℕ → List ℕ → List ℕ → List ℕ → ℕ → Option Places → Bool
resume s st s' st' left (Some p) = pick (eqb left 7) true (in_step_from s st s' st' (left + 1) p)
resume s st s' st' left None = false

-- the first tree's place moves forward, within its block
abbrev pub Forward : List ℕ → Places → Option Places → Type 0
Forward s at (Some p) = Between s at.a p.a
Forward s at None = Unit

-- two roots, by their first tokens
unfoldable pub roots_of : List ℕ → List ℕ → List ℕ → List ℕ → Pair → Bool
roots_of s st s' st' (Open p) = in_step_from s st s' st' 7 p
roots_of s st s' st' (Equal p) = false
roots_of s st s' st' (Close p) = false
roots_of s st s' st' Unlike = false

unfoldable pub same_roots : List ℕ → List ℕ → List ℕ → List ℕ → Bool
same_roots s st s' st' = roots_of s st s' st' (pair_at s st s' st' (places 0 0))
