-- The answer of the comparison: document 01, "What a tree may hold".
use Rattle.std.specs.Prelude.{ℕ, List, ℤ, pos, negsuc, Bool, true, false, Result, Ok, Err}
use Rattle.words.specs.Pick.{pick}
use Rattle.devtree.specs.Tree.{tree}
use Rattle.devtree.specs.Check.{passes}
use Rattle.same_trees.specs.Same.{same}
use Rattle.treecompare.specs.declared.Refused.{Refused}

-- the answer on two pairs of a structure block and a strings block: refused if either fails the check
unfoldable pub comparison : List ℕ → List ℕ → List ℕ → List ℕ → Result Bool Refused
comparison s st s' st' =
    pick (passes s st)
    (pick (passes s' st') (Ok (same (tree s st) (tree s' st'))) (Err (record {})))
    (Err (record {}))

-- document 01's number for each answer
abbrev pub number : Result Bool Refused → ℤ
number (Ok true) = pos 1
number (Ok false) = pos 0
number (Err e) = negsuc 32

unfoldable pub compared : List ℕ → List ℕ → List ℕ → List ℕ → ℤ
compared s st s' st' = number (comparison s st s' st')
