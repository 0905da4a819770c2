-- `treecompare::compare` meets its contract.
use mathlib.Core.Path.{◌≡◌}
use mathlib.Core.List.{List}
use mathlib.Core.Bool.{true, false}
use Prim.Native.Nat.{ℕ}
use native.Mathlib.Omega.{arith}
use Rattle.words.specs.Pick.{pick}
use Rattle.words.proofs.Pick.{pick-cases}
use Rattle.devtree.specs.Check.{passes}
use Rattle.treecompare.specs.Compare.{comparison}
use Rattle.treecompare.proofs.Roots.{roots-same}
use Rattle.treecompare.proofs.compare.Goals as goal
use Rattle.treecompare.proofs.compare.Goals.{then-check_tree-eq0-via-then-check_tree-eq0, then-check_tree-eq0-via-else-check_tree-eq0+then-check_tree-eq0-2}

-- the check's answer, where it is 0 and where it is not
failed : (s st : List ℕ) (r : ℕ) → r ≡ pick (passes s st) 1 0 → r ≡ 0 → passes s st ≡ false
failed s st r e h = pick-cases (λ x. r ≡ x → passes s st ≡ false) (passes s st) 1 0 (λ p f. absurd (omega arith)) (λ p f. p) e

passed : (s st : List ℕ) (r : ℕ) → r ≡ pick (passes s st) 1 0 → (r ≡ 0 → ⊥) → passes s st ≡ true
passed s st r e h = pick-cases (λ x. r ≡ x → passes s st ≡ true) (passes s st) 1 0 (λ p f. p) (λ p f. absurd (h f)) e

pub returns-then-check_tree-eq0 : goal.returns-then-check_tree-eq0
unfolding comparison pick
returns-then-check_tree-eq0 c =
    elim c.then-check_tree-eq0.branch [
      | then-check_tree-eq0-via-then-check_tree-eq0 w ↦ rw (failed _ _ _ c.check_tree.ensures w.if-check_tree-eq0.true)
      | then-check_tree-eq0-via-else-check_tree-eq0+then-check_tree-eq0-2 w ↦
          rw (passed _ _ _ c.check_tree.ensures w.if-check_tree-eq0.false, failed _ _ _ w.check_tree-else-check_tree-eq0.ensures w.if-check_tree-eq0-2.true)
    ]

-- where both pass, the roots decide
pub returns : goal.returns
unfolding comparison pick
returns c =
    let p = passed _ _ _ c.check_tree.ensures c.if-check_tree-eq0.false in
    let q = passed _ _ _ c.check_tree-else-check_tree-eq0.ensures c.if-check_tree-eq0-2.false in
    rw (p, q, ← roots-same _ _ _ _ p q, c.same_roots.ensures)
