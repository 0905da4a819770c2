-- The answer is 1 exactly where both trees pass the check and are equal.
use mathlib.Core.Path.{◌≡◌, refl, sym}
use mathlib.Core.Bool.{Bool, true, false}
use Rattle.std.specs.Prelude.{Result, Ok}
use mathlib.Core.List.{List}
use mathlib.Core.Logic.{◌↔◌}
use Prim.Native.Nat.{ℕ}
use native.Mathlib.Omega.{arith}
use lib.IntN.{pos, negsuc, pos-ne-negsuc}
use Rattle.words.specs.Pick.{pick}
use Rattle.words.proofs.Pick.{pick-cases}
use Rattle.devtree.specs.Tree.{tree}
use Rattle.devtree.specs.Check.{passes}
use Rattle.same_trees.specs.Same.{same}
use Rattle.same_trees.proofs.Same.{same-equal, equal-same}
use Rattle.treecompare.specs.Compare.{comparison, number, compared}
use Rattle.treecompare.specs.declared.Refused.{Refused}

-- both pass the check, and the two trees are equal
abbrev pub EqualTrees : List ℕ → List ℕ → List ℕ → List ℕ → Type 0
EqualTrees s st s' st' = (passes s st ≡ true) × (passes s' st' ≡ true) × (tree s st ≡ tree s' st')

module _ (s st s' st' : List ℕ) where
  decided : (same (tree s st) (tree s' st') ≡ true → EqualTrees s st s' st') → (b : Bool) → same (tree s st) (tree s' st') ≡ b → number (Ok b) ≡ pos 1 → EqualTrees s st s' st'
  decided f true q e = f q
  decided f false q e = let z : ◌≡◌ {A = ℕ} 0 1 = cc in absurd (omega arith)

  one-equal : compared s st s' st' ≡ pos 1 → EqualTrees s st s' st'
  unfolding compared comparison
  one-equal =
      let Answers : Result Bool Refused → Type 0 = λ r. number r ≡ pos 1 → EqualTrees s st s' st' in
      let no : (n : ℕ) → negsuc n ≡ pos 1 → EqualTrees s st s' st' = λ n e. absurd (pos-ne-negsuc 1 n (sym e)) in
      pick-cases Answers (passes s st) _ _
      (λ p. pick-cases Answers (passes s' st') _ _
      (λ p'. decided (λ q. (p, p', same-equal _ _ q)) (same (tree s st) (tree s' st')) refl)
      (λ p'. no 32))
      (λ p. no 32)

  equal-one : EqualTrees s st s' st' → compared s st s' st' ≡ pos 1
  unfolding compared comparison pick
  equal-one h = rw (h.0, h.1, equal-same _ _ h.2)

  -- the answer is 1 exactly there
  pub answer-one : (compared s st s' st' ≡ pos 1) ↔ EqualTrees s st s' st'
  answer-one = (one-equal, equal-one)
