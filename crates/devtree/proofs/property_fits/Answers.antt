-- `devtree::property_fits` meets its contract: each test of the code decides one of the definition's.
use mathlib.Core.Path.{sym}
use mathlib.Core.Logic.{inl, inr}
use borrow.Author.Tests.{lt-leb, le-leb, lt-ltb, le-ltb}
use Rattle.words.specs.Pick.{pick, every}
use Rattle.words.proofs.Pick.{pick_same}
use Rattle.devtree.proofs.property_fits.Goals as goal
use Rattle.devtree.proofs.property_fits.Goals.{then-n-tail, else-n-tail}

pub returns-then-len-n : goal.returns-then-len-n
unfolding every pick
returns-then-len-n c =
    elim c.if-n-tail.branch [
      | then-n-tail w ↦
          let t = w.if-n-tail.true in
          simp (le-leb _ _ t.0, le-leb _ _ t.1, lt-ltb _ _ t.2, ← w.value-is, c.if-len-n.true, c.up4.ensures) (sym (pick_same _))
      | else-n-tail w ↦ cc
    ]

pub returns-else-len-n : goal.returns-else-len-n
unfolding every pick
returns-else-len-n c =
    elim c.if-n-tail.branch [
      | then-n-tail w ↦
          let t = w.if-n-tail.true in
          simp (le-leb _ _ t.0, le-leb _ _ t.1, lt-ltb _ _ t.2, ← w.value-is, c.if-len-n.false)
      | else-n-tail w ↦
          elim w.if-n-tail.either [
            | inl t ↦ simp (le-leb _ _ t.0, le-leb _ _ t.1, le-ltb _ _ t.2) c.if-len-n.false
            | inr t ↦ elim t [
              | inl u ↦ simp (le-leb _ _ u.0, lt-leb _ _ u.1) c.if-len-n.false
              | inr u ↦ simp (lt-leb _ _ u) c.if-len-n.false
            ]
          ]
    ]
