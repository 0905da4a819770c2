-- `treecheck::sizes` meets its contract.
use borrow.Author.Tests.{lt-leb, le-leb}
use mathlib.Core.Path.{sym, ◌∙◌}
use mathlib.Core.Bool.{false≢true}
use Rattle.words.proofs.Pick.{pick_same}
use Rattle.words.specs.Pick.{pick, every}
use Rattle.treecheck.specs.Scan.{sized}
use Rattle.treecheck.proofs.sizes.Goals as goal
use Rattle.treecheck.proofs.sizes.Goals.{then-s-le32768, else-s-le32768}

pub returns-then-s-eq0 : goal.returns-then-s-eq0
unfolding sized every pick
returns-then-s-eq0 c =
    elim c.if-s-le32768.branch [
      | then-s-le32768 w ↦ simp (le-leb _ _ w.if-s-le32768.true, ← w.value-is, c.if-s-eq0.true) (sym (pick_same _))
      | else-s-le32768 w ↦ absurd (false≢true (sym (lt-leb _ _ w.if-s-le32768.false) ∙ sym w.value-is ∙ c.if-s-eq0.true))
    ]

pub returns-else-s-eq0 : goal.returns-else-s-eq0
unfolding sized every pick
returns-else-s-eq0 c =
    elim c.if-s-le32768.branch [
      | then-s-le32768 w ↦ simp (le-leb _ _ w.if-s-le32768.true, ← w.value-is, c.if-s-eq0.false)
      | else-s-le32768 w ↦ simp (lt-leb _ _ w.if-s-le32768.false) c.if-s-eq0.false
    ]
