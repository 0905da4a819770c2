-- `calls::is_resource` meets its contract.
use borrow.Author.Tests.{le-leb, lt-leb}
use mathlib.Core.Path.{sym}
use Rattle.words.specs.Pick.{pick, every}
use Rattle.words.proofs.Pick.{pick_same}
use Rattle.calls.specs.Calls.{is_resource}
use Rattle.calls.proofs.is_resource.Goals as goal

pub returns-then-r-lt1 : goal.returns-then-r-lt1
unfolding is_resource every pick
returns-then-r-lt1 c = simp (lt-leb _ _ c.if-r-lt1.true)

pub returns : goal.returns
unfolding is_resource every pick
returns c = simp (le-leb _ _ c.if-r-lt1.false, ← c.line_count.ensures) (sym (pick_same _))
