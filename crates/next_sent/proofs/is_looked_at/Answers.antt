-- `next_sent::is_looked_at` meets its contract.
use mathlib.Core.Path.{sym}
use borrow.Author.Tests.{lt-leb, le-leb}
use Rattle.words.specs.Pick.{pick, every}
use Rattle.words.proofs.Pick.{pick_same}
use Rattle.next_sent.proofs.is_looked_at.Goals as goal

pub returns-then-depth-ge1 : goal.returns-then-depth-ge1
unfolding every pick
returns-then-depth-ge1 c = simp (le-leb _ _ c.if-depth-ge1.true) (sym (pick_same _))

pub returns-else-depth-ge1 : goal.returns-else-depth-ge1
unfolding every pick
returns-else-depth-ge1 c = simp (lt-leb _ _ c.if-depth-ge1.false)
