-- `pool::weighed` meets its contract: both tests of a line, joined.
use mathlib.Core.Bool.{true, false}
use native.Mathlib.Omega.{arith}
use Rattle.pool.proofs.Lines.{both-weigh}
use Rattle.pool.proofs.weighed.Goals as goal

pub returns-then-t-j : goal.returns-then-t-j
returns-then-t-j c = both-weigh _ _ true _ _ c.if-t-j.true (omega arith)

pub returns-else-t-j : goal.returns-else-t-j
returns-else-t-j c = both-weigh _ _ false _ _ c.if-t-j.false (omega arith)
