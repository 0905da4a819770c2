-- `timed_names::plain_zero` meets its contract: what is asked from here is what is asked from the start.
use Rattle.std.proofs.Common.{◌≡◌}
use Rattle.words.specs.Bytes.{zero_at}
use Rattle.timed_names.proofs.plain_zero.Given as goal

abbrev pub invariant-loop-left : goal.invariant-loop-left
invariant-loop-left l = zero_at l.left l.s l.i ≡ zero_at l.n l.s l.at

abbrev pub decreases-loop-left : goal.decreases-loop-left
decreases-loop-left l = l.left
