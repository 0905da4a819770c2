-- `changes_cases::answers::print_lists` is safe and ends.
use Rattle.std.proofs.Common.{◌≤◌, length}
use Rattle.changes_cases.proofs.answers.print_lists.Given as goal

abbrev pub invariant-loop-left : goal.invariant-loop-left
invariant-loop-left l = length l.left ≤ length l.w

abbrev pub decreases-loop-left : goal.decreases-loop-left
decreases-loop-left l = length l.left
