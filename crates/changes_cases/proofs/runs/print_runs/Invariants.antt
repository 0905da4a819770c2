-- `changes_cases::runs::print_runs` is safe and ends.
use Rattle.std.proofs.Common.{length}
use Rattle.changes_cases.proofs.runs.print_runs.Given as goal

abbrev pub decreases-loop-left : goal.decreases-loop-left
decreases-loop-left l = length l.left
