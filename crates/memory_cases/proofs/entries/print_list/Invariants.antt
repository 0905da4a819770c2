-- `memory_cases::entries::print_list` is safe and ends.
use Rattle.std.proofs.Common.{length}
use Rattle.memory_cases.proofs.entries.print_list.Given as goal

abbrev pub decreases-loop-left : goal.decreases-loop-left
decreases-loop-left l = length l.left
