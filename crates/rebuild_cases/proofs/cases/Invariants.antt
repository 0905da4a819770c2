-- `rebuild_cases::cases` is safe and ends.
use Rattle.std.proofs.Common.{length}
use Rattle.rebuild_cases.proofs.cases.Given as goal

abbrev pub decreases-loop-structure : goal.decreases-loop-structure
decreases-loop-structure l = length l.left
