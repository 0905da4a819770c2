-- `tree_cases::cases` is safe and ends.
use Prim.Native.Nat.{◌-◌}
use Rattle.tree_cases.proofs.cases.Given as goal

abbrev pub decreases-loop-from : goal.decreases-loop-from
decreases-loop-from l = l.n - l.from
