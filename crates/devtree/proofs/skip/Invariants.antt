-- `devtree::skip` meets its contract: with enough steps left, `skip_up_to` ends from here where it ends from the start.
use Prim.Native.Nat.{◌-◌}
use lib.ListN.{length}
use Rattle.devtree.specs.Tokens.{skipped}
use Rattle.devtree.proofs.Tokens.{Skips}
use Rattle.devtree.proofs.skip.Given as goal

abbrev pub invariant-loop-p : goal.invariant-loop-p
invariant-loop-p l = Skips l.s l.p (skipped l.s l.at)

abbrev pub decreases-loop-p : goal.decreases-loop-p
decreases-loop-p l = length l.s - l.p
