-- `name_order::sort` meets its contract: each turn exchanges elements.
use mathlib.Core.Path.{◌≡◌}
use Prim.Native.Nat.{◌≤◌}
use lib.ListN.{length}
use Rattle.name_order.specs.Shuffled.{Shuffled}
use Rattle.name_order.proofs.sort.Given as goal

abbrev pub invariant-loop-left : goal.invariant-loop-left
invariant-loop-left l = (l.left ≤ l.n) × (length l.names ≡ length l.initial.names) × Shuffled l.n l.initial.names l.names

abbrev pub decreases-loop-left : goal.decreases-loop-left
decreases-loop-left l = l.left
