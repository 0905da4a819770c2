-- `name_order::neighbours_differ` meets its contract: each name that was passed comes before all the later ones.
use Prim.Native.Nat.{◌-◌, ◌<◌}
use Rattle.name_order.proofs.Differ.{Ascends}
use Rattle.name_order.proofs.neighbours_differ.Given as goal

abbrev pub invariant-loop-i : goal.invariant-loop-i
invariant-loop-i l = (0 < l.i) × Ascends l.block l.names l.i

abbrev pub decreases-loop-i : goal.decreases-loop-i
decreases-loop-i l = l.n - l.i
