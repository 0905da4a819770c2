-- `name_order::order` meets its contract: the bytes that were passed are the same, and what is left of the names decides.
use Prim.Native.Nat.{◌-◌}
use Rattle.name_order.proofs.Compare.{Compared}
use Rattle.name_order.proofs.order.Given as goal

abbrev pub invariant-loop-x : goal.invariant-loop-x
invariant-loop-x l = Compared l.block l.x l.y l.i

abbrev pub decreases-loop-x : goal.decreases-loop-x
decreases-loop-x l = 48 - l.i
