-- `name_order::later_child` meets its contract.
use Prim.Native.Nat.{◌+◌}
use native.Mathlib.Omega.{arith}
use Rattle.name_order.proofs.later_child.Goals as goal

pub order_at-requires : goal.order_at-requires
order_at-requires c =
    let a = c.args in
    (omega arith, omega arith, c.requires.2 a.child (omega arith) (omega arith), c.requires.2 (a.child + 1) (omega arith) (omega arith))
