use mathlib.Core.Path.{refl}
use Prim.Native.Nat.{◌+◌, ◌-◌, ◌/◌}
use native.Mathlib.Omega.{arith}
use Rattle.name_order.specs.Shuffled.{none}
use Rattle.name_order.proofs.Shuffles.{shuffled-named, shuffled-length, shuffled-more}
use Rattle.name_order.proofs.rise.Goals as goal

pub loop-at-init : goal.loop-at-init
loop-at-init c = (omega arith, refl, none)

pub order_at-requires : goal.order_at-requires
order_at-requires c =
    let a = c.args in
    let named = shuffled-named (a.leaf + 1) a.block.now c.loop-at.invariant.2 c.requires.1 in
    (omega arith, omega arith, named ((c.loop-at.at - 1) / 2) (omega arith) (omega arith), named c.loop-at.at (omega arith) (omega arith))

pub loop-at-preserved : goal.loop-at-preserved
loop-at-preserved c =
    let a = c.args in
    let new = shuffled-more (a.leaf + 1) ((c.loop-at.at - 1) / 2) c.loop-at.at c.loop-at.invariant.2 (omega arith) c.exchange.ensures in
    (omega arith, shuffled-length (a.leaf + 1) new, new)
