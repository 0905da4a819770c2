-- `name_order::same` meets its contract: names at one offset are the same, and others where their order is 0.
use Rattle.name_order.specs.Order.{name_at}
use Rattle.name_order.proofs.Names.{equal-same}
use Rattle.name_order.proofs.Compare.{order-zero}
use mathlib.Core.Path.{sym, ap}
use Rattle.name_order.proofs.same.Goals as goal

pub returns-then-x-y : goal.returns-then-x-y
returns-then-x-y c = let a = c.args in sym (equal-same _ _ (ap (name_at a.block.now) c.if-x-y.true))

pub returns : goal.returns
returns c =
    let a = c.args in
    rw c.order.ensures (order-zero (name_at a.block.now a.x) (name_at a.block.now a.y))
