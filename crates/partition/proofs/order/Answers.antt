-- `partition::order` meets its contract.
use borrow.Author.Tests.{ne_eqb}
use Rattle.words.specs.Pick.{pick}
use Rattle.connector.specs.Orders.{order_of}
use Rattle.calls.specs.Calls.{order_named, order_in}
use Rattle.partition.proofs.order.Goals as goal

pub returns-in-9001-eq0 : goal.returns-in-9001-eq0
unfolding order_named order_in pick order_of
returns-in-9001-eq0 c = simp (c.in-9001-eq0.is-0, c.in-9001-eq0.is-1) c.isolate.ensures

pub returns-in-9001-eq1 : goal.returns-in-9001-eq1
unfolding order_named order_in pick order_of
returns-in-9001-eq1 c = simp (c.in-9001-eq1.is-0, c.in-9001-eq1.is-1) c.unisolate.ensures

pub returns-in-9003-eq0 : goal.returns-in-9003-eq0
unfolding order_named order_in pick order_of
returns-in-9003-eq0 c = simp (c.in-9003-eq0.is-0, c.in-9003-eq0.is-1) c.unusable.ensures

pub returns-in-9003-eq1 : goal.returns-in-9003-eq1
unfolding order_named order_in pick order_of
returns-in-9003-eq1 c = simp (c.in-9003-eq1.is-0, c.in-9003-eq1.is-1) c.usable.ensures

pub returns-in_default : goal.returns-in_default
unfolding order_named order_in pick order_of
returns-in_default c = simp (c.in_default.is-0, ne_eqb _ _ c.in_default.is-1.0.1, ne_eqb _ _ c.in_default.is-1.1)

pub returns-in_default-2 : goal.returns-in_default-2
unfolding order_named order_in pick order_of
returns-in_default-2 c = simp (c.in_default.is-0, ne_eqb _ _ c.in_default.is-1.0.1, ne_eqb _ _ c.in_default.is-1.1)

pub returns-in_default-3 : goal.returns-in_default-3
unfolding order_named order_in pick order_of
returns-in_default-3 c = simp (ne_eqb _ _ c.in_default.is-0.0.1, ne_eqb _ _ c.in_default.is-0.1)
