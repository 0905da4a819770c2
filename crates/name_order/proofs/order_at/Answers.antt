-- `name_order::order_at` meets its contract.
use Rattle.name_order.proofs.order_at.Goals as goal

pub order-requires : goal.order-requires
order-requires c = let p = c.requires in (rw c.place.ensures p.2, rw c.place-2.ensures p.3)

pub returns : goal.returns
returns c = rw (c.order.ensures, c.place.ensures, c.place-2.ensures)
