-- Document 01's table "What a partition may order": an order's row, state by state.
use Rattle.std.specs.Prelude.{Bool, true, false, not, eqb, ℤ, pos, neg_ℤ, Result, Ok, Err}
use Rattle.words.specs.Pick.{pick}
use Rattle.states.specs.declared.State.{State}
use Rattle.states.specs.declared.State.TheVariants.{Unusable, Available, Unisolated, Configured}
use Rattle.states.specs.declared.Walk.{Walk}
use Rattle.connector.specs.declared.Connector.{Connector}
use Rattle.connector.specs.declared.orders.OrderRefusal.{OrderRefusal}
use Rattle.connector.specs.declared.orders.OrderRefusal.TheVariants.{Parameter, Occupied}
use Rattle.connector.specs.declared.orders.Change.TheVariants.{Kept, Moved, Released}
use Rattle.connector.specs.declared.orders.Ordered.{Ordered}
use Rattle.states.specs.States.{start}
use Rattle.kinds.specs.Kinds.{phb}
use Rattle.connector.specs.Fields.{with_step, vacated}

-- what an order answers: it is done, or refused
abbrev pub OrderStatus : Type 0
OrderStatus = Result (Unit {0}) OrderRefusal

abbrev pub done : OrderStatus
done = Ok tt

-- document 01's numbers
abbrev pub order_number : OrderStatus → ℤ
order_number (Ok u) = pos 0
order_number (Err Parameter) = neg_ℤ (pos 3)
order_number (Err Occupied) = neg_ℤ (pos 9000)

-- nothing changed
abbrev pub kept : OrderStatus → Connector → Ordered
kept n c = record { status = n; change = Kept; connector = c }

-- to a state, with a walk
abbrev pub moved : State → Walk → Connector → Ordered
moved s w c = record { status = done; change = Moved; connector = with_step s w c }

-- empty, Unusable, and no longer wanted back
abbrev pub released : Connector → Ordered
released c = record { status = done; change = Released; connector = vacated c }

-- a PHB with a slot below not Unusable
unfoldable pub occupied : Bool → Connector → Bool
occupied slot_in_use c = pick (eqb c.kind phb) slot_in_use false

-- wanted back (document 02, Ticket 6), or empty, or a parent was given and is not Configured
unfoldable pub unready : Bool → Connector → Bool
unready parent_configured c = pick c.wanted true (pick (eqb c.resource.0 0) true (pick (eqb c.parent.0 0) false (not parent_configured)))

abbrev pub isolate_in : State → Bool → Connector → Ordered
isolate_in Unusable slot_in_use c = kept done c
isolate_in Available slot_in_use c = kept done c
isolate_in Unisolated slot_in_use c = moved Available start c
isolate_in Configured slot_in_use c = pick (occupied slot_in_use c) (kept (Err Occupied) c) (moved Available c.walk c)

abbrev pub unisolate_in : State → Connector → Ordered
unisolate_in Unusable c = kept (Err Parameter) c
unisolate_in Available c = moved Unisolated start c
unisolate_in Unisolated c = kept done c
unisolate_in Configured c = kept done c

abbrev pub usable_in : State → Bool → Connector → Ordered
usable_in Unusable parent_configured c = pick (unready parent_configured c) (kept (Err Parameter) c) (moved Available c.walk c)
usable_in Available parent_configured c = kept done c
usable_in Unisolated parent_configured c = kept done c
usable_in Configured parent_configured c = kept done c

abbrev pub unusable_in : State → Connector → Ordered
unusable_in Unusable c = kept done c
unusable_in Available c = released c
unusable_in Unisolated c = kept (Err Parameter) c
unusable_in Configured c = kept (Err Parameter) c

unfoldable pub isolate_of : Bool → Connector → Ordered
isolate_of slot_in_use c = isolate_in c.state slot_in_use c

unfoldable pub unisolate_of : Connector → Ordered
unisolate_of c = unisolate_in c.state c

unfoldable pub usable_of : Bool → Connector → Ordered
usable_of parent_configured c = usable_in c.state parent_configured c

unfoldable pub unusable_of : Connector → Ordered
unusable_of c = unusable_in c.state c

-- the four orders as one
pub data Order : Type 0 where
  isolate : Order
  unisolate : Order
  usable : Order
  unusable : Order

unfoldable pub order_of : Order → Bool → Bool → Connector → Ordered
order_of isolate slot_in_use parent_configured c = isolate_of slot_in_use c
order_of unisolate slot_in_use parent_configured c = unisolate_of c
order_of usable slot_in_use parent_configured c = usable_of parent_configured c
order_of unusable slot_in_use parent_configured c = unusable_of c
