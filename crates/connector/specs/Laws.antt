-- What holds of every order: the statements of the laws that `proofs/Laws.antt` proves.
use Rattle.std.specs.Prelude.{◌≡◌, ◌≢◌, ◌↔◌, false}
use Rattle.states.specs.declared.State.{State}
use Rattle.states.specs.declared.State.TheVariants.{Unusable, Available, Unisolated, Configured}
use Rattle.states.specs.declared.Walk.{Walk}
use Rattle.connector.specs.declared.Connector.{Connector}
use Rattle.connector.specs.declared.orders.Change.TheVariants.{Kept, Moved, Released}
use Rattle.connector.specs.declared.orders.Ordered.{Ordered}
use Rattle.states.specs.States.{start}
use Rattle.connector.specs.Fields.{changed}
use Rattle.connector.specs.Orders.{done, Order, isolate, unisolate, usable, unusable}

-- the state after an order that was done
abbrev pub state_after_order : Order → State → State
state_after_order isolate Unusable = Unusable
state_after_order isolate Available = Available
state_after_order isolate Unisolated = Available
state_after_order isolate Configured = Available
state_after_order unisolate Unusable = Unusable
state_after_order unisolate Available = Unisolated
state_after_order unisolate Unisolated = Unisolated
state_after_order unisolate Configured = Configured
state_after_order usable Unusable = Available
state_after_order usable Available = Available
state_after_order usable Unisolated = Unisolated
state_after_order usable Configured = Configured
state_after_order unusable Unusable = Unusable
state_after_order unusable Available = Unusable
state_after_order unusable Unisolated = Unisolated
state_after_order unusable Configured = Configured

-- a walk is under way only in Unisolated
abbrev pub StartUnless : State → Walk → Type 0
StartUnless s w = s ≢ Unisolated → w ≡ start

abbrev pub AtStart : Connector → Type 0
AtStart c = StartUnless c.state c.walk

-- the answer r to the order o on the record c
pub record OrderLaw (o : Order) (c : Connector) (r : Ordered) : Type 0 where
  -- nothing but state, resource, walk, and whether it is wanted back
  pub only : r.connector ≡ changed r.connector.state r.connector.resource r.connector.walk r.connector.wanted c
  -- a refusal changes nothing
  pub refused : r.status ≢ done → r.change ≡ Kept
  pub same : r.change ≡ Kept → r.connector ≡ c
  pub holds : r.change ≡ Moved → (r.connector.resource ≡ c.resource) × (r.connector.wanted ≡ c.wanted)
  -- only the step from Available to Unusable is a release
  pub release : (r.change ≡ Released) ↔ ((o ≡ unusable) × (c.state ≡ Available))
  pub emptied : r.change ≡ Released → (r.connector.state ≡ Unusable) × (r.connector.resource.0 ≡ 0) × (r.connector.wanted ≡ false)
  pub walk : AtStart c → AtStart r.connector
  pub state : r.status ≡ done → r.connector.state ≡ state_after_order o c.state
