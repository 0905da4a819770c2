-- What each call answers, and the edits that it makes, on the table's model: document 01, "The platform's own calls", "What a partition may order" and step 1 of "A walk, call by call".
use Rattle.std.specs.Prelude.{ℕ, ◌+◌, ◌-◌, ◌≡◌, Result, Ok, Err, List, [], ◌∷◌, ◌++◌, Bool, true, false, ℤ, eqb, leb, ltb, get_or, length}
use Rattle.words.specs.Pick.{pick, every, any}
use Rattle.words.specs.Bytes.{word_at}
use Rattle.states.specs.declared.State.{State}
use Rattle.states.specs.declared.State.TheVariants.{Unusable, Available, Unisolated, Configured}
use Rattle.connector.specs.declared.Connector.{Connector}
use Rattle.connector.specs.declared.orders.OrderRefusal.{OrderRefusal}
use Rattle.connector.specs.declared.orders.OrderRefusal.TheVariants.{Parameter}
use Rattle.connector.specs.declared.orders.Change.{Change}
use Rattle.connector.specs.declared.orders.Change.TheVariants.{Kept, Moved, Released}
use Rattle.connector.specs.declared.orders.Ordered.{Ordered}
use Rattle.states.specs.States.{is_configured}
use Rattle.kinds.specs.declared.Resource.{Resource}
use Rattle.kinds.specs.Kinds.{kind_fits, known, may_have_parent, phb}
use Rattle.connector.specs.Fields.{new_connector, changed, sense_of, vacated}
use Rattle.connector.specs.Orders.{OrderStatus, done, kept, Order, isolate, unisolate, usable, unusable, order_of}
use Rattle.table.specs.Layout.{connector_limit, resource_limit}
use Rattle.table.specs.Model.{Line, Model, blank_connector, blank_line, position, has_index, slot_below, Edit, row, step_row, move_line, add_row, add_line, writes}
use Rattle.step_status.specs.declared.StepStatus.{StepStatus}
use Rattle.step_status.specs.declared.StepStatus.TheVariants.{Parameter as BadParameter}
use Rattle.guards.specs.Guards.{is_area}
use Rattle.unowned.specs.Unowned.{unowned}
use Rattle.walk.specs.Step.{Outcome, step}
use Rattle.step_status.specs.Status.{is_refusal}
use Rattle.call_status.specs.declared.CallRefusal.{CallRefusal}
use Rattle.call_status.specs.declared.CallRefusal.TheVariants.{UnknownKind, IndexInUse, NoPartition, BadParent, Full, NoConnector, NoResource, KindsDiffer, NotInPool, Holding, Empty, InUse}
use Rattle.call_status.specs.Status.{CallStatus, accepted, is_accepted}

-- a call's status, by whatever set of statuses it has, and its edits of the table
pub record Answer (S : Type 0) : Type 0 where
  pub status : S
  pub edits : List Edit

abbrev pub refused : {S : Type 0} → S → Answer S
refused s = record { status = s; edits = [] }

-- the edits are made where the call is accepted
abbrev pub decided : CallStatus → List Edit → Answer CallStatus
decided s es = record { status = s; edits = pick (is_accepted s) es [] }

-- ---- what calls look up

-- the first connector with an index, where there is one
unfoldable pub at_index : {A : Type 0} → Model → ℕ → (ℕ → Connector → A) → A → A
at_index m k found missing =
    pick (ltb (position (has_index k) m.connectors) (length m.connectors))
    (found (position (has_index k) m.connectors) (get_or m.connectors (position (has_index k) m.connectors) blank_connector))
    missing

-- how many partitions there may be
abbrev pub partition_limit : ℕ
partition_limit = 32

-- the connector with index k is a PHB's, of this partition
unfoldable pub phb_of : Model → ℕ → ℕ → Bool
phb_of m partition k = at_index m k (λ i c. every (eqb c.kind phb ∷ eqb c.partition partition ∷ [])) false

-- no parent is given, or to a kind that may have one a PHB of the same partition
unfoldable pub parent_fits : Model → ℕ → ℕ → ℕ → Bool
parent_fits m kind partition parent = pick (eqb parent 0) true (every (may_have_parent kind ∷ phb_of m partition parent ∷ []))

-- the connector with index k is Configured; a missing one is not
unfoldable pub configured_at : Model → ℕ → Bool
configured_at m k = at_index m k (λ i c. is_configured c.state) false

-- ---- the platform's calls

-- the refusals of adding a connector, in their order
unfoldable pub add_connector_status : Model → ℕ → ℕ → ℕ → ℕ → CallStatus
add_connector_status m kind k partition parent =
    pick (kind_fits kind k)
    (pick (any (has_index k) m.connectors) (Err IndexInUse)
    (pick (every (leb 1 partition ∷ leb partition partition_limit ∷ []))
    (pick (parent_fits m kind partition parent)
    (pick (leb connector_limit (length m.connectors)) (Err Full) accepted)
    (Err BadParent))
    (Err NoPartition)))
    (Err UnknownKind)

unfoldable pub add_connector : Model → ℕ → ℕ → ℕ → ℕ → Answer CallStatus
add_connector m kind k partition parent = decided (add_connector_status m kind k partition parent) (add_row (new_connector kind k partition parent) ∷ [])

unfoldable pub add_resource_status : Model → ℕ → CallStatus
add_resource_status m kind = pick (known kind) (pick (leb resource_limit (length m.ledger)) (Err Full) accepted) (Err UnknownKind)

unfoldable pub add_resource : Model → ℕ → Answer CallStatus
add_resource m kind = decided (add_resource_status m kind) (add_line kind ∷ [])

-- the new resource's number, 0 when refused
unfoldable pub added_number : Model → ℕ → ℕ
added_number m kind = pick (is_accepted (add_resource_status m kind)) (length m.ledger + 1) 0

-- an answer with a resource in it: its status, and the resource's number, 0 when refused
abbrev pub added_status : Result Resource CallRefusal → CallStatus
added_status (Ok r) = accepted
added_status (Err e) = Err e

abbrev pub number_added : Result Resource CallRefusal → ℕ
number_added (Ok r) = r.0
number_added (Err e) = 0

-- resource r has line r - 1; 0 is no resource
unfoldable pub is_resource : Model → ℕ → Bool
is_resource m r = every (leb 1 r ∷ leb r (length m.ledger) ∷ [])

-- the connector with a resource
abbrev pub holding : ℕ → Connector → Connector
holding r c = changed c.state (record { 0 = r }) c.walk c.wanted c

-- the refusals of placing resource r at the connector c
unfoldable pub place_status : Model → ℕ → Connector → CallStatus
place_status m r c =
    let l : Line = get_or m.ledger (r - 1) blank_line in
    pick (is_resource m r)
    (pick (eqb l.kind c.kind)
    (pick (eqb l.at 0) (pick (eqb c.resource.0 0) accepted (Err Holding)) (Err NotInPool))
    (Err KindsDiffer))
    (Err NoResource)

abbrev pub place_at : Model → ℕ → ℕ → Connector → Answer CallStatus
place_at m r i c = decided (place_status m r c) (move_line (r - 1) c.index.0 ∷ row i (holding r c) ∷ [])

unfoldable pub place : Model → ℕ → ℕ → Answer CallStatus
place m r k = at_index m k (place_at m r) (refused (Err NoConnector))

-- resource r goes to the pool, if its line names the connector with index k
unfoldable pub to_pool : Model → ℕ → ℕ → List Edit
to_pool m r k = pick (every (is_resource m r ∷ eqb (get_or m.ledger (r - 1) blank_line).at k ∷ [])) (move_line (r - 1) 0 ∷ []) []

-- what stands at connector i, which is c, goes to the pool, and the connector becomes c'
abbrev pub emptying : Model → ℕ → Connector → Connector → List Edit
emptying m i c c' = to_pool m c.resource.0 c.index.0 ++ (row i c' ∷ [])

abbrev pub retract_in : State → CallStatus
retract_in Unusable = accepted
retract_in Available = Err InUse
retract_in Unisolated = Err InUse
retract_in Configured = Err InUse

unfoldable pub retract_status : Connector → CallStatus
retract_status c = pick (eqb c.resource.0 0) (Err Empty) (retract_in c.state)

abbrev pub retract_at : Model → ℕ → Connector → Answer CallStatus
retract_at m i c = decided (retract_status c) (emptying m i c (vacated c))

unfoldable pub retract : Model → ℕ → Answer CallStatus
retract m k = at_index m k (retract_at m) (refused (Err NoConnector))

-- ---- the partition's calls

-- the connector with index k, if it is the partition's own; another's counts as none
unfoldable pub own_at : {A : Type 0} → Model → ℕ → ℕ → (ℕ → Connector → A) → A → A
own_at m partition k found missing = at_index m k (λ i c. pick (eqb c.partition partition) (found i c) missing) missing

-- the edits of an order on connector i, which was c
unfoldable pub order_edits : Model → ℕ → Connector → Change → Connector → List Edit
order_edits m i c Kept c' = []
order_edits m i c Moved c' = row i c' ∷ []
order_edits m i c Released c' = emptying m i c c'

-- an order's answer on connector i, which was c
abbrev pub order_answer : Model → ℕ → Connector → Ordered → Answer OrderStatus
order_answer m i c o = record { status = o.status; edits = order_edits m i c o.change o.connector }

-- what an order must know of the rest of the table: whether a slot below is not Unusable, and whether the parent is Configured
pub record Surroundings : Type 0 where
  pub slot_in_use : Bool
  pub parent_configured : Bool

abbrev pub around : Model → Connector → Surroundings
around m c = record { slot_in_use = any (slot_below c.index.0) m.connectors; parent_configured = configured_at m c.parent.0 }

-- the order that a token and a value name, or none
pub data NamedOrder : Type 0 where
  none : NamedOrder
  some : Order → NamedOrder

-- token 9001 isolates (0) and unisolates (1), 9003 makes unusable (0) and usable (1); no other token or value is an order
unfoldable pub order_named : ℕ → ℕ → NamedOrder
order_named token value =
    pick (eqb token 9001)
    (pick (eqb value 0) (some isolate) (pick (eqb value 1) (some unisolate) none))
    (pick (eqb token 9003) (pick (eqb value 0) (some unusable) (pick (eqb value 1) (some usable) none)) none)

-- what is no order is refused
unfoldable pub order_in : Surroundings → NamedOrder → Connector → Ordered
order_in a none c = kept (Err Parameter) c
order_in a (some o) c = order_of o a.slot_in_use a.parent_configured c

unfoldable pub set_indicator : Model → ℕ → ℕ → ℕ → ℕ → Answer OrderStatus
set_indicator m partition token k value = own_at m partition k (λ i c. order_answer m i c (order_in (around m c) (order_named token value) c)) (refused (Err Parameter))

-- get-sensor's status and value
pub record Sensed : Type 0 where
  pub status : OrderStatus
  pub value : ℕ

-- a value or a refusal, as the two: the value is 0 when refused
abbrev pub sensed : Result ℕ OrderRefusal → Sensed
sensed (Ok v) = record { status = done; value = v }
sensed (Err r) = record { status = Err r; value = 0 }

unfoldable pub get_sensor : Model → ℕ → ℕ → ℕ → Sensed
get_sensor m partition token k =
    pick (eqb token 9003)
    (own_at m partition k (λ i c. sensed (Ok (sense_of c))) (sensed (Err Parameter)))
    (sensed (Err Parameter))

-- the edits of a walk's step: none where it is refused
unfoldable pub step_edits : ℕ → StepStatus → Connector → List Edit
step_edits i n c = pick (is_refusal n) [] (step_row i c.state c.walk ∷ [])

-- configure-connector's answer, and the work area afterwards
pub record Configuring : Type 0 where
  pub answer : Answer StepStatus
  pub area : List ℕ

abbrev pub configure_at : Model → List ℕ → List ℕ → List ℕ → ℕ → Connector → Configuring
configure_at m area s st i c =
    let o : Outcome = step (unowned m c.partition) c area s st in
    record {
      answer = record { status = o.stepped.status; edits = step_edits i o.stepped.status o.stepped.connector };
      area = o.area;
    }

abbrev pub not_configured : List ℕ → Configuring
not_configured area = record { answer = refused BadParameter; area = area }

-- step 1 here, the others on the record: word 0 of the work area is the index, word 1 is zero
unfoldable pub configure : Model → ℕ → List ℕ → List ℕ → List ℕ → Configuring
configure m partition area s st =
    pick (every (is_area (length area) ∷ eqb (word_at area 4) 0 ∷ []))
    (own_at m partition (word_at area 0) (configure_at m area s st) (not_configured area))
    (not_configured area)

-- a call's answer and the words that it leaves are the definition's
abbrev pub Answered : {S : Type 0} → List ℕ → List ℕ → S → Answer S → Type 0
Answered t t' s a = (s ≡ a.status) × (t' ≡ writes t a.edits)

-- the same, with the number of the status
abbrev pub Told : {S : Type 0} → (S → ℤ) → List ℕ → List ℕ → ℤ → Answer S → Type 0
Told number t t' r a = (r ≡ number a.status) × (t' ≡ writes t a.edits)
