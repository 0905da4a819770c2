-- Demand 1: a refusal, and a plain 0 to an order, change nothing, on any words of a table.
use Rattle.std.specs.Prelude.{ℕ, ◌<◌, ◌≡◌, List, [], Bool, true, false, ℤ, pos, negsuc, eqb, length}
use Rattle.states.specs.declared.State.{State}
use Rattle.states.specs.declared.State.TheVariants.{Unusable, Available, Unisolated, Configured}
use Rattle.connector.specs.Orders.{Order, isolate, unisolate, usable, unusable}
use Rattle.table.specs.Model.{Model, table_of, position, has_index}
use Rattle.replies.specs.declared.Reader.{Reader}
use Rattle.replies.specs.Replies.{reading_number}
use Rattle.reader.specs.Replies.{reply}
use Rattle.calls.specs.Calls as calls
use Rattle.calls.specs.Calls.{some, order_named}
use Rattle.history.specs.Calls.{Call, platform, partition, set_indicator, get_sensor, configure, answer, words_after}
use Rattle.history.specs.Holds.{connector}

abbrev pub negative : ℤ → Bool
negative (pos n) = false
negative (negsuc n) = true

abbrev pub refuses : List ℕ → Call → Bool
refuses t c = negative (answer (table_of t) c).status

-- the work area that a call lends, none where it lends none
abbrev pub area_of : Call → List ℕ
area_of (platform c) = []
area_of (partition p (set_indicator token k value)) = []
area_of (partition p (get_sensor token k)) = []
area_of (partition p (configure area s st)) = area

-- the same as the call leaves it, on a table of the words t
abbrev pub area_after : List ℕ → Call → List ℕ
area_after t (platform c) = []
area_after t (partition p (set_indicator token k value)) = []
area_after t (partition p (get_sensor token k)) = []
area_after t (partition p (configure area s st)) = (calls.configure (table_of t) p area s st).area

-- where document 01's table "What a partition may order" has a plain 0
abbrev pub plain_zero : Order → State → Bool
plain_zero isolate Unusable = true
plain_zero isolate Available = true
plain_zero isolate Unisolated = false
plain_zero isolate Configured = false
plain_zero unisolate Unusable = false
plain_zero unisolate Available = false
plain_zero unisolate Unisolated = true
plain_zero unisolate Configured = true
plain_zero usable Unusable = false
plain_zero usable Available = true
plain_zero usable Unisolated = true
plain_zero usable Configured = true
plain_zero unusable Unusable = true
plain_zero unusable Available = false
plain_zero unusable Unisolated = false
plain_zero unusable Configured = false

-- connector i is the first with index k, and partition p's own
pub record Own (m : Model) (p k i : ℕ) : Type 0 where
  pub first : i ≡ position (has_index k) m.connectors
  pub there : i < length m.connectors
  pub own : (connector m i).partition ≡ p

-- a call that is answered with a plain 0
abbrev pub Plain : List ℕ → Call → Type 0
Plain t c = ((answer (table_of t) c).status ≡ pos 0) × (words_after t c ≡ t)

-- the reader's 2 waiting, -31 senseless and -32 no room
abbrev pub unread : ℤ → Bool
unread (pos n) = eqb n 2
unread (negsuc n) = true

pub record Unchanged : Type 0 where
  -- a call that is refused leaves all words of the table, and the work area as it was lent
  pub words : (t : List ℕ) (c : Call) → refuses t c ≡ true → words_after t c ≡ t
  pub area : (t : List ℕ) (c : Call) → refuses t c ≡ true → area_after t c ≡ area_of c
  -- an order with a plain 0, by the connector's own partition, is answered with 0 and leaves all words
  pub plain : (t : List ℕ) (p token k value i : ℕ) (o : Order) → order_named token value ≡ some o → Own (table_of t) p k i → plain_zero o (connector (table_of t) i).state ≡ true → Plain t (partition p (set_indicator token k value))
  -- a reply that the guest's reader does not take leaves its record and both buffers
  pub reader : (r : Reader) (status : ℤ) (area s st : List ℕ) → let o = reply r status area s st in unread (reading_number o.answer) ≡ true → (o.reader ≡ r) × (o.structure ≡ s) × (o.strings ≡ st)
