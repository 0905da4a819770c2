-- What a partition sees of a connector that is wanted back: document 02, Ticket 6.
use Rattle.std.specs.Prelude.{ℕ, ◌<◌, ◌≡◌, ◌≢◌, List, [], ◌∷◌, Bool, true, false, not, pos, neg_ℤ, get_or, length}
use Rattle.std.specs.Bool.{xor}
use Rattle.words.specs.Pick.{pick, every}
use Rattle.states.specs.declared.State.TheVariants.{Unusable}
use Rattle.states.specs.States.{in_use}
use Rattle.connector.specs.Fields.{wanted_column}
use Rattle.connector.specs.Orders.{isolate, unisolate, usable, unusable}
use Rattle.table.specs.Layout.{connector_limit, row_cell}
use Rattle.table.specs.Model.{Model, table_of}
use Rattle.pool.specs.Pool.{free_count, free_lowest}
use Rattle.calls.specs.Calls as calls
use Rattle.calls.specs.Calls.{NamedOrder, none, some, order_named, own_at, added_number}
use Rattle.history.specs.Calls.{Call, platform, partition, add_connector, add_resource, place, retract, want_back, ask_pool, set_indicator, get_sensor, configure, answer, words_after}
use Rattle.history.specs.Holds.{connector}
use Rattle.history.specs.Refusals.{area_after, Own}

-- two tables' words that differ in one column alone, which says what is wanted back
pub record DifferInWanted (t t' : List ℕ) : Type 0 where
  pub size : length t ≡ length t'
  pub others : (x : ℕ) → ((i : ℕ) → i < connector_limit → x ≢ row_cell wanted_column i) → get_or t x 0 ≡ get_or t' x 0

-- what a call answers beside its status: the new resource's number, how many of a kind are free and the lowest of them, the sensor's value
abbrev pub beside : Model → Call → List ℕ
beside m (platform (add_connector kind k p parent)) = []
beside m (platform (add_resource kind)) = added_number m kind ∷ []
beside m (platform (place r k)) = []
beside m (platform (retract k)) = []
beside m (platform (want_back k)) = []
beside m (platform (ask_pool kind)) = free_count kind m.ledger ∷ free_lowest kind m.ledger ∷ []
beside m (partition p (set_indicator token k value)) = []
beside m (partition p (get_sensor token k)) = (calls.get_sensor m p token k).value ∷ []
beside m (partition p (configure area s st)) = []

abbrev pub is_usable : NamedOrder → Bool
is_usable none = false
is_usable (some isolate) = false
is_usable (some unisolate) = false
is_usable (some usable) = true
is_usable (some unusable) = false

-- where it may show: usable on the partition's own connector, which is Unusable, and wanted back in exactly one of the two tables
unfoldable pub may_show : Model → Model → Call → Bool
may_show m m' (platform c) = false
may_show m m' (partition p (set_indicator token k value)) =
    pick (is_usable (order_named token value))
    (own_at m p k (λ i c. every (not (in_use c.state) ∷ xor c.wanted (connector m' i).wanted ∷ [])) false)
    false
may_show m m' (partition p (get_sensor token k)) = false
may_show m m' (partition p (configure area s st)) = false

-- the same answer and the same work area on both, which again differ in that column alone
pub record Unseen (t t' : List ℕ) (c : Call) : Type 0 where
  pub status : (answer (table_of t) c).status ≡ (answer (table_of t') c).status
  pub numbers : beside (table_of t) c ≡ beside (table_of t') c
  pub area : area_after t c ≡ area_after t' c
  pub words : DifferInWanted (words_after t c) (words_after t' c)

pub record WantedSeen : Type 0 where
  -- every call, the platform's too, but for usable where it may show
  pub unseen : (t t' : List ℕ) (c : Call) → DifferInWanted t t' → may_show (table_of t) (table_of t') c ≡ false → Unseen t t' c
  -- while it stands, usable from Unusable is -3, and changes nothing
  pub refused : (t : List ℕ) (p token k value i : ℕ) → order_named token value ≡ some usable → Own (table_of t) p k i → (connector (table_of t) i).state ≡ Unusable → (connector (table_of t) i).wanted ≡ true
      → ((answer (table_of t) (partition p (set_indicator token k value))).status ≡ neg_ℤ (pos 3)) × (words_after t (partition p (set_indicator token k value)) ≡ t)
