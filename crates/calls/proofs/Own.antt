-- What get-sensor and configure-connector answer, by what their first tests find.
use mathlib.Core.Path.{◌≡◌}
use mathlib.Core.List.{List, [], ◌∷◌}
use mathlib.Core.Bool.{true, false}
use Prim.Native.Nat.{ℕ, ◌<◌}
use lib.ListN.{get_or, length}
use lib.Dec.{eqb}
use borrow.Author.Tests.{ne_eqb}
use Rattle.words.specs.Pick.{pick, every}
use Rattle.words.specs.Bytes.{word_at}
use Rattle.connector.specs.declared.Connector.{Connector}
use Rattle.std.specs.Prelude.{Err}
use Rattle.connector.specs.Orders.{OrderStatus}
use Rattle.connector.specs.declared.orders.OrderRefusal.TheVariants.{Parameter}
use Rattle.table.specs.Model.{Model, blank_connector, position, has_index}
use Rattle.guards.specs.Guards.{is_area}
use Rattle.calls.specs.Calls.{Answer, refused, order_answer, around, order_named, order_in, set_indicator, sensed, get_sensor, configure, configure_at, not_configured, Configuring, Answered}
use Rattle.step_status.specs.declared.StepStatus.{StepStatus}
use Rattle.calls.proofs.Look.{own-found}

-- what set-indicator answers at an own connector
abbrev indicated : Model → ℕ → ℕ → ℕ → Connector → Answer OrderStatus
indicated m token value i c = order_answer m i c (order_in (around m c) (order_named token value) c)

pub set_found : (m : Model) (p k i : ℕ) (c : Connector) → i ≡ position (has_index k) m.connectors → i < length m.connectors → c ≡ get_or m.connectors i blank_connector
    → (token value : ℕ) → c.partition ≡ p → set_indicator m p token k value ≡ indicated m token value i c
unfolding set_indicator
set_found m p k i c e h g token value n = own-found m p k (indicated m token value) (refused (Err Parameter)) i c e h g n

-- no other token than 9003 is sensed
pub sensor-token : (m : Model) (p token k : ℕ) → (token ≡ 9003 → ⊥) → get_sensor m p token k ≡ sensed (Err Parameter)
unfolding get_sensor pick
sensor-token m p token k n = simp (ne_eqb _ _ n)

-- ---- configure-connector

module _ (m : Model) (p : ℕ) (area s st : List ℕ) where
  pub configure-form : every (is_area (length area) ∷ eqb (word_at area 4) 0 ∷ []) ≡ false → configure m p area s st ≡ not_configured area
  unfolding configure pick
  configure-form f = simp f

  module _ (f : every (is_area (length area) ∷ eqb (word_at area 4) 0 ∷ []) ≡ true) (i : ℕ) (c : Connector) (e : i ≡ position (has_index (word_at area 0)) m.connectors) (h : i < length m.connectors) (g : c ≡ get_or m.connectors i blank_connector) where
    pub configure-found : c.partition ≡ p → configure m p area s st ≡ configure_at m area s st i c
    unfolding configure pick
    configure-found n = simp f (own-found m p (word_at area 0) (configure_at m area s st) (not_configured area) i c e h g n)

-- an answer that is another, with the work area
pub answered-by : (t t' : List ℕ) (area : List ℕ) (n : StepStatus) (a : Configuring) {a' : Configuring} → a ≡ a' → Answered t t' n a'.answer → area ≡ a'.area → Answered t t' n a.answer × (area ≡ a.area)
answered-by t t' area n a e w f = rw e (w, f)
