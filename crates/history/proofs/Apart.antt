-- A partition's call edits only a connector of its own, and a line that names that connector.
use Prim.Native.Nat.{ℕ, ◌-◌}
use mathlib.Core.Path.{◌≡◌, refl, ap, sym, ◌∙◌}
use mathlib.Core.Logic.{◌≢◌}
use mathlib.Core.List.{List, [], ◌∷◌, ◌++◌}
use borrow.Author.Tests.{eqb-true}
use lib.Dec.{eqb}
use lib.Seq.{get_or-set_other}
use Rattle.words.specs.Bytes.{word_at}
use Rattle.words.proofs.Pick.{pick-cases, every-each}
use Rattle.connector.specs.declared.Connector.{Connector}
use Rattle.connector.specs.Orders.{OrderStatus}
use Rattle.connector.specs.declared.orders.Change.{Change}
use Rattle.connector.specs.declared.orders.Change.TheVariants.{Kept, Moved, Released}
use Rattle.table.specs.Model.{Model, blank_connector, blank_line, moved_to, Edit, row, move_line, edits}
use Rattle.step_status.specs.declared.StepStatus.{StepStatus}
use Rattle.step_status.specs.Status.{is_refusal}
use Rattle.calls.specs.Calls as calls
use Rattle.calls.specs.Calls.{Answer, Configuring, is_resource, to_pool, own_at, order_edits, step_edits}
use Rattle.history.specs.Calls.{Call, platform, partition, set_indicator, get_sensor, configure, answer}
use Rattle.history.specs.Book.{Book}
use Rattle.history.specs.Holds.{connector, line, Untouched, Apart}
use Rattle.history.proofs.Kept.{Sound, by_index}
use Rattle.history.proofs.Lookups.{at-index}

module _ (m : Model) (b : Book) (ok : Sound m b) where
  abbrev Others : ℕ → List Edit → Type 0
  Others p es = Untouched m (edits m es) p

  none-touched : (p : ℕ) → Others p []
  none-touched p x h n = (refl, (λ j hj e. refl))

  module _ (p i : ℕ) (own : (connector m i).partition ≡ p) where
    not_own : (x : ℕ) → (connector m x).partition ≢ p → x ≢ i
    not_own x n z = n (ap (λ y. (connector m y).partition) z ∙ own)

    row-touched : (c : Connector) → Others p (row i c ∷ [])
    row-touched c x h n = (get_or-set_other m.connectors i x c blank_connector (not_own x n), (λ j hj e. refl))

    line-touched : (c : Connector) (y : ℕ) → (line m y).at ≡ (connector m i).index.0 → Others p (move_line y 0 ∷ row i c ∷ [])
    line-touched c y a x h n = (
      get_or-set_other m.connectors i x c blank_connector (not_own x n),
      (λ j hj e. get_or-set_other m.ledger y j (moved_to 0 (line m y)) blank_line (λ z. not_own x n (by_index m b ok x i h (sym e ∙ ap (λ u. (line m u).at) z ∙ a)))),
    )

    order-touched : (t : Change) (c : Connector) → Others p (order_edits m i (connector m i) t c)
    unfolding order_edits to_pool
    order-touched Kept c = none-touched p
    order-touched Moved c = row-touched c
    order-touched Released c =
        let r : ℕ = (connector m i).resource.0 in
        pick-cases (λ es. Others p (es ++ (row i c ∷ []))) _ _ _
        (λ e.
        let s = every-each (is_resource m r ∷ eqb (line m (r - 1)).at (connector m i).index.0 ∷ []) e in
        line-touched c (r - 1) (eqb-true (line m (r - 1)).at (connector m i).index.0 s.1.0))
        (λ _. row-touched c)

    step-touched : (n : StepStatus) (c : Connector) → Others p (step_edits i n c)
    unfolding step_edits
    step-touched n c = pick-cases (Others p) (is_refusal n) _ _ (λ _. none-touched p) (λ _. row-touched _)

  -- the partition's own connector, looked up
  own-at : {A : Type 0} (P : A → Type 0) (p k : ℕ) (found : ℕ → Connector → A) (none : A) → ((i : ℕ) → (connector m i).partition ≡ p → P (found i (connector m i))) → P none → P (own_at m p k found none)
  unfolding own_at
  own-at P p k found none f g =
      at-index m P k _ none (λ i _. pick-cases P (eqb (connector m i).partition p) (found i (connector m i)) none (λ o. f i (eqb-true (connector m i).partition p o)) (λ _. g)) (λ _. g)

  pub apart : (c : Call) → Apart m (edits m (answer m c).edits) c
  unfolding calls.set_indicator calls.configure
  apart (platform c) = tt
  apart (partition p (set_indicator token k value)) =
      own-at {A = Answer OrderStatus} (λ a. Others p a.edits) p k _ _
      (λ i o. order-touched p i o _ _)
      (none-touched p)
  apart (partition p (get_sensor token k)) = none-touched p
  apart (partition p (configure area s st)) =
      pick-cases {A = Configuring} (λ a. Others p a.answer.edits) _ _ _
      (λ _. own-at {A = Configuring} (λ a. Others p a.answer.edits) p (word_at area 0) _ _ (λ i o. step-touched p i o _ _) (none-touched p))
      (λ _. none-touched p)
