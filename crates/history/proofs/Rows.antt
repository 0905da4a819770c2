-- A connector that is looked up, and the moves of it, by its index.
use Prim.Native.Nat.{ℕ, suc, ◌-◌}
use mathlib.Core.Path.{◌≡◌, refl, sym, ◌∙◌}
use mathlib.Core.List.{List, [], ◌∷◌, map, map-map}
use mathlib.Core.Logic.{dite}
use mathlib.Core.Bool.{false}
use native.Mathlib.Decide.{ℕ_discrete}
use native.Mathlib.Omega.{arith}
use borrow.Author.Tests.{le-leb, eq-eqb}
use lib.Dec.{eqb, leb}
use lib.ListN.{set, length}
use lib.Seq.{set-get_or}
use Rattle.words.specs.Pick.{pick, every}
use Rattle.words.proofs.Pick.{pick_yes, each-every}
use Rattle.states.specs.declared.State.{State}
use Rattle.states.specs.declared.State.TheVariants.{Unusable}
use Rattle.states.specs.declared.Walk.{Walk}
use Rattle.connector.specs.Fields.{changed, with_step}
use Rattle.table.specs.Model.{Model, blank_connector, blank_line, row, move_line, edits}
use Rattle.calls.specs.Calls.{is_resource, to_pool, emptying}
use Rattle.history.specs.Book.{Entry, Book, booked_state, changed_at, state_by, move_state, wanted_as, emptied}
use Rattle.history.specs.Holds.{connector, line, entry_of}
use Rattle.history.proofs.Lists.{pick-eq, pick-ne, same_map}
use Rattle.history.proofs.Fair.{May}
use Rattle.history.proofs.Kept as kept
use Rattle.history.proofs.Kept.{Sound, entries_by, entry-by, line-within, by-line, steady}
use Rattle.history.proofs.Lookups.{Found, booked-at}

module _ (m : Model) (b : Book) (ok : Sound m b) (k i : ℕ) (f : Found m k i) where
  -- what the book says of its state
  pub book-state : booked_state k b.entries ≡ (connector m i).state
  book-state = rw (← ok.states, booked-at (λ e. e.state) Unusable refl k m.connectors, ← f.place)

  -- to another state, which the book's function says
  pub move : (s : State) (w : Walk) (g : State → State) → g (connector m i).state ≡ s → May (connector m) i s → Sound (edits m (row i (with_step s w (connector m i)) ∷ [])) (move_state k g b)
  move s w g e may =
      let r = (connector m i).resource in
      let u = (connector m i).wanted in
      rw f.index at (kept.moved m b ok i f.there s r w u may _ (entry-by m b ok i f.there s r w u (state_by g) (rw e)) (ok.unwanted i) refl)

  -- to the state where it is
  pub stay : (g : State → State) → g (connector m i).state ≡ (connector m i).state → Sound m (move_state k g b)
  stay g e = rw (set-get_or m.connectors i blank_connector) at (move (connector m i).state (connector m i).walk g e (steady m b ok i (connector m i).state (λ u. u) (λ u. u)))

  -- to another state, and no longer wanted back
  pub left-entries : (s : State) (w : Walk) (g : State → State) → g (connector m i).state ≡ s → map entry_of (set m.connectors i (changed s (record { 0 = 0 }) w false (connector m i))) ≡ map (changed_at k (wanted_as false)) (map (changed_at k (state_by g)) b.entries)
  left-entries s w g e =
      rw (map-map, ← f.index)
      (entries_by m b ok i f.there s (record { 0 = 0 }) w false (λ d. changed_at own (wanted_as false) (changed_at own (state_by g) d))
      (rw (pick-eq own own (state_by g (entry_of (connector m i))) (entry_of (connector m i)) refl) (pick-eq own own (wanted_as false (state_by g (entry_of (connector m i)))) (state_by g (entry_of (connector m i))) refl ∙ rw e))
      (λ d n. rw (pick-ne d.index own (state_by g d) d n) (pick-ne d.index own (wanted_as false d) d n)))
    where
      own : ℕ
      own = (connector m i).index.0

  -- what stands there goes to the pool
  to-pool : (j : ℕ) → (connector m i).resource.0 ≡ suc j → to_pool m (connector m i).resource.0 (connector m i).index.0 ≡ move_line j 0 ∷ []
  unfolding to_pool is_resource
  to-pool j e =
      let z : suc j - 1 ≡ j = omega arith in
      rw (e, z)
      (pick_yes _ _ _ (each-every (every (leb 1 (suc j) ∷ leb (suc j) (length m.ledger) ∷ []) ∷ eqb (line m j).at (connector m i).index.0 ∷ [])
      (each-every (leb 1 (suc j) ∷ leb (suc j) (length m.ledger) ∷ []) (le-leb 1 (suc j) (omega arith), (le-leb (suc j) (length m.ledger) (line-within m b ok i j e), tt)), (eq-eqb (line m j).at (connector m i).index.0 (ok.fair.stands i j e).1, tt))))

  none-to-pool : (connector m i).resource.0 ≡ 0 → to_pool m (connector m i).resource.0 (connector m i).index.0 ≡ []
  unfolding to_pool is_resource every pick
  none-to-pool e = rw e

  nothing-there : (connector m i).resource.0 ≡ 0 → b.places ≡ map (emptied k) b.places
  nothing-there e =
      rw (← ok.places, map-map)
      (same_map blank_line (λ l. l.at) (λ l. emptied k l.at) m.ledger m.ledger refl
      (λ y h. sym (pick-ne (line m y).at k 0 (line m y).at (λ z. omega (arith, by-line m b ok i y f.there (z ∙ sym f.index))))))

  pub emptying-kept : (s : State) (w : Walk) (es : List Entry) → May (connector m) i s → map entry_of (set m.connectors i (changed s (record { 0 = 0 }) w false (connector m i))) ≡ es → Sound (edits m (emptying m i (connector m i) (changed s (record { 0 = 0 }) w false (connector m i)))) (record { entries = es; places = map (emptied k) b.places; kinds = b.kinds })
  emptying-kept s w es may st =
      let r : ℕ = (connector m i).resource.0 in
      dite (ℕ_discrete r 0)
      (λ (e : r ≡ 0). rw (none-to-pool e, ← nothing-there e) (kept.moved m b ok i f.there s (record { 0 = 0 }) w false may es st (λ _. refl) (sym e)))
      (λ n.
      let e : r ≡ suc (r - 1) = omega arith in
      rw (to-pool (r - 1) e, ← f.index) (kept.taken m b ok i f.there s (record { 0 = 0 }) w false may es st (λ _. refl) (r - 1) (line-within m b ok i (r - 1) e) 0 refl refl e))
