-- A call leaves the connector as it stands, unless it is its partition's own configure-connector or isolate of it.
use Prim.Native.Nat.{ℕ}
use mathlib.Core.Path.{◌≡◌, refl, ap, sym, ◌∙◌}
use mathlib.Core.List.{List, [], ◌∷◌, ◌++◌}
use mathlib.Core.Bool.{Bool, true, false, false≢true}
use native.Mathlib.Omega.{arith}
use borrow.Author.Tests.{eqb-true, eq-eqb}
use lib.Dec.{eqb}
use Rattle.words.specs.Pick.{every}
use Rattle.words.specs.Bytes.{word_at}
use Rattle.words.proofs.Pick.{pick-cases, each-every}
use Rattle.states.specs.declared.State.{State}
use Rattle.states.specs.declared.State.TheVariants.{Unusable, Available, Unisolated, Configured}
use Rattle.connector.specs.declared.Connector.{Connector}
use Rattle.connector.specs.Orders.{OrderStatus}
use Rattle.connector.specs.declared.orders.Change.{Change}
use Rattle.connector.specs.declared.orders.Change.TheVariants.{Kept, Moved, Released}
use Rattle.connector.specs.Orders.{Order, isolate, unisolate, usable, unusable, unisolate_in, usable_in, unusable_in, unisolate_of, usable_of, unusable_of, order_of}
use Rattle.connector.proofs.Laws.{order-law}
use Rattle.step_status.specs.declared.StepStatus.{StepStatus}
use Rattle.step_status.specs.Status.{is_refusal}
use Rattle.table.specs.Model.{Model, blank_connector, has_index, add_up_to, Edit, row as write_row, move_line, edit, edits}
use Rattle.calls.specs.Calls as calls
use Rattle.calls.specs.Calls.{Answer, Configuring, to_pool, own_at, order_edits, order_answer, around, NamedOrder, none, some, order_named, order_in, step_edits}
use Rattle.history.specs.Calls.{PlatformCall, platform_answer}
use Rattle.history.proofs.Lists.{position-passes}
use Rattle.history.proofs.Lookups.{Found, at-index}
use Rattle.history.proofs.Platform.{Calm, nothing, row_more, line_more, stored, moved, platform-law}
use Rattle.walk.proofs.Same.{Alike}
use Rattle.interleaved.specs.Between.{is_isolate}
use Rattle.interleaved.proofs.Stands.{begun, first, row, Stands, any-row, more_rows}

-- ---- orders

-- what holds of each order that a token and a value may name
by-each : (P : NamedOrder → Type 0) (o : NamedOrder) → (is_isolate o ≡ true → P (some isolate)) → P (some unisolate) → P (some usable) → P (some unusable) → P none → P o
by-each P none i u y n z = z
by-each P (some isolate) i u y n z = i refl
by-each P (some unisolate) i u y n z = u
by-each P (some usable) i u y n z = y
by-each P (some unusable) i u y n z = n

unisolate-kept : (s : State) (c : Connector) → begun s ≡ true → (unisolate_in s c).change ≡ Kept
unisolate-kept Unusable c e = absurd (false≢true e)
unisolate-kept Available c e = absurd (false≢true e)
unisolate-kept Unisolated c e = refl
unisolate-kept Configured c e = refl

usable-kept : (s : State) (b : Bool) (c : Connector) → begun s ≡ true → (usable_in s b c).change ≡ Kept
usable-kept Unusable b c e = absurd (false≢true e)
usable-kept Available b c e = absurd (false≢true e)
usable-kept Unisolated b c e = refl
usable-kept Configured b c e = refl

unusable-kept : (s : State) (c : Connector) → begun s ≡ true → (unusable_in s c).change ≡ Kept
unusable-kept Unusable c e = absurd (false≢true e)
unusable-kept Available c e = absurd (false≢true e)
unusable-kept Unisolated c e = refl
unusable-kept Configured c e = refl

module _ (p k : ℕ) (c : Connector) (m : Model) (h : Stands p k c m.connectors) where
  -- the connector stands the same after the edits
  abbrev After : List Edit → Type 0
  After es = Stands p k c (edits m es).connectors

  -- ---- the platform's calls
  abbrev at : ℕ → Connector
  at i = row m.connectors i

  -- row i is written
  module _ (i : ℕ) (v : Connector) (index : v.index.0 ≡ (at i).index.0) (partition : v.partition ≡ (at i).partition) (same : i ≡ first k m.connectors → Alike (at i) v) where
    written : After (write_row i v ∷ [])
    written = any-row p k c m.connectors h i v index partition same

    emptied : (r x : ℕ) → After (to_pool m r x ++ (write_row i v ∷ []))
    unfolding to_pool
    emptied r x = pick-cases (λ es. After (es ++ (write_row i v ∷ []))) _ _ _ (λ _. written) (λ _. written)

  -- calm edits of a table with the same connectors
  by-calm : (m' : Model) → m'.connectors ≡ m.connectors → {es : List Edit} → Calm m es → Stands p k c (edits m' es).connectors
  unfolding add_up_to
  by-calm m' e nothing = rw e h
  by-calm m' e (row_more v) = rw e (pick-cases (Stands p k c) _ _ _ (λ _. more_rows p k c m.connectors h _) (λ _. h))
  by-calm m' e (line_more kind) = rw e h
  by-calm m' e (stored i v x q s) = rw e (written i v x q (λ _. record { state = s.0; walk = s.1 }))
  by-calm m' e (moved j y s) = by-calm (edit m' (move_line j y)) e s

  pub by-platform : (x : PlatformCall) → After (platform_answer m x).edits
  by-platform x = by-calm m refl (platform-law m x).calm

  -- ---- the partitions' calls
  -- a partition that looks the connector up as its own is p
  mine : (q x i : ℕ) → Found m x i → (at i).partition ≡ q → i ≡ first k m.connectors → (eqb q p ≡ true) × (eqb x k ≡ true)
  mine q x i f o e =
      let is : (at (first k m.connectors)).index.0 ≡ k = eqb-true _ k (position-passes blank_connector (has_index k) m.connectors h.there) in
      (eq-eqb q p (sym o ∙ rw e h.own), eq-eqb x k (sym f.index ∙ rw e is))

  changed : (i : ℕ) (t : Change) (v : Connector) → v.index.0 ≡ (at i).index.0 → v.partition ≡ (at i).partition → (i ≡ first k m.connectors → t ≡ Kept) → After (order_edits m i (at i) t v)
  unfolding order_edits
  changed i Kept v x q e = h
  changed i Moved v x q e = written i v x q (λ z. absurd (let y = e z in let n : ◌≡◌ {A = ℕ} 0 1 = cc in omega arith))
  changed i Released v x q e = emptied i v x q (λ z. absurd (let y = e z in let n : ◌≡◌ {A = ℕ} 0 1 = cc in omega arith)) _ _

  ordered : (i : ℕ) (o : Order) → (i ≡ first k m.connectors → (order_in (around m (at i)) (some o) (at i)).change ≡ Kept) → After (order_answer m i (at i) (order_in (around m (at i)) (some o) (at i))).edits
  unfolding order_in
  ordered i o e =
      let a = around m (at i) in
      let law = order-law o a.slot_in_use a.parent_configured (at i) in
      changed i _ _ (ap (λ x. x.index.0) law.only) (ap (λ x. x.partition) law.only) e

  pub indicated : (q token x value : ℕ) → every (eqb q p ∷ eqb x k ∷ is_isolate (order_named token value) ∷ []) ≡ false → After (calls.set_indicator m q token x value).edits
  unfolding calls.set_indicator own_at order_in order_edits order_of unisolate_of usable_of unusable_of
  indicated q token x value n =
      at-index {A = Answer OrderStatus} m (λ a. After a.edits) x _ _
      (λ i f.
      pick-cases {A = Answer OrderStatus} (λ a. After a.edits) (eqb (at i).partition q) _ _
      (λ o.
      let b : i ≡ first k m.connectors → begun (at i).state ≡ true = λ e. rw e (rw h.alike.state h.begins) in
      by-each (λ o. After (order_answer m i (at i) (order_in (around m (at i)) o (at i))).edits) (order_named token value)
      (λ t.
      ordered i isolate
      (λ e.
      let z = mine q x i f (eqb-true (at i).partition q o) e in
      absurd (false≢true (sym n ∙ each-every (eqb q p ∷ eqb x k ∷ is_isolate (order_named token value) ∷ []) (z.0, (z.1, (t, tt)))))))
      (ordered i unisolate (λ e. unisolate-kept (at i).state (at i) (b e)))
      (ordered i usable (λ e. usable-kept (at i).state _ (at i) (b e)))
      (ordered i unusable (λ e. unusable-kept (at i).state (at i) (b e)))
      h)
      (λ _. h))
      (λ _. h)

  after-step : (i : ℕ) (n : StepStatus) (v : Connector) → (i ≡ first k m.connectors → ⊥) → After (step_edits i n v)
  unfolding step_edits
  after-step i n v e = pick-cases After (is_refusal n) _ _ (λ _. h) (λ _. written i _ refl refl (λ z. absurd (e z)))

  pub configured : (q : ℕ) (area s st : List ℕ) → every (eqb q p ∷ eqb (word_at area 0) k ∷ []) ≡ false → After (calls.configure m q area s st).answer.edits
  unfolding calls.configure own_at
  configured q area s st n =
      pick-cases {A = Configuring} (λ a. After a.answer.edits) _ _ _
      (λ _.
      at-index {A = Configuring} m (λ a. After a.answer.edits) (word_at area 0) _ _
      (λ i f.
      pick-cases {A = Configuring} (λ a. After a.answer.edits) (eqb (at i).partition q) _ _
      (λ o.
      after-step i _ _
      (λ e. let z = mine q (word_at area 0) i f (eqb-true (at i).partition q o) e in false≢true (sym n ∙ each-every (eqb q p ∷ eqb (word_at area 0) k ∷ []) (z.0, (z.1, tt)))))
      (λ _. h))
      (λ _. h))
      (λ _. h)
