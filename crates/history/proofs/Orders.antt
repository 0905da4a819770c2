-- Set-indicator keeps the invariant: each order, state by state.
use Prim.Native.Nat.{ℕ, zero, suc, ◌≤◌}
use native.Mathlib.Omega.{arith}
use mathlib.Core.Path.{◌≡◌, refl, ap, sym, ◌∙◌}
use mathlib.Core.Logic.{◌≢◌}
use mathlib.Core.List.{[], ◌∷◌}
use mathlib.Core.Bool.{Bool, true, false, false≢true, not}
use borrow.Author.Tests.{eq-eqb, ne_eqb, le-leb, not-false}
use lib.Dec.{eqb, leb}
use Rattle.words.specs.Pick.{pick, any}
use Rattle.words.proofs.Pick.{pick-cases, pick_yes, each-every}
use Rattle.states.specs.declared.State.{State}
use Rattle.states.specs.declared.State.TheVariants.{Unusable, Available, Unisolated, Configured}
use Rattle.connector.specs.declared.Connector.{Connector}
use Rattle.states.specs.States.{start, in_use}
use Rattle.kinds.specs.Kinds.{phb, slot}
use Rattle.connector.specs.Orders.{OrderStatus, order_number, occupied, unready, isolate_in, unisolate_in, usable_in, unusable_in, isolate_of, unisolate_of, usable_of, unusable_of, isolate, unisolate, usable, unusable, order_of}
use Rattle.connector.specs.Laws.{state_after_order}
use Rattle.table.specs.Model.{Model, blank_connector, slot_below}
use Rattle.calls.specs.Calls as calls
use Rattle.calls.specs.Calls.{Answer, configured_at, own_at, order_edits, order_answer, around, NamedOrder, none, some, order_named, order_in}
use Rattle.history.specs.Calls.{partition, set_indicator}
use Rattle.history.specs.Book.{Book, move_state, after_order, after_named, entered}
use Rattle.history.specs.Holds.{connector, line}
use Rattle.history.proofs.Lists.{any_none}
use Rattle.history.proofs.Fair.{May, below_at}
use Rattle.history.proofs.Kept.{Sound, within, steady}
use Rattle.history.proofs.Lookups.{at-index, configured-at, Found, fed-on, Keeps, Leaves}
use Rattle.history.proofs.Rows.{book-state, move, stay, left-entries, emptying-kept}

-- an answer, with the book for status 0
abbrev After : Model → Book → Answer OrderStatus → Book → Type 0
After m b a b' = Leaves m b (order_number a.status) a.edits b'

ready : (wanted empty orphan configured : Bool) → pick wanted true (pick empty true (pick orphan false (not configured))) ≡ false → orphan ≡ false → configured ≡ true
unfolding pick
ready true n o t e z = absurd (false≢true (sym e))
ready false true o t e z = absurd (false≢true (sym e))
ready false false true t e z = absurd (false≢true (sym z))
ready false false false t e z = not-false t e

given-one : (n : ℕ) → n ≢ 0 → 1 ≤ n
given-one zero h = absurd (h refl)
given-one (suc n) h = omega arith

module _ (m : Model) (b : Book) (ok : Sound m b) (k i : ℕ) (f : Found m k i) where
  abbrev c : Connector
  c = connector m i

  -- ---- isolate
  not-occupied : c.state ≡ Configured → occupied (any (slot_below c.index.0) m.connectors) c ≡ false → May (connector m) i Available
  unfolding occupied
  not-occupied q e =
      let below : Bool = any (slot_below c.index.0) m.connectors in
      record {
        rise = λ _ n y p. below_at (connector m) (line m) ok.fair i y n p (rw q);
        leave = λ _ p x px pe u.
            let none : below ≡ false = sym (pick_yes (eqb c.kind phb) below false (eq-eqb c.kind phb p)) ∙ e in
            let given : (connector m x).parent.0 ≢ 0 = λ z. ok.seen i f.there (sym pe ∙ z) in
            let h = within m (λ d. d.parent.0) refl x given in
            sym (any_none blank_connector (slot_below c.index.0) m.connectors none x h)
            ∙ each-every (eqb (connector m x).kind slot ∷ leb 1 (connector m x).parent.0 ∷ eqb (connector m x).parent.0 c.index.0 ∷ in_use (connector m x).state ∷ []) (eq-eqb (connector m x).kind slot px, (le-leb 1 (connector m x).parent.0 (given-one (connector m x).parent.0 given), (eq-eqb (connector m x).parent.0 c.index.0 pe, (u, tt))));
      }

  isolated : (s : State) → c.state ≡ s → After m b (order_answer m i c (isolate_in s (any (slot_below c.index.0) m.connectors) c)) (move_state k (state_after_order isolate) b)
  unfolding order_edits
  isolated Unusable q = stay m b ok k i f (state_after_order isolate) (rw q)
  isolated Available q = stay m b ok k i f (state_after_order isolate) (rw q)
  isolated Unisolated q = move m b ok k i f Available start (state_after_order isolate) (rw q) (steady m b ok i Available (λ _. rw q) (λ z. absurd (false≢true (rw q at z))))
  isolated Configured q =
      pick-cases (λ o. After m b (order_answer m i c o) (move_state k (state_after_order isolate) b)) _ _ _
      (λ _. ok)
      (λ e. move m b ok k i f Available c.walk (state_after_order isolate) (rw q) (not-occupied q e))

  -- ---- unisolate
  unisolated : (s : State) → c.state ≡ s → After m b (order_answer m i c (unisolate_in s c)) (move_state k (state_after_order unisolate) b)
  unfolding order_edits
  unisolated Unusable q = ok
  unisolated Available q = move m b ok k i f Unisolated start (state_after_order unisolate) (rw q) (steady m b ok i Unisolated (λ _. rw q) (λ z. absurd (false≢true (rw q at z))))
  unisolated Unisolated q = stay m b ok k i f (state_after_order unisolate) (rw q)
  unisolated Configured q = stay m b ok k i f (state_after_order unisolate) (rw q)

  -- ---- usable
  parent-ready : unready (configured_at m c.parent.0) c ≡ false → c.parent.0 ≢ 0 → configured_at m c.parent.0 ≡ true
  unfolding unready
  parent-ready e n = ready c.wanted (eqb c.resource.0 0) (eqb c.parent.0 0) (configured_at m c.parent.0) e (ne_eqb c.parent.0 0 n)

  used : (s : State) → c.state ≡ s → After m b (order_answer m i c (usable_in s (configured_at m c.parent.0) c)) (move_state k (state_after_order usable) b)
  unfolding order_edits
  used Unusable q =
      pick-cases (λ o. After m b (order_answer m i c o) (move_state k (state_after_order usable) b)) _ _ _
      (λ _. ok)
      (λ e.
      move m b ok k i f Available c.walk (state_after_order usable) (rw q)
      (record {
        rise = λ _ n y p. sym (configured-at m b ok y (λ z. n (sym p ∙ z))) ∙ ap (configured_at m) p ∙ parent-ready e n;
        leave = λ z. absurd (false≢true (rw q at z));
      }))
  used Available q = stay m b ok k i f (state_after_order usable) (rw q)
  used Unisolated q = stay m b ok k i f (state_after_order usable) (rw q)
  used Configured q = stay m b ok k i f (state_after_order usable) (rw q)

  -- ---- unusable
  unused : (s : State) → c.state ≡ s → After m b (order_answer m i c (unusable_in s c)) (after_order k b unusable)
  unfolding order_edits after_order pick
  unused Unusable q = rw (book-state m b ok k i f, q) (ok)
  unused Available q =
      rw (book-state m b ok k i f, q)
      (emptying-kept m b ok k i f Unusable c.walk _ (steady m b ok i Unusable (λ z. absurd (false≢true z)) (λ z. absurd (false≢true (rw q at z))))
      (left-entries m b ok k i f Unusable c.walk (state_after_order unusable) (rw q)))
  unused Unisolated q = ok
  unused Configured q = ok

  by : (o : NamedOrder) → After m b (order_answer m i c (order_in (around m c) o c)) (after_named k b o)
  unfolding order_in order_edits order_of after_order isolate_of unisolate_of usable_of unusable_of
  by none = ok
  by (some isolate) = isolated c.state refl
  by (some unisolate) = unisolated c.state refl
  by (some usable) = used c.state refl
  by (some unusable) = unused c.state refl

pub indicator-kept : (m : Model) (b : Book) → Sound m b → (p token k value : ℕ) → Keeps m b (partition p (set_indicator token k value))
unfolding calls.set_indicator own_at entered
indicator-kept m b ok p token k value =
    rw fed-on
    (at-index m Done k _ _
    (λ i f. pick-cases Done _ _ _ (λ _. by m b ok k i f (order_named token value)) (λ _. ok))
    (λ _. ok))
  where
    Done : Answer OrderStatus → Type 0
    Done a = After m b a (after_named k b (order_named token value))
