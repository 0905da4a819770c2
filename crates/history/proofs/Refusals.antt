-- Demand 1: refusals and plain zeros change nothing. Assumes nothing.
use Prim.Native.Nat.{ℕ}
use mathlib.Core.Path.{◌≡◌, refl, ap, sym, ◌∙◌}
use mathlib.Core.List.{List, []}
use mathlib.Core.Bool.{Bool, true, false, false≢true}
use Rattle.words.specs.Bytes.{word_at}
use Rattle.words.proofs.Pick.{pick-cases, pick_yes}
use Rattle.states.specs.declared.State.{State}
use Rattle.states.specs.declared.State.TheVariants.{Unusable, Available, Unisolated, Configured}
use Rattle.connector.specs.declared.Connector.{Connector}
use Rattle.connector.specs.Orders.{OrderStatus, done, order_number, kept, isolate_in, unisolate_in, usable_in, unusable_in, isolate_of, unisolate_of, usable_of, unusable_of, Order, isolate, unisolate, usable, unusable, order_of}
use Rattle.connector.proofs.Laws.{order-law}
use Rattle.step_status.specs.declared.StepStatus.{StepStatus}
use Rattle.step_status.specs.declared.StepStatus.TheVariants.{Complete, NextChild, NextProperty, PreviousParent, MoreMemory, Parameter, NotUnisolated, BadTree}
use Rattle.step_status.specs.Status.{step_number, is_refusal}
use Rattle.unowned.specs.Unowned.{unowned}
use Rattle.walk.proofs.Laws.{step-law}
use Rattle.table.specs.Model.{Model, table_of, writes}
use Rattle.replies.specs.declared.Reading.{Reading}
use Rattle.replies.specs.declared.Reading.TheVariants.{Finished, Taken, Waiting, Senseless, NoRoom}
use Rattle.replies.specs.Replies.{reading_number}
use Rattle.reader.specs.Replies.{reply}
use Rattle.reader.proofs.Laws.{took, refused-same}
use Rattle.calls.specs.Calls as calls
use Rattle.calls.specs.Calls.{Answer, own_at, order_edits, order_answer, around, NamedOrder, none, some, order_named, order_in, step_edits, Configuring, configure_at}
use Rattle.calls.proofs.Own.{set_found}
use Rattle.history.specs.Calls.{Call, platform, partition, set_indicator, get_sensor, configure, answer, words_after}
use Rattle.history.specs.Holds.{connector}
use Rattle.history.specs.Refusals.{negative, area_of, area_after, plain_zero, Own, unread, Unchanged}
use Rattle.history.proofs.Lookups.{at-index}
use Rattle.history.proofs.Platform.{platform-law}

-- ---- an order
order-quiet : (m : Model) (i : ℕ) (c : Connector) (o : NamedOrder) → let a = order_answer m i c (order_in (around m c) o c) in negative (order_number a.status) ≡ true → a.edits ≡ []
unfolding order_in order_edits
order-quiet m i c none e = refl
order-quiet m i c (some o) e =
    let s = around m c in
    let r = order_of o s.slot_in_use s.parent_configured c in
    ap (λ x. order_edits m i c x r.connector) ((order-law o s.slot_in_use s.parent_configured c).refused (λ d. false≢true (ap (λ x. negative (order_number x)) (sym d) ∙ e)))

-- ---- a step
step-refuses : (n : StepStatus) → negative (step_number n) ≡ true → is_refusal n ≡ true
step-refuses Complete e = e
step-refuses NextChild e = e
step-refuses NextProperty e = e
step-refuses PreviousParent e = e
step-refuses MoreMemory e = e
step-refuses Parameter e = e
step-refuses NotUnisolated e = e
step-refuses (BadTree at) e = e

pub configure-quiet : (m : Model) (p : ℕ) (area s st : List ℕ) → let o = calls.configure m p area s st in is_refusal o.answer.status ≡ true → (o.answer.edits ≡ []) × (o.area ≡ area)
unfolding calls.configure own_at step_edits
configure-quiet m p area s st =
    pick-cases Still _ _ _
    (λ _. at-index m Still (word_at area 0) _ _ (λ i _. pick-cases Still _ _ _ (λ _. after-step i) (λ _ _. (refl, refl))) (λ _ _. (refl, refl)))
    (λ _ _. (refl, refl))
  where
    Still : Configuring → Type 0
    Still o = is_refusal o.answer.status ≡ true → (o.answer.edits ≡ []) × (o.area ≡ area)

    after-step : (i : ℕ) → Still (configure_at m area s st i (connector m i))
    after-step i e = (pick_yes _ _ _ e, ((step-law (unowned m (connector m i).partition) (connector m i) area s st).refusal e).1)

-- ---- any call
quiet : (m : Model) (c : Call) → negative (answer m c).status ≡ true → (answer m c).edits ≡ []
unfolding calls.set_indicator own_at
quiet m (platform c) = (platform-law m c).quiet
quiet m (partition p (set_indicator token k value)) =
    at-index m Silent k _ _ (λ i _. pick-cases Silent _ _ _ (λ _. order-quiet m i (connector m i) (order_named token value)) (λ _ _. refl)) (λ _ _. refl)
  where
    Silent : Answer OrderStatus → Type 0
    Silent a = negative (order_number a.status) ≡ true → a.edits ≡ []
quiet m (partition p (get_sensor token k)) = λ _. refl
quiet m (partition p (configure area s st)) = λ e. (configure-quiet m p area s st (step-refuses (calls.configure m p area s st).answer.status e)).0

area-kept : (t : List ℕ) (c : Call) → negative (answer (table_of t) c).status ≡ true → area_after t c ≡ area_of c
area-kept t (platform c) e = refl
area-kept t (partition p (set_indicator token k value)) e = refl
area-kept t (partition p (get_sensor token k)) e = refl
area-kept t (partition p (configure area s st)) e = (configure-quiet (table_of t) p area s st (step-refuses (calls.configure (table_of t) p area s st).answer.status e)).1

-- ---- a plain 0
module _ (x : Bool) (c : Connector) where
  isolate-plain : (s : State) → plain_zero isolate s ≡ true → isolate_in s x c ≡ kept done c
  isolate-plain Unusable e = refl
  isolate-plain Available e = refl
  isolate-plain Unisolated e = absurd (false≢true e)
  isolate-plain Configured e = absurd (false≢true e)

  unisolate-plain : (s : State) → plain_zero unisolate s ≡ true → unisolate_in s c ≡ kept done c
  unisolate-plain Unusable e = absurd (false≢true e)
  unisolate-plain Available e = absurd (false≢true e)
  unisolate-plain Unisolated e = refl
  unisolate-plain Configured e = refl

  usable-plain : (s : State) → plain_zero usable s ≡ true → usable_in s x c ≡ kept done c
  usable-plain Unusable e = absurd (false≢true e)
  usable-plain Available e = refl
  usable-plain Unisolated e = refl
  usable-plain Configured e = refl

  unusable-plain : (s : State) → plain_zero unusable s ≡ true → unusable_in s c ≡ kept done c
  unusable-plain Unusable e = refl
  unusable-plain Available e = absurd (false≢true e)
  unusable-plain Unisolated e = absurd (false≢true e)
  unusable-plain Configured e = absurd (false≢true e)

plain-kept : (o : Order) (x y : Bool) (c : Connector) → plain_zero o c.state ≡ true → order_of o x y c ≡ kept done c
unfolding order_of isolate_of unisolate_of usable_of unusable_of
plain-kept isolate x y c = isolate-plain x c c.state
plain-kept unisolate x y c = unisolate-plain x c c.state
plain-kept usable x y c = usable-plain y c c.state
plain-kept unusable x y c = unusable-plain x c c.state

plain-answer : (m : Model) (p token k value i : ℕ) (o : Order) → order_named token value ≡ some o → Own m p k i → plain_zero o (connector m i).state ≡ true → calls.set_indicator m p token k value ≡ record { status = done; edits = [] }
unfolding order_in order_edits
plain-answer m p token k value i o n w z =
    let c = connector m i in
    let a = around m c in
    set_found m p k i c w.first w.there refl token value w.own
    ∙ ap (λ x. order_answer m i c (order_in a x c)) n
    ∙ ap (order_answer m i c) (plain-kept o a.slot_in_use a.parent_configured c z)

-- ---- the reader
not_taken : (a : Reading) → unread (reading_number a) ≡ true → took a ≡ false
not_taken Finished e = absurd (false≢true e)
not_taken Taken e = absurd (false≢true e)
not_taken Waiting e = refl
not_taken Senseless e = refl
not_taken NoRoom e = refl

pub unchanged : Unchanged
unfolding words_after
unchanged =
    record {
      words = λ t c e. ap (writes t) (quiet (table_of t) c e);
      area = area-kept;
      plain = λ t p token k value i o n w z.
          let a = plain-answer (table_of t) p token k value i o n w z in
          (ap (λ x. order_number x.status) a, ap (λ x. writes t x.edits) a);
      reader = λ r n area s st e.
          let w = refused-same r n area s st (not_taken (reply r n area s st).answer e) in
          (w.reader, w.structure, w.strings);
    }
