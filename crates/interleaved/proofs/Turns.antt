-- What a call of the list is to the connector: one that leaves it as it stands, or the partition's own configure-connector, which answers as the record alone and steps it likewise.
use Prim.Native.Nat.{ℕ}
use mathlib.Core.Path.{◌≡◌, refl, ap, sym, subst, ◌∙◌}
use mathlib.Core.List.{List, [], ◌∷◌}
use mathlib.Core.Bool.{Bool, true, false, not, false≢true}
use borrow.Author.Tests.{eqb-true}
use lib.Dec.{eqb}
use lib.ListN.{length}
use Rattle.words.specs.Pick.{every}
use Rattle.words.specs.Bytes.{word_at}
use Rattle.words.proofs.Pick.{pick-cases, pick_yes, every-each, each-every}
use Rattle.same_trees.proofs.Same.{bytes-equal}
use Rattle.states.specs.declared.State.{State}
use Rattle.connector.specs.declared.Connector.{Connector}
use Rattle.step_status.specs.declared.StepStatus.{StepStatus}
use Rattle.step_status.specs.declared.StepStatus.TheVariants.{Complete, NextChild, NextProperty, PreviousParent, MoreMemory, Parameter, NotUnisolated, BadTree}
use Rattle.guards.specs.Guards.{is_area}
use Rattle.unowned.specs.Unowned.{unowned}
use Rattle.walk.specs.Step.{Outcome, step}
use Rattle.connector.specs.Fields.{with_step}
use Rattle.step_status.specs.Status.{is_refusal}
use Rattle.walk.specs.Laws.{state_after_step}
use Rattle.walk.proofs.Laws.{step-law}
use Rattle.emits.specs.Run.{reply_of, formed}
use Rattle.emits.proofs.Steps.{form-area}
use Rattle.table.specs.Layout.{word_count}
use Rattle.table.specs.Model.{Model, table_of, step_row, edits}
use Rattle.calls.specs.Calls as calls
use Rattle.calls.specs.Calls.{configure_at, step_edits}
use Rattle.calls.proofs.Own.{configure-form, configure-found}
use Rattle.history.specs.Calls.{set_indicator, get_sensor, configure, Call, platform, partition, words_after}
use Rattle.history.proofs.History.{means}
use Rattle.history.proofs.Refusals.{configure-quiet}
use Rattle.walk.proofs.Same.{Alike, Agree, step_same}
use Rattle.interleaved.specs.Between.{at_k, exchange, lent_by, is_replied, requested, exchanged, Fits, CallFits, call_formed}
use Rattle.interleaved.proofs.Stands.{begun, first, alike_then, Stands, own_row}
use Rattle.interleaved.proofs.Others as others

-- a work area that the walk wants, and the record refuses it
abbrev pub Refuses : (ℕ → Bool) → List ℕ → List ℕ → Connector → Type 0
Refuses u s st c = (area : List ℕ) × (formed c.walk.page (length area) ≡ true) × (is_refusal (step u c area s st).stepped.status ≡ true)

-- c is the record alone, t the table's words, x the call
pub data Turn (p k : ℕ) (s st : List ℕ) (c : Connector) (t : List ℕ) (x : Call) : Type 0 where
  other : exchanged p k t x ≡ []
      → (call_formed p k s st (table_of t) x ≡ true → Refuses (unowned (table_of t) p) s st c)
      → Stands p k c (table_of (words_after t x)).connectors
      → Turn p k s st c t x
  own : (area : List ℕ)
      → (let o = step (unowned (table_of t) p) c area s st in exchanged p k t x ≡ record { lent = lent_by p (table_of t) area; reply = reply_of o } ∷ [])
      → is_refusal (step (unowned (table_of t) p) c area s st).stepped.status ≡ false
      → Stands p k (step (unowned (table_of t) p) c area s st).stepped.connector (table_of (words_after t x)).connectors
      → Turn p k s st c t x

-- no step leads out of Unisolated and Configured
begun-after : (n : StepStatus) (q : State) → begun q ≡ true → begun (state_after_step n q) ≡ true
begun-after Complete q e = refl
begun-after NextChild q e = refl
begun-after NextProperty q e = refl
begun-after PreviousParent q e = refl
begun-after MoreMemory q e = refl
begun-after Parameter q e = e
begun-after NotUnisolated q e = e
begun-after (BadTree at) q e = e

-- ---- the partition's own call, on the table's model
module _ (p k : ℕ) (c : Connector) (m : Model) (h : Stands p k c m.connectors) where
  abbrev j : ℕ
  j = first k m.connectors

  -- the step's edits: none where it is refused
  after-step : (n : StepStatus) (v c' : Connector) → begun c'.state ≡ true → Alike c' v → (is_refusal n ≡ true → v ≡ at_k k m) → Stands p k c' (edits m (step_edits j n v)).connectors
  unfolding step_edits
  after-step n v c' b a f = pick-cases (λ es. Stands p k c' (edits m es).connectors) (is_refusal n) _ _ (λ r. kept (f r)) (λ _. moved)
    where
      moved : Stands p k c' (edits m (step_row j v.state v.walk ∷ [])).connectors
      moved = own_row p k c m.connectors h j (with_step v.state v.walk (at_k k m)) refl refl refl c' b (alike_then a (record { state = refl; walk = refl }))

      kept : v ≡ at_k k m → Stands p k c' m.connectors
      kept e = record { there = h.there; own = h.own; begins = b; alike = rw e at a }

  module _ (area s st : List ℕ) (index : word_at area 0 ≡ k) where
    abbrev form : Bool
    form = every (is_area (length area) ∷ eqb (word_at area 4) 0 ∷ [])

    found : form ≡ true → calls.configure m p area s st ≡ configure_at m area s st j (at_k k m)
    found f = configure-found m p area s st f j (at_k k m) (rw index) h.there refl h.own

    -- what is not refused passes step 1
    form-answered : (b : Bool) → form ≡ b → is_refusal (calls.configure m p area s st).answer.status ≡ false → form ≡ true
    form-answered true f e = f
    form-answered false f e = absurd (false≢true (sym e ∙ ap (λ a. is_refusal a.answer.status) (configure-form m p area s st f)))

    -- the step of the record alone, and that of the table's
    abbrev o : Outcome
    o = step (unowned m p) c area s st

    abbrev v : Outcome
    v = step (unowned m (at_k k m).partition) (at_k k m) area s st

    agrees : Agree o v
    agrees = rw h.own (step_same (unowned m p) c (at_k k m) h.alike area s st)

    -- the answer is that of the record alone
    own-status : form ≡ true → (calls.configure m p area s st).answer.status ≡ o.stepped.status
    own-status f = ap (λ a. a.answer.status) (found f) ∙ agrees.status

    own-exchange : form ≡ true → exchange (lent_by p m area) (calls.configure m p area s st) ≡ record { lent = lent_by p m area; reply = reply_of o }
    own-exchange f = ap (exchange (lent_by p m area)) (found f) ∙ cc (agrees.status, agrees.area)

    own-stands : form ≡ true → Stands p k o.stepped.connector (edits m (calls.configure m p area s st).answer.edits).connectors
    own-stands f =
        let law = step-law (unowned m p) c area s st in
        rw (found f)
        (after-step _ _ o.stepped.connector
        (rw law.state (begun-after o.stepped.status c.state h.begins))
        agrees.alike
        (λ e. ((step-law (unowned m (at_k k m).partition) (at_k k m) area s st).refusal e).0))

-- ---- any call, on the table's words
module _ (p k : ℕ) (s st : List ℕ) (c : Connector) (t : List ℕ) (n : length t ≡ word_count) (h : Stands p k c (table_of t).connectors) where
  module _ (q : ℕ) (area s' st' : List ℕ) where
    abbrev m : Model
    m = table_of t

    abbrev x : Call
    x = partition q (configure area s' st')

    abbrev is-own : Bool
    is-own = every (eqb q p ∷ eqb (word_at area 0) k ∷ [])

    abbrev status : StepStatus
    status = (calls.configure m q area s' st').answer.status

    -- the partition's own, and not refused
    replied : is-own ≡ true → is_refusal status ≡ false → Fits p k s st m q (configure area s' st') → Turn p k s st c t x
    unfolding requested exchanged
    replied e r f =
        let z = every-each (eqb q p ∷ eqb (word_at area 0) k ∷ []) e in
        let yes : is_replied p k m q area s' st' ≡ true = each-every (eqb q p ∷ eqb (word_at area 0) k ∷ not (is_refusal status) ∷ []) (z.0, (z.1.0, (rw r, tt))) in
        let g = f yes in
        let same : calls.configure m q area s' st' ≡ calls.configure m p area s st = cc (eqb-true q p z.0, g.0, g.1) in
        let index : word_at area 0 ≡ k = eqb-true (word_at area 0) k z.1.0 in
        let r' : is_refusal (calls.configure m p area s st).answer.status ≡ false = sym (ap (λ a. is_refusal a.answer.status) same) ∙ r in
        let ok = form-answered p k c m h area s st index (form p k c m h area s st index) refl r' in
        own area
        (pick_yes _ _ _ yes ∙ ap (λ y. y ∷ []) (cc (eqb-true q p z.0, same) ∙ own-exchange p k c m h area s st index ok))
        (sym (ap is_refusal (own-status p k c m h area s st index ok)) ∙ r')
        (rw (means t n x) (subst (λ a. Stands p k (step (unowned m p) c area s st).stepped.connector (edits m a.answer.edits).connectors) (sym same) (own-stands p k c m h area s st index ok)))

    -- refused: the record refuses it too, if it is well-formed
    not-replied : is_refusal status ≡ true → Turn p k s st c t x
    unfolding requested exchanged
    not-replied r =
        other (pick-cases (λ l. l ≡ []) _ _ _ (λ e. absurd (false≢true (rw r at (every-each (eqb q p ∷ eqb (word_at area 0) k ∷ not (is_refusal status) ∷ []) e).1.1.0))) (λ _. refl))
        (λ f.
        let z = every-each _ f in
        let index : word_at area 0 ≡ k = eqb-true (word_at area 0) k z.1.0 in
        let same : calls.configure m q area s' st' ≡ calls.configure m p area s st = cc (eqb-true q p z.0, bytes-equal s' s z.1.1.1.1.0, bytes-equal st' st z.1.1.1.1.1.0) in
        let wanted : formed c.walk.page (length area) ≡ true = rw (← h.alike.walk) z.1.1.1.0 in
        let ok = each-every (is_area (length area) ∷ eqb (word_at area 4) 0 ∷ []) (form-area c.walk.page (length area) wanted, (z.1.1.0, tt)) in
        (area, wanted, sym (ap is_refusal (ap (λ a. a.answer.status) same ∙ own-status p k c m h area s st index ok)) ∙ r))
        (rw (means t n x, (configure-quiet m q area s' st' r).0) h)

    -- another's, or of another connector
    not_own : is-own ≡ false → Turn p k s st c t x
    unfolding requested exchanged
    not_own e =
        let never : (eqb q p ≡ true) → (eqb (word_at area 0) k ≡ true) → ⊥ = λ a b. false≢true (sym e ∙ each-every (eqb q p ∷ eqb (word_at area 0) k ∷ []) (a, (b, tt))) in
        other (pick-cases (λ l. l ≡ []) _ _ _ (λ f. let z = every-each (eqb q p ∷ eqb (word_at area 0) k ∷ not (is_refusal status) ∷ []) f in absurd (never z.0 z.1.0)) (λ _. refl))
        (λ f. let z = every-each _ f in absurd (never z.0 z.1.0))
        (rw (means t n x) (others.configured p k c m h q area s' st' e))

    configured : Fits p k s st m q (configure area s' st') → Turn p k s st c t x
    configured f = go is-own refl (is_refusal status) refl
      where
        go : (b : Bool) → is-own ≡ b → (r : Bool) → is_refusal status ≡ r → Turn p k s st c t x
        go true e false g = replied e g f
        go true e true g = not-replied g
        go false e r g = not_own e

  pub turn : (x : Call) → CallFits p k s st (table_of t) x → Turn p k s st c t x
  unfolding requested exchanged
  turn (platform x) f = other refl (λ z. absurd (false≢true z)) (rw (means t n) (others.by-platform p k c (table_of t) h x))
  turn (partition q (set_indicator token x value)) f = other refl (λ z. absurd (false≢true z)) (rw (means t n) (others.indicated p k c (table_of t) h q token x value f))
  turn (partition q (get_sensor token x)) f = other refl (λ z. absurd (false≢true z)) (rw (means t n) h)
  turn (partition q (configure area s' st')) f = configured q area s' st' f
