-- A call on a record whose walk can go on consumes the next token that is sent, or asks for the second page.
use mathlib.Core.Path.{◌≡◌, refl, ap, sym, subst, ◌∙◌}
use mathlib.Core.List.{List, [], ◌∷◌}
use mathlib.Core.Bool.{Bool, true, false, false≢true}
use mathlib.Core.Logic.{⊎_elim}
use Prim.Native.Nat.{ℕ, ◌+◌, ◌-◌, ◌<◌, ◌≤◌, ◌%◌}
use native.Mathlib.Omega.{arith}
use lib.ListN.{length, drop}
use lib.Dec.{eqb, leb, ltb}
use borrow.Author.Tests.{leb-true, leb-false, ltb-true, eqb-true, eq-eqb, ne_eqb, le-leb, lt-leb}
use Rattle.words.specs.Pick.{pick, every}
use Rattle.words.specs.Bytes.{part}
use Rattle.words.proofs.Pick.{pick-cases, pick-and, pick-either, pick-unless, every-each, each-every}
use Rattle.buffer.proofs.Put.{length_part}
use Rattle.devtree.specs.Tokens.{tokens, and_then}
use Rattle.devtree.specs.Tree.{Event, begin, prop, end, events_of, events_from}
use Rattle.devtree.specs.Check.{last_token, closes, one_root, nested, ordered, well_formed, passes}
use Rattle.devtree.specs.declared.Token.{Token}
use Rattle.devtree.specs.declared.Token.TheVariants.{Begin, Property, EndNode, End, Fault}
use Rattle.devtree.proofs.Tokens.{Within, Named, tokens-are}
use Rattle.sent.specs.Sent.{next_sent}
use Rattle.sent.proofs.Laws.{sent-in, sent-named}
use Rattle.sent_trees.specs.Trees.{at_next}
use Rattle.sent_trees.proofs.Events.{sent_events}
use Rattle.devtree.proofs.Tree.{ended, passes-formed}
use Rattle.states.specs.declared.State.TheVariants.{Unisolated, Configured}
use Rattle.states.specs.declared.Page.{Page}
use Rattle.states.specs.declared.Page.TheVariants.{None, Asked, Taken}
use Rattle.connector.specs.declared.Connector.{Connector}
use Rattle.states.specs.States.{start}
use Rattle.step_status.specs.declared.StepStatus.{StepStatus}
use Rattle.step_status.specs.declared.StepStatus.TheVariants.{Complete, NextChild, NextProperty, PreviousParent, Parameter, NotUnisolated}
use Rattle.connector.specs.Fields.{with_step}
use Rattle.guards.specs.Guards.{page_after, readable, is_area, is_unisolated, pages_meet}
use Rattle.stepped.specs.Stepped.{step_to, end_stepped}
use Rattle.walk.specs.Step.{Outcome, refused, replied, asking, on_begin, on_property, consume, step}
use Rattle.step_status.specs.Status.{is_refusal}
use Rattle.walk.proofs.Tests.{step-area, step-state, step-pages, step-token}
use Rattle.walk.proofs.Area.{room_for}
use Rattle.emits.specs.Run.{ends, is_complete, formed}
use Rattle.emits.specs.Emits.{needed}
use Rattle.emits.proofs.Fours.{Fours, token-four}
use Rattle.emits.proofs.Ordered.{root-closes}
use Rattle.emits.proofs.Lands.{Rest, order-any, OnceTaken, Landed, lands}

pub record Sized (s st : List ℕ) : Type 0 where
  pub structure : length s ≤ 32768
  pub fours : length s % 4 ≡ 0
  pub strings : length st ≤ 4096

-- a record whose walk can go on to the end of the tree
pub record Ready (s st : List ℕ) (c : Connector) : Type 0 where
  pub state : c.state ≡ Unisolated
  pub four : c.walk.place % 4 ≡ 0
  pub rest : Rest s c.walk.depth (tokens s st c.walk.place)
  pub order : ordered false (tokens s st c.walk.place) ≡ true

-- the events that are left to send, with what is unowned at each call that takes a token
abbrev pub Left : List ℕ → List ℕ → List (ℕ → Bool) → Connector → List Event
Left s st us c = sent_events us c.walk.depth 0 (events_from s st c.walk.place)

-- the record with its walk elsewhere
abbrev pub standing : ℕ → ℕ → Page → Connector → Connector
standing place depth page c = with_step Unisolated (record { place = place; depth = depth; page = page }) c

-- the record with the token's walk past it, and the page as the work area says
abbrev pub past : ℕ → ℕ → List ℕ → Connector → Connector
past next depth a c = standing next depth (page_after (length a)) c

-- what a call on the record c, which lends the work area a and a table in which u is unowned, tells of the events that are left, and the record that it leaves
pub data Telling (s st : List ℕ) (u : ℕ → Bool) (c : Connector) (a : List ℕ) : Outcome → Type 0 where
  began : (next : ℕ) (name : List ℕ)
      → c.walk.depth < 8
      → ((us : List (ℕ → Bool)) → Left s st (u ∷ us) c ≡ begin name ∷ Left s st us (past next (c.walk.depth + 1) a c))
      → Ready s st (past next (c.walk.depth + 1) a c)
      → Telling s st u c a (replied NextChild next (c.walk.depth + 1) (begin name) c a)
  valued : (next : ℕ) (name value : List ℕ)
      → 1 ≤ c.walk.depth
      → needed name value ≤ length a
      → ((us : List (ℕ → Bool)) → Left s st (u ∷ us) c ≡ prop name value ∷ Left s st us (past next c.walk.depth a c))
      → Ready s st (past next c.walk.depth a c)
      → Telling s st u c a (replied NextProperty next c.walk.depth (prop name value) c a)
  asked : (name value : List ℕ) (es : List (ℕ → Bool) → List Event)
      → 1 ≤ c.walk.depth
      → length a ≡ 4096
      → length a < needed name value
      → ((us : List (ℕ → Bool)) → Left s st us c ≡ prop name value ∷ es us)
      → Ready s st (standing c.walk.place c.walk.depth Asked c)
      → Telling s st u c a (asking c a)
  closed : (next : ℕ)
      → 2 ≤ c.walk.depth
      → ((us : List (ℕ → Bool)) → Left s st (u ∷ us) c ≡ end ∷ Left s st us (past next (c.walk.depth - 1) a c))
      → Ready s st (past next (c.walk.depth - 1) a c)
      → Telling s st u c a (record { stepped = step_to PreviousParent next (c.walk.depth - 1) (length a) c; area = a })
  completed : c.walk.depth ≡ 1
      → ((us : List (ℕ → Bool)) → Left s st (u ∷ us) c ≡ end ∷ [])
      → Telling s st u c a (record { stepped = record { status = Complete; connector = with_step Configured start c }; area = a })

-- a work area of the right form is one page or two, as the walk wants it
pub form-area : (page : Page) (n : ℕ) → formed page n ≡ true → is_area n ≡ true
unfolding pick
form-area None n e = rw e
form-area Asked n e = e
form-area Taken n e = rw (eqb-true n 8192 e)

form-meets : (page : Page) (n : ℕ) → formed page n ≡ true → pages_meet page n ≡ true
form-meets None n e = e
form-meets Asked n e = refl
form-meets Taken n e = e

pub meets-form : (page : Page) (n : ℕ) → is_area n ≡ true → pages_meet page n ≡ true → formed page n ≡ true
meets-form None n a e = e
meets-form Asked n a e = a
meets-form Taken n a e = e

-- only a call that lends a work area of the right form is not refused
pub answered-form : (u : ℕ → Bool) (c : Connector) (a s st : List ℕ) → is_refusal (step u c a s st).stepped.status ≡ false → formed c.walk.page (length a) ≡ true
answered-form u c a s st e = go (is_area (length a)) refl (is_unisolated c.state) refl (pages_meet c.walk.page (length a)) refl
  where
    never : (n : StepStatus) → is_refusal n ≡ true → step u c a s st ≡ refused n c a → ⊥
    never n r q = false≢true (sym e ∙ ap (λ o. is_refusal o.stepped.status) q ∙ r)

    go : (x : Bool) → is_area (length a) ≡ x → (y : Bool) → is_unisolated c.state ≡ y → (z : Bool) → pages_meet c.walk.page (length a) ≡ z → formed c.walk.page (length a) ≡ true
    go false f y g z h = absurd (never Parameter refl (step-area u c a s st f))
    go true f false g z h = absurd (never NotUnisolated refl (step-state u c a s st f g))
    go true f true g false h = absurd (never Parameter refl (step-pages u c a s st f g h))
    go true f true g true h = meets-form c.walk.page (length a) f h

-- the next token that is sent
landing : (s st : List ℕ) (u : ℕ → Bool) (c : Connector) → Ready s st c → Landed s st u c.walk.place c.walk.depth 0 false (next_sent u s st c.walk.depth c.walk.place)
landing s st u c r = lands s st u c.walk.depth c.walk.place r.four r.rest r.order

-- what is read at the start of a tree that passes the check
module _ (s st : List ℕ) (ok : passes s st ≡ true) where
  pub sizes : Sized s st
  unfolding well_formed
  sizes = let f = every-each _ (passes-formed s st ok) in record { structure = leb-true _ _ f.0; fours = eqb-true _ _ f.1.0; strings = leb-true _ _ f.1.1.0 }

  pub ready : (c : Connector) → c.state ≡ Unisolated → c.walk ≡ start → Ready s st c
  unfolding well_formed
  ready c unisolated starts =
      let f = every-each _ (passes-formed s st ok) in
      let tree : Rest s 0 (tokens s st 0) = record { root = λ _. f.1.1.1.0; closed = root-closes s (tokens s st 0) f.1.1.1.0; near = f.1.1.1.1.0 } in
      record { state = unisolated; four = rw starts; rest = rw starts tree; order = rw starts f.1.1.1.1.1.1.0 }

module _ (s st : List ℕ) (sized : Sized s st) (u : ℕ → Bool) where
  -- a call on a ready record consumes the next token that is sent
  called : (a : List ℕ) (c : Connector) → Ready s st c → formed c.walk.page (length a) ≡ true → step u c a s st ≡ consume c a s st (next_sent u s st c.walk.depth c.walk.place)
  unfolding readable
  called a c r f =
      step-token u c a s st (form-area c.walk.page (length a) f) (rw r.state) (form-meets c.walk.page (length a) f)
      (each-every _ (le-leb _ _ sized.structure, (le-leb _ _ sized.strings, (eq-eqb _ _ sized.fours, (eq-eqb _ _ r.four, tt)))))

  module _ (a : List ℕ) (c : Connector) (r : Ready s st c) (form : formed c.walk.page (length a) ≡ true) where
    ready-past : (next depth : ℕ) → next % 4 ≡ 0 → Rest s depth (tokens s st next) → ordered false (tokens s st next) ≡ true → Ready s st (past next depth a c)
    ready-past next depth f rest order = record { state = refl; four = f; rest = rest; order = order }

    -- what is to be shown of the token t
    abbrev On : Token → Type 0
    On t = Landed s st u c.walk.place c.walk.depth 0 false t → Fours t → Within s c.walk.place t → Named s st t → Telling s st u c a (consume c a s st t)

    on-begin : (p at n next : ℕ) → On (Begin p at n next)
    unfolding consume on_begin closes nested ordered and_then pick
    on-begin p at n next h f w m =
        let z = pick-and (ltb c.walk.depth 8) _ h.rest.near in
        let room : c.walk.depth < 8 = ltb-true c.walk.depth 8 z.0 in
        simp (lt-leb 8 c.walk.depth room)
        (began next (part s at n) room (λ us. h.events (u ∷ us) refl) (ready-past next (c.walk.depth + 1) f (record { root = λ o. absurd (omega arith); closed = h.rest.closed; near = z.1 }) h.order))

    on-property : (p at n v l next : ℕ) → On (Property p at n v l next)
    unfolding consume on_property closes one_root nested ordered and_then pick sent_events events_from events_of
    on-property p at n v l next h f w m =
        let some : c.walk.depth ≡ 0 → ⊥ = λ z. false≢true (h.rest.root z) in
        let deep : 1 ≤ c.walk.depth = omega arith in
        let name : List ℕ = part st at n in
        let value : List ℕ = part s v l in
        let short : length name ≡ n = length_part st at n (omega arith) in
        let long : length value ≡ l = length_part s v l (omega arith) in
        let more : Bool = every (eqb (length a) 4096 ∷ ltb 4096 (needed name value) ∷ []) in
        simp (ne_eqb c.walk.depth 0 some)
        (pick-cases (Telling s st u c a) more (asking c a) (replied NextProperty next c.walk.depth (prop name value) c a)
        (λ y.
        let z = every-each _ y in
        let one : length a ≡ 4096 = eqb-true (length a) 4096 z.0 in
        let wide : length a < needed name value = rw one (ltb-true 4096 (needed name value) z.1.0) in
        asked name value (λ us. sent_events (drop 1 us) c.walk.depth 0 (events_from s st next)) deep one wide
        (λ us. rw (tokens-are s st c.walk.place (Property p at n v l next) h.direct.2))
        (record { state = refl; four = r.four; rest = r.rest; order = r.order }))
        (λ y.
        let room = room_for (length a) (length name) (length value) (form-area c.walk.page (length a) form) y (omega arith) (omega arith) in
        let fits : needed name value ≤ length a = omega arith in
        valued next name value deep fits (λ us. h.events (u ∷ us) refl) (ready-past next c.walk.depth f (record { root = λ o. absurd (some o); closed = h.rest.closed; near = h.rest.near }) (pick-unless h.after _ h.order).1)))

    on-end : (p next : ℕ) → On (EndNode p next)
    unfolding consume end_stepped closes one_root nested ordered and_then pick sent_events events_from
    on-end p next h f w m =
        let some : c.walk.depth ≡ 0 → ⊥ = λ z. false≢true (h.rest.root z) in
        let either = pick-either (leb c.walk.depth 1) (last_token s (tokens s st next)) (closes s (c.walk.depth - 1) (tokens s st next)) h.rest.closed in
        ⊎_elim
        (λ (y : (leb c.walk.depth 1 ≡ true) × (last_token s (tokens s st next) ≡ true)).
        let one : c.walk.depth ≡ 1 = omega (arith, leb-true c.walk.depth 1 y.0) in
        simp (ne_eqb c.walk.depth 0 some, eq-eqb c.walk.depth 1 one)
        (completed one (λ us. h.events (u ∷ us) refl ∙ rw (ended s st (tokens s st next) y.1))))
        (λ (y : (leb c.walk.depth 1 ≡ false) × (closes s (c.walk.depth - 1) (tokens s st next) ≡ true)).
        let deep : 2 ≤ c.walk.depth = leb-false c.walk.depth 1 y.0 in
        let inner : c.walk.depth ≡ 1 → ⊥ = λ z. omega arith in
        simp (ne_eqb c.walk.depth 0 some, ne_eqb c.walk.depth 1 inner)
        (closed next deep (λ us. h.events (u ∷ us) refl) (ready-past next (c.walk.depth - 1) f (record { root = λ o. absurd (omega arith); closed = y.1; near = h.rest.near }) (order-any true (tokens s st next) h.order))))
        either

    on-token : (t : Token) → On t
    unfolding closes and_then
    on-token (Begin p at n next) h = on-begin p at n next h
    on-token (Property p at n v l next) h = on-property p at n v l next h
    on-token (EndNode p next) h = on-end p next h
    on-token (End p next) h = absurd (false≢true h.rest.closed)
    on-token (Fault p) h = absurd (false≢true h.rest.closed)

    pub told : Telling s st u c a (step u c a s st)
    told =
        let h = landing s st u c r in
        rw (called a c r form)
        (on-token (next_sent u s st c.walk.depth c.walk.place) h (subst Fours h.is (token-four s st h.place h.four))
        (sent-in u s st c.walk.depth c.walk.place) (sent-named u s st c.walk.depth c.walk.place))

-- so it is not refused, and the walk can go on, or is at its end
pub data Next (s st : List ℕ) (o : Outcome) : Type 0 where
  goes_on : ends o.stepped.status ≡ false → is_complete o.stepped.status ≡ false → Ready s st o.stepped.connector → Next s st o
  completes : o.stepped.status ≡ Complete → o.stepped.connector.state ≡ Configured → Next s st o

pub then : {s st : List ℕ} {u : ℕ → Bool} {c : Connector} {a : List ℕ} {o : Outcome} → Telling s st u c a o → Next s st o
then (began next name d e r) = goes_on refl refl r
then (valued next name value d l e r) = goes_on refl refl r
then (asked name value es d n w e r) = goes_on refl refl r
then (closed next d e r) = goes_on refl refl r
then (completed d e) = completes refl refl

pub answers : {s st : List ℕ} {u : ℕ → Bool} {c : Connector} {a : List ℕ} {o : Outcome} → Telling s st u c a o → is_refusal o.stepped.status ≡ false
answers (began next name d e r) = refl
answers (valued next name value d l e r) = refl
answers (asked name value es d n w e r) = refl
answers (closed next d e r) = refl
answers (completed d e) = refl

-- an event is left to send
token-left : (s st : List ℕ) (us : List (ℕ → Bool)) (depth : ℕ) (t : Token) → Rest s depth (and_then (tokens s st) t) → 1 ≤ length (OnceTaken s st us depth t)
unfolding closes and_then
token-left s st us depth (Begin p a n next) h = omega arith
token-left s st us depth (Property p a n v l next) h = omega arith
token-left s st us depth (EndNode p next) h = omega arith
token-left s st us depth (End p next) h = absurd (false≢true h.closed)
token-left s st us depth (Fault p) h = absurd (false≢true h.closed)

pub event-left : (s st : List ℕ) (us : List (ℕ → Bool)) (c : Connector) → Ready s st c → 1 ≤ length (Left s st us c)
event-left s st us c r =
    let h = landing s st (at_next us) c r in
    rw (h.events us refl) (token-left s st (drop 1 us) c.walk.depth (next_sent (at_next us) s st c.walk.depth c.walk.place) h.rest)
