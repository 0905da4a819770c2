-- Look-ups by index, found or not.
use mathlib.Core.Path.{◌≡◌, refl, sym, ◌∙◌}
use mathlib.Core.List.{List, [], ◌∷◌, ◌++◌}
use mathlib.Core.Bool.{Bool, true, false, false≢true}
use Prim.Native.Nat.{ℕ, suc, ◌<◌, ◌≤◌}
use native.Mathlib.Omega.{arith}
use lib.ListN.{get_or, length}
use lib.Dec.{eqb, leb, ltb}
use borrow.Author.Tests.{lt-ltb, le-ltb, ltb-true, ltb-false, leb-true, leb-false, eq-eqb, ne_eqb}
use Rattle.words.specs.Pick.{pick, any}
use Rattle.words.proofs.Pick.{pick-cases, every-each}
use Rattle.states.specs.declared.State.{State}
use Rattle.states.specs.declared.State.TheVariants.{Unusable, Available, Unisolated, Configured}
use Rattle.states.specs.States.{is_configured, in_use}
use Rattle.connector.specs.Orders.{isolate_in, isolate_of, usable_in, usable_of, occupied, unready}
use Rattle.kinds.specs.Kinds.{known, phb}
use Rattle.table.specs.Layout.{resource_limit}
use Rattle.connector.specs.declared.Connector.{Connector}
use Rattle.table.specs.Model.{Model, blank_connector, position, has_index, write, writes, Edit}
use Rattle.std.specs.Prelude.{Err}
use Rattle.call_status.specs.Status.{CallStatus, accepted, is_accepted}
use Rattle.calls.specs.Calls.{Answered, at_index, decided, is_resource, place_status, retract_in, retract_status, add_resource_status, own_at}
use Rattle.call_status.specs.declared.CallRefusal.{CallRefusal}
use Rattle.call_status.specs.declared.CallRefusal.TheVariants.{UnknownKind, Full, NoResource, Empty}

module _ {A : Type 0} (m : Model) (k : ℕ) (found : ℕ → Connector → A) (none : A) where
  pub at-found : (i : ℕ) (c : Connector) → i ≡ position (has_index k) m.connectors → i < length m.connectors → c ≡ get_or m.connectors i blank_connector → at_index m k found none ≡ found i c
  unfolding at_index pick
  at-found i c e h g = rw (← e) (simp (lt-ltb i (length m.connectors) h) (rw g))

  pub at_none : (i : ℕ) → i ≡ position (has_index k) m.connectors → length m.connectors ≤ i → at_index m k found none ≡ none
  unfolding at_index pick
  at_none i e h = rw (← e) (simp (le-ltb i (length m.connectors) h))

-- one passes exactly where the first that passes stands before the end
any-ltb : {A : Type 0} (p : A → Bool) (xs : List A) (b : Bool) → any p xs ≡ ltb (position p xs) (length xs) → pick b true (any p xs) ≡ ltb (pick b 0 (suc (position p xs))) (suc (length xs))
unfolding pick
any-ltb p xs true e = sym (lt-ltb 0 (suc (length xs)) (omega arith))
any-ltb p xs false e = e ∙ go (ltb (position p xs) (length xs)) refl
  where
    go : (b : Bool) → ltb (position p xs) (length xs) ≡ b → b ≡ ltb (suc (position p xs)) (suc (length xs))
    go true f = let h : position p xs < length xs = ltb-true (position p xs) (length xs) f in sym (lt-ltb (suc (position p xs)) (suc (length xs)) (omega arith))
    go false f = let h : length xs ≤ position p xs = ltb-false (position p xs) (length xs) f in sym (le-ltb (suc (position p xs)) (suc (length xs)) (omega arith))

pub any-position : {A : Type 0} (p : A → Bool) (xs : List A) → any p xs ≡ ltb (position p xs) (length xs)
unfolding any position
any-position p [] = refl
any-position p (x ∷ xs) = any-ltb p xs (p x) (any-position p xs)

-- an index is in use exactly where it is found
pub index-used : (m : Model) (k i n : ℕ) → i ≡ position (has_index k) m.connectors → n ≡ length m.connectors → i < n → any (has_index k) m.connectors ≡ true
index-used m k i n e f h = any-position (has_index k) m.connectors ∙ rw (← e, ← f) (lt-ltb i n h)

pub index-free : (m : Model) (k i n : ℕ) → i ≡ position (has_index k) m.connectors → n ≡ length m.connectors → n ≤ i → any (has_index k) m.connectors ≡ false
index-free m k i n e f h = any-position (has_index k) m.connectors ∙ rw (← e, ← f) (le-ltb i n h)

-- an answer that is decided: refused, or accepted
pub decided-no : (s' : CallStatus) (r : CallRefusal) (t : List ℕ) (es : List Edit) → s' ≡ Err r → Answered t t (Err r) (decided s' es)
unfolding pick
decided-no s' r t es e = rw e (refl, refl)

pub decided-yes : (s' : CallStatus) (t t' : List ℕ) (es : List Edit) → s' ≡ accepted → t' ≡ writes t es → Answered t t' accepted (decided s' es)
unfolding pick
decided-yes s' t t' es e f = rw e (refl, f)

-- what acceptance says
refusal-refuses : (r : CallRefusal) → is_accepted (Err r) ≡ true → ⊥
refusal-refuses r a = false≢true a

pub placed : (m : Model) (r : ℕ) (c : Connector) → is_accepted (place_status m r c) ≡ true → is_resource m r ≡ true
unfolding place_status
placed m r c = pick-cases (λ s. is_accepted s ≡ true → is_resource m r ≡ true) (is_resource m r) _ _ (λ e a. e) (λ e a. absurd (refusal-refuses NoResource a))

pub room-left : (m : Model) (kind : ℕ) → is_accepted (add_resource_status m kind) ≡ true → length m.ledger < resource_limit
unfolding add_resource_status
room-left m kind =
    pick-cases (λ s. is_accepted s ≡ true → length m.ledger < resource_limit) (known kind) _ _
    (λ e. pick-cases (λ s. is_accepted s ≡ true → length m.ledger < resource_limit) (leb resource_limit (length m.ledger)) (Err Full) accepted (λ f a. absurd (refusal-refuses Full a)) (λ f a. leb-false _ _ f))
    (λ e a. absurd (refusal-refuses UnknownKind a))

pub one_up : (m : Model) (r : ℕ) → is_resource m r ≡ true → 1 ≤ r
unfolding is_resource
one_up m r e = let f = every-each _ e in leb-true _ _ f.0

-- only an Unusable connector is retracted
retract-in : (s : State) → is_accepted (retract_in s) ≡ true → s ≡ Unusable
retract-in Unusable a = refl
retract-in Available a = absurd (false≢true a)
retract-in Unisolated a = absurd (false≢true a)
retract-in Configured a = absurd (false≢true a)

pub retracted-unusable : (c : Connector) → is_accepted (retract_status c) ≡ true → c.state ≡ Unusable
unfolding retract_status
retracted-unusable c =
    pick-cases (λ s. is_accepted s ≡ true → c.state ≡ Unusable) (eqb c.resource.0 0) (Err Empty) (retract_in c.state) (λ _ a. absurd (false≢true a)) (λ _ a. retract-in c.state a)

-- edits made in two runs
pub writes-append : (t : List ℕ) (es es' : List Edit) → writes t (es ++ es') ≡ writes (writes t es) es'
writes-append t [] es' = refl
writes-append t (e ∷ es) es' = writes-append (write t e) es es'

-- ---- the partition's own connector

module _ {A : Type 0} (m : Model) (p k : ℕ) (found : ℕ → Connector → A) (none : A) where
  pub own-found : (i : ℕ) (c : Connector) → i ≡ position (has_index k) m.connectors → i < length m.connectors → c ≡ get_or m.connectors i blank_connector → c.partition ≡ p → own_at m p k found none ≡ found i c
  unfolding own_at pick
  own-found i c e h g n = at-found m k (λ i c. pick (eqb c.partition p) (found i c) none) none i c e h g ∙ simp (eq-eqb _ _ n)

-- ---- what an order must know of the table, only where it matters

isolate-in : (s : State) (b b' : Bool) (c : Connector) → is_configured s ≡ false → isolate_in s b c ≡ isolate_in s b' c
isolate-in Unusable b b' c e = refl
isolate-in Available b b' c e = refl
isolate-in Unisolated b b' c e = refl
isolate-in Configured b b' c e = absurd (false≢true (sym e))

pub isolate-state : (b b' : Bool) (c : Connector) → is_configured c.state ≡ false → isolate_of b c ≡ isolate_of b' c
unfolding isolate_of
isolate-state b b' c e = isolate-in c.state b b' c e

isolate-in-kind : (s : State) (b b' : Bool) (c : Connector) → (c.kind ≡ phb → ⊥) → isolate_in s b c ≡ isolate_in s b' c
unfolding occupied pick
isolate-in-kind Unusable b b' c e = refl
isolate-in-kind Available b b' c e = refl
isolate-in-kind Unisolated b b' c e = refl
isolate-in-kind Configured b b' c e = simp (ne_eqb _ _ e)

pub isolate-kind : (b b' : Bool) (c : Connector) → (c.kind ≡ phb → ⊥) → isolate_of b c ≡ isolate_of b' c
unfolding isolate_of
isolate-kind b b' c e = isolate-in-kind c.state b b' c e

usable-in-use : (s : State) (b b' : Bool) (c : Connector) → in_use s ≡ true → usable_in s b c ≡ usable_in s b' c
usable-in-use Unusable b b' c e = absurd (false≢true e)
usable-in-use Available b b' c e = refl
usable-in-use Unisolated b b' c e = refl
usable-in-use Configured b b' c e = refl

pub usable-state : (b b' : Bool) (c : Connector) → in_use c.state ≡ true → usable_of b c ≡ usable_of b' c
unfolding usable_of
usable-state b b' c e = usable-in-use c.state b b' c e

-- whether the connector is ready decides the one conditional cell
usable-in-ready : (s : State) (b b' : Bool) (c : Connector) → unready b c ≡ unready b' c → usable_in s b c ≡ usable_in s b' c
usable-in-ready Unusable b b' c e = rw e
usable-in-ready Available b b' c e = refl
usable-in-ready Unisolated b b' c e = refl
usable-in-ready Configured b b' c e = refl

usable-ready : (b b' : Bool) (c : Connector) → unready b c ≡ unready b' c → usable_of b c ≡ usable_of b' c
unfolding usable_of
usable-ready b b' c e = usable-in-ready c.state b b' c e

pub usable-empty : (b b' : Bool) (c : Connector) → c.resource.0 ≡ 0 → usable_of b c ≡ usable_of b' c
unfolding unready pick
usable-empty b b' c e = usable-ready b b' c (simp (eq-eqb _ _ e))

pub usable-parent : (b b' : Bool) (c : Connector) → c.parent.0 ≡ 0 → usable_of b c ≡ usable_of b' c
unfolding unready pick
usable-parent b b' c e = usable-ready b b' c (simp (eq-eqb _ _ e))
