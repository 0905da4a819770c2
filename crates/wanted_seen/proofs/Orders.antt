-- An order on a connector, wanted back or not: the same, but for usable on an Unusable one.
use mathlib.Core.Path.{◌≡◌, refl, sym, ◌∙◌}
use mathlib.Core.List.{[], ◌∷◌}
use mathlib.Core.Bool.{Bool, true, false, false≢true, not, xor}
use Rattle.words.specs.Pick.{pick, every}
use Rattle.words.proofs.Pick.{both-picks, pick_same}
use Rattle.states.specs.declared.State.{State}
use Rattle.states.specs.declared.State.TheVariants.{Unusable, Available, Unisolated, Configured}
use Rattle.states.specs.States.{in_use}
use Rattle.connector.specs.declared.Connector.{Connector}
use Rattle.connector.specs.Fields.{with_wanted}
use Rattle.connector.specs.declared.orders.Ordered.{Ordered}
use Rattle.connector.specs.Orders.{isolate, unisolate, usable, unusable, occupied, isolate_in, unisolate_in, usable_in, unusable_in, isolate_of, unisolate_of, usable_of, unusable_of, order_of}
use Rattle.calls.specs.Calls.{Surroundings, NamedOrder, none, some, order_in}
use Rattle.wanted_seen.specs.Seen.{is_usable}
use Rattle.wanted_seen.proofs.Words.{bare}

pub record SameOrdered (r r' : Ordered) : Type 0 where
  pub status : r.status ≡ r'.status
  pub change : r.change ≡ r'.change
  pub connector : bare r.connector ≡ bare r'.connector

alike : {r r' : Ordered} → r.status ≡ r'.status → r.change ≡ r'.change → bare r.connector ≡ bare r'.connector → SameOrdered r r'
alike s h c = record { status = s; change = h; connector = c }

same : (a b : Bool) → xor a b ≡ false → a ≡ b
unfolding xor
same true true e = refl
same true false e = absurd (false≢true (sym e))
same false true e = absurd (false≢true (sym e))
same false false e = refl

module _ (x : Bool) (c : Connector) (w : Bool) where
  isolate-same : (s : State) → SameOrdered (isolate_in s x c) (isolate_in s x (with_wanted w c))
  unfolding occupied
  isolate-same Unusable = alike refl refl refl
  isolate-same Available = alike refl refl refl
  isolate-same Unisolated = alike refl refl refl
  isolate-same Configured = both-picks SameOrdered (occupied x c) (alike refl refl refl) (alike refl refl refl)

  unisolate-same : (s : State) → SameOrdered (unisolate_in s c) (unisolate_in s (with_wanted w c))
  unisolate-same Unusable = alike refl refl refl
  unisolate-same Available = alike refl refl refl
  unisolate-same Unisolated = alike refl refl refl
  unisolate-same Configured = alike refl refl refl

  usable_same : (s : State) → every (not (in_use s) ∷ xor c.wanted w ∷ []) ≡ false → SameOrdered (usable_in s x c) (usable_in s x (with_wanted w c))
  unfolding every pick
  usable_same Unusable e = let z : w ≡ c.wanted = sym (same c.wanted w (sym (pick_same (xor c.wanted w)) ∙ e)) in rw z (alike refl refl refl)
  usable_same Available e = alike refl refl refl
  usable_same Unisolated e = alike refl refl refl
  usable_same Configured e = alike refl refl refl

  unusable-same : (s : State) → SameOrdered (unusable_in s c) (unusable_in s (with_wanted w c))
  unusable-same Unusable = alike refl refl refl
  unusable-same Available = alike refl refl refl
  unusable-same Unisolated = alike refl refl refl
  unusable-same Configured = alike refl refl refl

module _ (a : Surroundings) (c : Connector) (w : Bool) where
  pub usable-alike : every (not (in_use c.state) ∷ xor c.wanted w ∷ []) ≡ false → SameOrdered (order_in a (some usable) c) (order_in a (some usable) (with_wanted w c))
  unfolding order_in order_of usable_of
  usable-alike e = usable_same a.parent_configured c w c.state e

  pub order_alike : (n : NamedOrder) → is_usable n ≡ false → SameOrdered (order_in a n c) (order_in a n (with_wanted w c))
  unfolding order_in order_of isolate_of unisolate_of unusable_of
  order_alike none e = alike refl refl refl
  order_alike (some isolate) e = isolate-same a.slot_in_use c w c.state
  order_alike (some unisolate) e = unisolate-same a.slot_in_use c w c.state
  order_alike (some usable) e = absurd (false≢true (sym e))
  order_alike (some unusable) e = unusable-same a.slot_in_use c w c.state
