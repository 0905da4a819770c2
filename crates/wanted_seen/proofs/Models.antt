-- What calls look up in two tables whose connectors differ in what is wanted back alone.
use Prim.Native.Nat.{ℕ, suc}
use mathlib.Core.Path.{◌≡◌, refl, ap, sym, subst, fun_ext, ◌∙◌}
use mathlib.Core.List.{List, [], ◌∷◌, map}
use mathlib.Core.Bool.{Bool, true, false}
use lib.Dec.{eqb, ltb}
use lib.ListN.{get_or, length, length-map, get_or-map}
use Rattle.words.specs.Pick.{pick, any}
use Rattle.words.proofs.Pick.{pick-cases, both-picks}
use Rattle.connector.specs.declared.Connector.{Connector}
use Rattle.connector.specs.Fields.{with_wanted}
use Rattle.table.specs.Model.{Model, blank_connector, position, has_index, slot_below}
use Rattle.unowned.specs.Unowned.{unowned}
use Rattle.calls.specs.Calls.{Answer, at_index, configured_at, own_at, phb_of, around, to_pool, is_resource}
use Rattle.history.specs.Holds.{connector}
use Rattle.wanted_seen.proofs.Words.{bare, LikeEdits}

pub record SameBut (m m' : Model) : Type 0 where
  pub connectors : map bare m.connectors ≡ map bare m'.connectors
  pub ledger : m.ledger ≡ m'.ledger

position-map : {A B : Type 0} (f : A → B) (p : B → Bool) (xs : List A) → position p (map f xs) ≡ position (λ x. p (f x)) xs
unfolding position
position-map f p [] = refl
position-map f p (x ∷ xs) = ap (λ n. pick (p (f x)) 0 (suc n)) (position-map f p xs)

any-map : {A B : Type 0} (f : A → B) (p : B → Bool) (xs : List A) → any p (map f xs) ≡ any (λ x. p (f x)) xs
unfolding any
any-map f p [] = refl
any-map f p (x ∷ xs) = ap (λ b. pick (p (f x)) true b) (any-map f p xs)

-- the same, but where a further test fails
pub both-unless : {A B : Type 0} (R : A → B → Type 0) (b : Bool) {s : Bool} {x y : A} {x' y' : B} → (s ≡ false → R x x') → R y y' → pick b s false ≡ false → R (pick b x y) (pick b x' y')
unfolding pick
both-unless R true f g e = f e
both-unless R false f g e = g

module _ (m m' : Model) (a : SameBut m m') where
  pub same_size : length m.connectors ≡ length m'.connectors
  same_size = sym (length-map m.connectors bare) ∙ ap length a.connectors ∙ length-map m'.connectors bare

  pub same-position : (k : ℕ) → position (has_index k) m.connectors ≡ position (has_index k) m'.connectors
  same-position k = sym (position-map bare (has_index k) m.connectors) ∙ ap (position (has_index k)) a.connectors ∙ position-map bare (has_index k) m'.connectors

  pub same-any : (p : Connector → Bool) → ((c : Connector) → p (bare c) ≡ p c) → any p m.connectors ≡ any p m'.connectors
  same-any p e =
      let q : (λ c. p (bare c)) ≡ p = fun_ext e in
      ap (λ r. any r m.connectors) (sym q) ∙ sym (any-map bare p m.connectors) ∙ ap (any p) a.connectors ∙ any-map bare p m'.connectors ∙ ap (λ r. any r m'.connectors) q

  same-bare : (i : ℕ) → bare (connector m i) ≡ bare (connector m' i)
  same-bare i = sym (get_or-map bare m.connectors i blank_connector) ∙ ap (λ l. get_or l i blank_connector) a.connectors ∙ get_or-map bare m'.connectors i blank_connector

  -- the second table's connector is the first's, but for what is wanted back
  other : (i : ℕ) → connector m' i ≡ with_wanted (connector m' i).wanted (connector m i)
  other i = ap (with_wanted (connector m' i).wanted) (sym (same-bare i))

  module _ {A : Type 0} (R : A → A → Type 0) (found found' : ℕ → Connector → A) (none none' : A) (k : ℕ) where
    -- a look-up by index, but where `shown` says otherwise
    pub at-unless : (shown : Connector → Bool → Bool) → at_index m k (λ i c. shown c (connector m' i).wanted) false ≡ false
        → ((i : ℕ) (c : Connector) (w : Bool) → shown c w ≡ false → R (found i c) (found' i (with_wanted w c)))
        → R none none' → R (at_index m k found none) (at_index m' k found' none')
    unfolding at_index
    at-unless shown n f g =
        rw (← same-position k, ← same_size)
        (go (ltb (position (has_index k) m.connectors) (length m.connectors)) (position (has_index k) m.connectors) n)
      where
        go : (b : Bool) (i : ℕ) → pick b (shown (connector m i) (connector m' i).wanted) false ≡ false → R (pick b (found i (connector m i)) none) (pick b (found' i (connector m' i)) none')
        go b i e = both-unless R b (λ z. subst (λ d. R (found i (connector m i)) (found' i d)) (sym (other i)) (f i (connector m i) (connector m' i).wanted z)) g e

    pub at-alike : ((i : ℕ) (c : Connector) (w : Bool) → R (found i c) (found' i (with_wanted w c))) → R none none' → R (at_index m k found none) (at_index m' k found' none')
    unfolding at_index
    at-alike f g = at-unless (λ _ _. false) (pick-cases (λ b. b ≡ false) _ false false (λ _. refl) (λ _. refl)) (λ i c w _. f i c w) g

  module _ {A : Type 0} (R : A → A → Type 0) (found found' : ℕ → Connector → A) (none none' : A) (p k : ℕ) where
    pub own-alike : ((i : ℕ) (c : Connector) (w : Bool) → R (found i c) (found' i (with_wanted w c))) → R none none' → R (own_at m p k found none) (own_at m' p k found' none')
    unfolding own_at
    own-alike f g = at-alike R _ _ none none' k (λ i c w. both-picks R (eqb c.partition p) (f i c w) g) g

    pub own-unless : (shown : Connector → Bool → Bool) → own_at m p k (λ i c. shown c (connector m' i).wanted) false ≡ false
        → ((i : ℕ) (c : Connector) (w : Bool) → shown c w ≡ false → R (found i c) (found' i (with_wanted w c)))
        → R none none' → R (own_at m p k found none) (own_at m' p k found' none')
    unfolding own_at
    own-unless shown n f g = at-unless R _ _ none none' k (λ c w. pick (eqb c.partition p) (shown c w) false) n (λ i c w. both-unless R (eqb c.partition p) (f i c w) g) g

  same-configured : (k : ℕ) → configured_at m k ≡ configured_at m' k
  unfolding configured_at
  same-configured k = at-alike ◌≡◌ _ _ false false k (λ i c w. refl) refl

  pub same-phb : (p k : ℕ) → phb_of m p k ≡ phb_of m' p k
  unfolding phb_of
  same-phb p k = at-alike ◌≡◌ _ _ false false k (λ i c w. refl) refl

  pub same-around : (c : Connector) (w : Bool) → around m c ≡ around m' (with_wanted w c)
  same-around c w = rw (same-any (slot_below c.index.0) (λ _. refl), same-configured c.parent.0)

  pub same-pool : (r k : ℕ) → to_pool m r k ≡ to_pool m' r k
  unfolding to_pool is_resource
  same-pool r k = rw a.ledger

  pub same-unowned : (p : ℕ) → unowned m p ≡ unowned m' p
  unfolding unowned
  same-unowned p =
      fun_ext (λ k.
      rw (← same-position k, ← same_size, ap (λ c. c.state) (same-bare (position (has_index k) m.connectors))))

-- the same status, and edits that are alike
pub record AnswersAlike {S : Type 0} (x y : Answer S) : Type 0 where
  pub status : x.status ≡ y.status
  pub edits : LikeEdits x.edits y.edits
