-- The names of a list differ where the names of any two of its elements do.
use mathlib.Core.Path.{◌≡◌, refl, ap, sym, ◌∙◌}
use mathlib.Core.Bool.{Bool, true, false, false≢true}
use mathlib.Core.List.{List, [], ◌∷◌}
use Prim.Native.Nat.{ℕ, zero, suc, ◌+◌, ◌-◌, ◌<◌, ◌≤◌}
use native.Mathlib.Omega.{arith}
use lib.ListN.{get_or}
use lib.Dec.{eqb, ltb}
use borrow.Author.Tests.{eqb-true, eqb-false, ltb-true, ltb-false}
use Rattle.words.specs.Pick.{pick}
use Rattle.words.proofs.Pick.{pick_yes, pick_no, pick-unless, pick-neither}
use Rattle.devtree.specs.Names.{same_name, among, distinct}
use Rattle.name_order.specs.Order.{name_at, listed, name_order}
use Rattle.name_order.proofs.Names.{equal-same}
use Rattle.devtree.proofs.Names.{same-equal}
use Rattle.name_order.proofs.Compare.{order-self, order_same, order_trans}

module _ (b xs : List ℕ) where
  -- the name that element p stands for
  abbrev pub name : ℕ → List ℕ
  name p = name_at b (get_or xs p 0)

  pub listed-none : (i top : ℕ) → top ≤ i → listed b xs i (top - i) ≡ []
  unfolding listed
  listed-none i top h = let z : top - i ≡ 0 = omega arith in rw z

  pub listed_more : (i top : ℕ) → i < top → listed b xs i (top - i) ≡ name i ∷ listed b xs (i + 1) (top - (i + 1))
  unfolding listed
  listed_more i top h = let more : top - i ≡ suc (top - (i + 1)) = omega arith in rw more

  -- a search from element i on, and a comparison of each with those behind it: t is the answer of one comparison
  module _ (i top : ℕ) (h : i < top) {q : ℕ} (at : q ≡ get_or xs i 0) {t : Bool} where
    module _ (n : List ℕ) (e : t ≡ same_name n (name_at b q)) where
      among_first : among n (listed b xs i (top - i)) ≡ pick t true (among n (listed b xs (i + 1) (top - (i + 1))))
      unfolding among
      among_first = rw (listed_more i top h, ← at, ← e)

      pub among-here : t ≡ true → among n (listed b xs i (top - i)) ≡ true
      among-here f = among_first ∙ pick_yes t true _ f

      pub among-on : t ≡ false → among n (listed b xs i (top - i)) ≡ among n (listed b xs (i + 1) (top - (i + 1)))
      among-on f = among_first ∙ pick_no t true _ f

    module _ (e : t ≡ among (name_at b q) (listed b xs (i + 1) (top - (i + 1)))) where
      distinct-first : distinct (listed b xs i (top - i)) ≡ pick t false (distinct (listed b xs (i + 1) (top - (i + 1))))
      unfolding distinct
      distinct-first = rw (listed_more i top h, ← at, ← e)

      pub distinct-here : t ≡ true → distinct (listed b xs i (top - i)) ≡ false
      distinct-here f = distinct-first ∙ pick_yes t false _ f

      pub distinct-on : t ≡ false → distinct (listed b xs i (top - i)) ≡ distinct (listed b xs (i + 1) (top - (i + 1)))
      distinct-on f = distinct-first ∙ pick_no t false _ f

  pub among-last : (n : List ℕ) (i top : ℕ) → top ≤ i → among n (listed b xs i (top - i)) ≡ false
  unfolding among
  among-last n i top h = rw (listed-none i top h)

  pub distinct-last : (i top : ℕ) → top ≤ i → distinct (listed b xs i (top - i)) ≡ true
  unfolding distinct
  distinct-last i top h = rw (listed-none i top h)

  abbrev pub Differ : ℕ → ℕ → Type 0
  Differ base top = (p q : ℕ) → base ≤ p → p < q → q < top → name p ≡ name q → ⊥

  among_none : (n : List ℕ) (base k : ℕ) → ((q : ℕ) → base ≤ q → q < base + k → n ≡ name q → ⊥) → among n (listed b xs base k) ≡ false
  unfolding listed among pick
  among_none n base zero new = refl
  among_none n base (suc k) new = go (same_name n (name base)) refl (among_none n (base + 1) k (λ q l h. new q (omega arith) (omega arith)))
    where
      go : (t : Bool) → same_name n (name base) ≡ t → among n (listed b xs (base + 1) k) ≡ false → pick t true (among n (listed b xs (base + 1) k)) ≡ false
      go true e rest = absurd (new base (omega arith) (omega arith) (same-equal n (name base) e))
      go false e rest = rest

  none-among : (n : List ℕ) (base k : ℕ) → among n (listed b xs base k) ≡ false → (q : ℕ) → base ≤ q → q < base + k → n ≡ name q → ⊥
  unfolding listed among
  none-among n base zero e q l h s = absurd (omega arith)
  none-among n base (suc k) e q l h s = go (eqb q base) refl (pick-neither (same_name n (name base)) (among n (listed b xs (base + 1) k)) e) (λ f. none-among n (base + 1) k f q)
    where
      go : (t : Bool) → eqb q base ≡ t → (same_name n (name base) ≡ false) × (among n (listed b xs (base + 1) k) ≡ false) → (among n (listed b xs (base + 1) k) ≡ false → base + 1 ≤ q → q < base + 1 + k → n ≡ name q → ⊥) → ⊥
      go true f both more = false≢true (sym both.0 ∙ equal-same n (name base) (s ∙ ap name (eqb-true q base f)))
      go false f both more = more both.1 (omega (arith, eqb-false q base f)) (omega arith) s

  pub differ-distinct : (base k : ℕ) → Differ base (base + k) → distinct (listed b xs base k) ≡ true
  unfolding listed distinct
  differ-distinct base zero d = refl
  differ-distinct base (suc k) d =
      let first = among_none (name base) (base + 1) k (λ q l h. d base q (omega arith) (omega arith) (omega arith)) in
      pick_no (among (name base) (listed b xs (base + 1) k)) false (distinct (listed b xs (base + 1) k)) first
      ∙ differ-distinct (base + 1) k (λ p q l m h. d p q (omega arith) m (omega arith))

  pub distinct-differ : (base k : ℕ) → distinct (listed b xs base k) ≡ true → Differ base (base + k)
  unfolding listed distinct
  distinct-differ base zero e p q l m h s = absurd (omega arith)
  distinct-differ base (suc k) e p q l m h s = go (eqb p base) refl (pick-unless (among (name base) (listed b xs (base + 1) k)) (distinct (listed b xs (base + 1) k)) e) (λ f. distinct-differ (base + 1) k f p q)
    where
      go : (t : Bool) → eqb p base ≡ t → (among (name base) (listed b xs (base + 1) k) ≡ false) × (distinct (listed b xs (base + 1) k) ≡ true) → (distinct (listed b xs (base + 1) k) ≡ true → base + 1 ≤ p → p < q → q < base + 1 + k → name p ≡ name q → ⊥) → ⊥
      go true f both more = let z = eqb-true p base f in none-among (name base) (base + 1) k both.0 q (omega arith) (omega arith) (ap name (sym z) ∙ s)
      go false f both more = more both.1 (omega (arith, eqb-false p base f)) m (omega arith) s

  -- each of the first names comes before all the later ones of them
  abbrev pub Ascends : ℕ → Type 0
  Ascends n = (p q : ℕ) → p < q → q < n → name_order (name p) (name q) ≡ 1

  pub ascends-one : Ascends 1
  ascends-one p q m h = absurd (omega arith)

  pub ascends-more : (i : ℕ) → 0 < i → Ascends i → {o : ℕ} → o ≡ name_order (name (i - 1)) (name i) → o ≡ 1 → Ascends (i + 1)
  ascends-more i h a f g p q m n = go (ltb q i) refl
    where
      e : name_order (name (i - 1)) (name i) ≡ 1
      e = sym f ∙ g

      last : (t : Bool) → ltb p (i - 1) ≡ t → name_order (name p) (name i) ≡ 1
      last true u = order_trans (name p) (name (i - 1)) (name i) (a p (i - 1) (ltb-true p (i - 1) u) (omega arith)) e
      last false u = let z : i - 1 ≡ p = omega (arith, ltb-false p (i - 1) u) in rw z at e

      go : (t : Bool) → ltb q i ≡ t → name_order (name p) (name q) ≡ 1
      go true u = a p q m (ltb-true q i u)
      go false u = let z : q ≡ i = omega (arith, ltb-false q i u) in rw z (last (ltb p (i - 1)) refl)

  pub ascends-distinct : (n : ℕ) → Ascends n → distinct (listed b xs 0 n) ≡ true
  ascends-distinct n a =
      differ-distinct 0 n (λ p q l m h s. omega (arith, sym (a p q m (omega arith)) ∙ ap (λ (o : List ℕ). name_order o (name q)) s ∙ order-self (name q)))

  pub twins-distinct : (n p q : ℕ) → p < q → q < n → {o : ℕ} → o ≡ name_order (name p) (name q) → o ≡ 0 → distinct (listed b xs 0 n) ≡ false
  twins-distinct n p q m h f g = go (distinct (listed b xs 0 n)) refl
    where
      go : (t : Bool) → distinct (listed b xs 0 n) ≡ t → t ≡ false
      go true e = absurd (distinct-differ 0 n e p q (omega arith) m (omega arith) (order_same (name p) (name q) (sym f ∙ g)))
      go false e = refl
