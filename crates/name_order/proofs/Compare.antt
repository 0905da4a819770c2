-- Laws of `name_order`, and of a comparison of two names byte by byte.
use mathlib.Core.Path.{◌≡◌, refl, sym, ◌∙◌}
use mathlib.Core.Bool.{Bool, true, false}
use mathlib.Core.List.{List, [], ◌∷◌}
use mathlib.Core.Logic.{◌⊎◌, inl, inr}
use Prim.Native.Nat.{ℕ, suc, ◌+◌, ◌-◌, ◌<◌, ◌≤◌}
use native.Mathlib.Omega.{arith}
use native.Mathlib.Nat.{add-zero}
use native.Mathlib.Numerals.{one-add}
use lib.ListN.{length, get_or}
use lib.Seq.{drop-cons}
use lib.Dec.{eqb, ltb}
use borrow.Author.Tests.{eq-eqb, eqb-true, eqb-false, lt-ltb, le-ltb, ltb-true, ltb-false}
use Rattle.words.specs.Pick.{pick}
use Rattle.words.specs.Bytes.{part, name_length}
use Rattle.words.proofs.Bytes.{name-stop, name-on}
use Rattle.devtree.specs.Names.{same_name}
use Rattle.name_order.proofs.Names.{equal-same, same_truth}
use Rattle.devtree.proofs.Names.{same-equal}
use Rattle.name_order.specs.Order.{name_at, HasName, name_order}

-- by the first bytes, and where they are the same by the rest
module _ (x y r : ℕ) where
  abbrev by_first : ℕ
  by_first = pick (ltb x y) 1 (pick (ltb y x) 2 r)

  first-before : x < y → by_first ≡ 1
  unfolding pick
  first-before h = simp (lt-ltb x y h)

  first-after : y < x → by_first ≡ 2
  unfolding pick
  first-after h = simp (lt-ltb y x h, le-ltb x y (omega arith))

  first-same : x ≡ y → by_first ≡ r
  unfolding pick
  first-same e = simp (le-ltb y x (omega arith), le-ltb x y (omega arith))

  first-cases : (x < y) ⊎ ((x ≡ y) × (by_first ≡ r)) ⊎ (by_first ≡ 2)
  first-cases = go (ltb x y) (ltb y x) refl refl
    where
      go : (p q : Bool) → ltb x y ≡ p → ltb y x ≡ q → (x < y) ⊎ ((x ≡ y) × (by_first ≡ r)) ⊎ (by_first ≡ 2)
      go true q e f = inl (ltb-true x y e)
      go false true e f = inr (inr (first-after (ltb-true y x f)))
      go false false e f = let z : x ≡ y = omega (arith, ltb-false x y e, ltb-false y x f) in inr (inl (z, first-same z))

  first-less : by_first ≡ 1 → (x < y) ⊎ ((x ≡ y) × (r ≡ 1))
  first-less e = go first-cases
    where
      go : (x < y) ⊎ ((x ≡ y) × (by_first ≡ r)) ⊎ (by_first ≡ 2) → (x < y) ⊎ ((x ≡ y) × (r ≡ 1))
      go (inl h) = inl h
      go (inr (inl h)) = inr (h.0, sym h.1 ∙ e)
      go (inr (inr h)) = absurd (omega arith)

pub order-self : (n : List ℕ) → name_order n n ≡ 0
unfolding name_order
order-self [] = refl
order-self (x ∷ xs) = first-same x x (name_order xs xs) refl ∙ order-self xs

pub order_same : (n m : List ℕ) → name_order n m ≡ 0 → n ≡ m
unfolding name_order
order_same [] [] e = refl
order_same [] (y ∷ ys) e = absurd (omega arith)
order_same (x ∷ xs) [] e = absurd (omega arith)
order_same (x ∷ xs) (y ∷ ys) e = go (first-cases x y (name_order xs ys)) (order_same xs ys)
  where
    go : (x < y) ⊎ ((x ≡ y) × (by_first x y (name_order xs ys) ≡ name_order xs ys)) ⊎ (by_first x y (name_order xs ys) ≡ 2) → (name_order xs ys ≡ 0 → xs ≡ ys) → x ∷ xs ≡ y ∷ ys
    go (inl h) more = absurd (omega (arith, first-before x y (name_order xs ys) h))
    go (inr (inl h)) more = rw (h.0, more (sym h.1 ∙ e))
    go (inr (inr h)) more = absurd (omega arith)

pub order-zero : (n m : List ℕ) → eqb (name_order n m) 0 ≡ same_name n m
order-zero n m =
    same_truth
    (eqb (name_order n m) 0)
    (same_name n m)
    (λ e. equal-same n m (order_same n m (eqb-true _ _ e)))
    (λ e. eq-eqb (name_order n m) 0 (rw (same-equal n m e) (order-self m)))

pub order_trans : (n m k : List ℕ) → name_order n m ≡ 1 → name_order m k ≡ 1 → name_order n k ≡ 1
unfolding name_order
order_trans [] [] k e f = absurd (omega arith)
order_trans (x ∷ xs) [] k e f = absurd (omega arith)
order_trans n (y ∷ ys) [] e f = absurd (omega arith)
order_trans [] (y ∷ ys) (z ∷ zs) e f = refl
order_trans (x ∷ xs) (y ∷ ys) (z ∷ zs) e f = go (first-less x y _ e) (first-less y z _ f) (order_trans xs ys zs)
  where
    go : (x < y) ⊎ ((x ≡ y) × (name_order xs ys ≡ 1)) → (y < z) ⊎ ((y ≡ z) × (name_order ys zs ≡ 1)) → (name_order xs ys ≡ 1 → name_order ys zs ≡ 1 → name_order xs zs ≡ 1) → by_first x z (name_order xs zs) ≡ 1
    go (inl h) (inl l) more = first-before x z _ (omega arith)
    go (inl h) (inr l) more = first-before x z _ (omega (arith, l.0))
    go (inr h) (inl l) more = first-before x z _ (omega (arith, h.0))
    go (inr h) (inr l) more = first-same x z _ (h.0 ∙ l.0) ∙ more h.1 l.1

-- what is left of a name after i bytes
abbrev rest_at : List ℕ → ℕ → ℕ → List ℕ
rest_at b x i = part b (x + i) (name_length (48 - i) b (x + i))

-- and it ends in time, in the block
pub record Rest (b : List ℕ) (x i : ℕ) : Type 0 where
  pub short : i + name_length (48 - i) b (x + i) ≤ 47
  pub inside : x + i + name_length (48 - i) b (x + i) < length b

rest-start : (b : List ℕ) (x : ℕ) → HasName b x → Rest b x 0
rest-start b x h = record { short = rw add-zero (omega (arith, h.short)); inside = rw add-zero h.inside }

module _ (b : List ℕ) (x i : ℕ) where
  rest-nil : get_or b (x + i) 0 ≡ 0 → rest_at b x i ≡ []
  unfolding part
  rest-nil e = rw (name-stop (48 - i) b (x + i) e)

  module _ (h : Rest b x i) (e : get_or b (x + i) 0 ≡ 0 → ⊥) where
    length-on : name_length (48 - i) b (x + i) ≡ 1 + name_length (48 - (i + 1)) b (x + (i + 1))
    length-on = name-on 48 i b x (omega (arith, h.short)) e

    rest-on : Rest b x (i + 1)
    rest-on = record { short = omega (arith, h.short, length-on); inside = omega (arith, h.inside, length-on) }

    rest-cons : rest_at b x i ≡ get_or b (x + i) 0 ∷ rest_at b x (i + 1)
    unfolding part
    rest-cons =
        let on : x + (i + 1) ≡ suc (x + i) = omega arith in
        rw (length-on, drop-cons b (x + i) 0 (omega (arith, h.inside)), one-add, on)

-- the first i bytes of both names are the same, and what is left of them decides
pub record Compared (b : List ℕ) (x y i : ℕ) : Type 0 where
  pub left : Rest b x i
  pub right : Rest b y i
  pub rest : name_order (name_at b x) (name_at b y) ≡ name_order (rest_at b x i) (rest_at b y i)

pub compared-start : (b : List ℕ) (x y : ℕ) → HasName b x → HasName b y → Compared b x y 0
compared-start b x y h k = record { left = rest-start b x h; right = rest-start b y k; rest = rw (add-zero x, add-zero y) }

module _ (b : List ℕ) (x y i : ℕ) (c : Compared b x y i) where
  pub compared-before : get_or b (x + i) 0 < get_or b (y + i) 0 → name_order (name_at b x) (name_at b y) ≡ 1
  unfolding name_order
  compared-before h = rw (c.rest, rest-cons b y i c.right (λ e. omega arith)) (go (eqb (get_or b (x + i) 0) 0) refl)
    where
      go : (t : Bool) → eqb (get_or b (x + i) 0) 0 ≡ t → name_order (rest_at b x i) (get_or b (y + i) 0 ∷ rest_at b y (i + 1)) ≡ 1
      go true e = rw (rest-nil b x i (eqb-true _ _ e))
      go false e = rw (rest-cons b x i c.left (eqb-false _ _ e)) (first-before (get_or b (x + i) 0) (get_or b (y + i) 0) _ h)

  pub compared-after : get_or b (y + i) 0 < get_or b (x + i) 0 → name_order (name_at b x) (name_at b y) ≡ 2
  unfolding name_order
  compared-after h = rw (c.rest, rest-cons b x i c.left (λ e. omega arith)) (go (eqb (get_or b (y + i) 0) 0) refl)
    where
      go : (t : Bool) → eqb (get_or b (y + i) 0) 0 ≡ t → name_order (get_or b (x + i) 0 ∷ rest_at b x (i + 1)) (rest_at b y i) ≡ 2
      go true e = rw (rest-nil b y i (eqb-true _ _ e))
      go false e = rw (rest-cons b y i c.right (eqb-false _ _ e)) (first-after (get_or b (x + i) 0) (get_or b (y + i) 0) _ h)

  pub compared-end : get_or b (x + i) 0 ≡ get_or b (y + i) 0 → get_or b (x + i) 0 ≡ 0 → name_order (name_at b x) (name_at b y) ≡ 0
  unfolding name_order
  compared-end e z = rw (c.rest, rest-nil b x i z, rest-nil b y i (sym e ∙ z))

  pub compared-on : get_or b (x + i) 0 ≡ get_or b (y + i) 0 → (get_or b (x + i) 0 ≡ 0 → ⊥) → Compared b x y (i + 1)
  unfolding name_order
  compared-on e z =
      let z' : get_or b (y + i) 0 ≡ 0 → ⊥ = λ f. z (e ∙ f) in
      record {
        left = rest-on b x i c.left z;
        right = rest-on b y i c.right z';
        rest = c.rest ∙ rw (rest-cons b x i c.left z, rest-cons b y i c.right z') (first-same (get_or b (x + i) 0) (get_or b (y + i) 0) _ e);
      }
