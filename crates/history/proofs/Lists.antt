-- Lists by their elements: one element changed, one more, the first that passes, and how many pass.
use Prim.Native.Nat.{ℕ, zero, suc, ◌+◌, ◌≤◌, ◌<◌}
use mathlib.Core.Path.{◌≡◌, refl, ap, sym}
use mathlib.Core.Logic.{◌≢◌}
use mathlib.Core.List.{List, [], ◌∷◌, ◌++◌, map}
use mathlib.Core.Bool.{Bool, true, false, false≢true}
use native.Mathlib.Omega.{arith}
use borrow.Author.Tests.{eq-eqb, ne_eqb}
use lib.Dec.{eqb}
use lib.ListN.{get_or, set, length}
use lib.Seq.{get_or-set_same, get_or-set_other, get_or-append_seam}
use Rattle.words.specs.Pick.{pick, any}
use Rattle.words.proofs.Pick.{pick_yes, pick_no}
use Rattle.table.specs.Model.{position}
use Rattle.pool.specs.Pool.{bit_of, how_many}

-- a choice by two numbers
module _ {A : Type 0} (n k : ℕ) (x y : A) where
  pub pick-eq : n ≡ k → pick (eqb n k) x y ≡ x
  pick-eq e = pick_yes (eqb n k) x y (eq-eqb n k e)

  pub pick-ne : n ≢ k → pick (eqb n k) x y ≡ y
  pick-ne e = pick_no (eqb n k) x y (ne_eqb n k e)

-- g is f, but for v at i
pub record At {A : Type 0} (f g : ℕ → A) (i : ℕ) (v : A) : Type 0 where
  pub here : g i ≡ v
  pub there : (x : ℕ) → x ≢ i → g x ≡ f x

module _ {A : Type 0} (d : A) where
  pub at_set : (xs : List A) (i : ℕ) (v : A) → i < length xs → At (λ x. get_or xs x d) (λ x. get_or (set xs i v) x d) i v
  at_set xs i v h = record { here = get_or-set_same xs i v d h; there = λ x n. get_or-set_other xs i x v d n }

  more-other : (xs : List A) (v : A) (x : ℕ) → x ≢ length xs → get_or (xs ++ (v ∷ [])) x d ≡ get_or xs x d
  more-other [] v zero n = absurd (n refl)
  more-other [] v (suc x) n = refl
  more-other (y ∷ ys) v zero n = refl
  more-other (y ∷ ys) v (suc x) n = more-other ys v x (λ e. n (ap suc e))

  pub at_more : (xs : List A) (v : A) → At (λ x. get_or xs x d) (λ x. get_or (xs ++ (v ∷ [])) x d) (length xs) v
  at_more xs v = record { here = get_or-append_seam xs v [] d; there = more-other xs v }

  pub same_map : {B : Type 0} (f g : A → B) (xs ys : List A) → length ys ≡ length xs → ((x : ℕ) → x < length xs → f (get_or ys x d) ≡ g (get_or xs x d)) → map f ys ≡ map g xs
  same_map f g [] [] e h = refl
  same_map f g [] (y ∷ ys) e h = absurd (omega arith)
  same_map f g (x ∷ xs) [] e h = absurd (omega arith)
  same_map f g (x ∷ xs) (y ∷ ys) e h = cc (h 0 (omega arith), same_map f g xs ys (omega arith) (λ i p. h (suc i) (omega arith)))

  module _ (p : A → Bool) where
    pub position-passes : (xs : List A) → position p xs < length xs → p (get_or xs (position p xs) d) ≡ true
    unfolding position pick
    position-passes [] h = absurd (omega arith)
    position-passes (x ∷ xs) h = go (p x) refl h (position-passes xs)
      where
        go : (b : Bool) → p x ≡ b → pick b 0 (suc (position p xs)) < suc (length xs) → (position p xs < length xs → p (get_or xs (position p xs) d) ≡ true) → p (get_or (x ∷ xs) (pick b 0 (suc (position p xs))) d) ≡ true
        go true e h f = e
        go false e h f = f (omega arith)

    pub any_none : (xs : List A) → any p xs ≡ false → (y : ℕ) → y < length xs → p (get_or xs y d) ≡ false
    unfolding any pick
    any_none [] e y h = absurd (omega arith)
    any_none (x ∷ xs) e y h = go (p x) refl e y h (any_none xs)
      where
        go : (b : Bool) → p x ≡ b → pick b true (any p xs) ≡ false → (y : ℕ) → y < suc (length xs) → (any p xs ≡ false → (y : ℕ) → y < length xs → p (get_or xs y d) ≡ false) → p (get_or (x ∷ xs) y d) ≡ false
        go true q e y h f = absurd (false≢true (sym e))
        go false q e zero h f = q
        go false q e (suc y) h f = f e y (omega arith)

    pub how_many-set : (xs : List A) (i : ℕ) (v : A) → i < length xs → how_many p (set xs i v) + bit_of (p (get_or xs i d)) ≡ how_many p xs + bit_of (p v)
    unfolding how_many
    how_many-set [] i v h = absurd (omega arith)
    how_many-set (x ∷ xs) zero v h = omega arith
    how_many-set (x ∷ xs) (suc i) v h = omega (arith, how_many-set xs i v (omega arith))

module _ {A : Type 0} (p : A → Bool) where
  -- where the search comes to the end, none passes
  pub position-none : (xs : List A) → length xs ≤ position p xs → any p xs ≡ false
  unfolding position any pick
  position-none [] h = refl
  position-none (x ∷ xs) h = go (p x) h (position-none xs)
    where
      go : (b : Bool) → suc (length xs) ≤ pick b 0 (suc (position p xs)) → (length xs ≤ position p xs → any p xs ≡ false) → pick b true (any p xs) ≡ false
      go true h f = absurd (omega arith)
      go false h f = f (omega arith)

  pub how_many-more : (xs : List A) (v : A) → how_many p (xs ++ (v ∷ [])) ≡ how_many p xs + bit_of (p v)
  unfolding how_many
  how_many-more [] v = omega arith
  how_many-more (x ∷ xs) v = omega (arith, how_many-more xs v)

pub map-set : {A B : Type 0} (f : A → B) (xs : List A) (i : ℕ) (v : A) → map f (set xs i v) ≡ set (map f xs) i (f v)
map-set f [] i v = refl
map-set f (x ∷ xs) zero v = refl
map-set f (x ∷ xs) (suc i) v = ap (λ l. f x ∷ l) (map-set f xs i v)

pub map_more : {A B : Type 0} (f : A → B) (xs : List A) (v : A) → map f (xs ++ (v ∷ [])) ≡ map f xs ++ (f v ∷ [])
map_more f [] v = refl
map_more f (x ∷ xs) v = ap (λ l. f x ∷ l) (map_more f xs v)
