-- Laws of `rows`, and of the searches in them as a loop that counts up from i to n makes them.
use Prim.Native.Nat.{ℕ, zero, suc, ◌+◌, ◌-◌, ◌≤◌, ◌<◌, min}
use mathlib.Core.Path.{◌≡◌, refl, ap}
use mathlib.Core.Logic.{◌≢◌}
use mathlib.Core.List.{[], ◌∷◌, ◌++◌}
use mathlib.Core.Bool.{Bool, true, false}
use native.Mathlib.Omega.{arith}
use native.Mathlib.Numerals.{add-one}
use native.Mathlib.Nat.{add-zero, zero-add}
use lib.ListN.{drop, get_or, set, length, take}
use Rattle.words.specs.Pick.{pick, any}
use Rattle.table.specs.Model.{rows, position}

module _ {A : Type 0} where
  pub length-rows : (f : ℕ → A) (i n : ℕ) → length (rows f i n) ≡ n
  unfolding rows
  length-rows f i zero = refl
  length-rows f i (suc n) = ap suc (length-rows f (suc i) n)

  pub get_d_rows : (f : ℕ → A) (i n k : ℕ) (d : A) → k < n → get_or (rows f i n) k d ≡ f (i + k)
  unfolding rows
  get_d_rows f i zero k d h = absurd (omega arith)
  get_d_rows f i (suc n) zero d h = rw add-zero
  get_d_rows f i (suc n) (suc k) d h =
      let e : i + suc k ≡ suc i + k = omega arith in
      rw e (get_d_rows f (suc i) n k d (omega arith))

  -- functions that agree have the same rows
  pub rows_same : (f g : ℕ → A) (i n : ℕ) → ((j : ℕ) → i ≤ j → j < i + n → g j ≡ f j) → rows g i n ≡ rows f i n
  unfolding rows
  rows_same f g i zero h = refl
  rows_same f g i (suc n) h = cc (h i (omega arith) (omega arith), rows_same f g (suc i) n (λ j p q. h j (omega arith) (omega arith)))

  -- and one row of its own, where they agree but at i + k
  pub rows-set : (f g : ℕ → A) (x : A) (i n k : ℕ) → g (i + k) ≡ x → ((j : ℕ) → j < i + n → j ≢ i + k → g j ≡ f j) → rows g i n ≡ set (rows f i n) k x
  unfolding rows
  rows-set f g x i zero k e h = refl
  rows-set f g x i (suc n) zero e h =
      let e' : g i ≡ x = rw add-zero at e in
      cc (rows_same f g (suc i) n (λ j p q. h j (omega arith) (omega arith)))
  rows-set f g x i (suc n) (suc k) e h =
      let z : i + suc k ≡ suc i + k = omega arith in
      cc (h i (omega arith) (omega arith), rows-set f g x (suc i) n k (rw z at e) (λ j p q. h j (omega arith) (omega arith)))

  -- one row more
  rows_snoc : (f : ℕ → A) (i n : ℕ) → rows f i (n + 1) ≡ rows f i n ++ (f (i + n) ∷ [])
  unfolding rows
  rows_snoc f i zero = rw add-zero
  rows_snoc f i (suc n) =
      let e : suc n + 1 ≡ suc (n + 1) = omega arith in
      let z : i + suc n ≡ suc i + n = omega arith in
      rw (e, z, rows_snoc f (suc i) n)

  -- functions that agree on the first n rows, and one row more
  pub rows_more : (f g : ℕ → A) (x : A) (n : ℕ) → g n ≡ x → ((j : ℕ) → j < n → g j ≡ f j) → rows g 0 (n + 1) ≡ rows f 0 n ++ (x ∷ [])
  rows_more f g x n e h = rw (rows_snoc g 0 n, zero-add n, e, rows_same f g 0 n (λ j p q. h j (omega arith)))

  pub rows_end : (f : ℕ → A) (i n : ℕ) → n ≤ i → rows f i (n - i) ≡ []
  unfolding rows
  rows_end f i n h = let z : n - i ≡ 0 = omega arith in rw z

  pub rows_next : (f : ℕ → A) (i n : ℕ) → i < n → rows f i (n - i) ≡ f i ∷ rows f (i + 1) (n - (i + 1))
  unfolding rows
  rows_next f i n h = let z : n - i ≡ suc (n - (i + 1)) = omega arith in rw (z, add-one i)

  pub drop-rows : (f : ℕ → A) (k i n : ℕ) → drop k (rows f i n) ≡ rows f (i + k) (n - k)
  unfolding rows
  drop-rows f zero i n =
      let z : n - 0 ≡ n = omega arith in
      rw (z, add-zero)
  drop-rows f (suc k) i zero =
      let z : 0 - suc k ≡ 0 = omega arith in
      rw z
  drop-rows f (suc k) i (suc n) =
      let z : suc n - suc k ≡ n - k = omega arith in
      let y : i + suc k ≡ suc i + k = omega arith in
      rw (z, y) (drop-rows f k (suc i) n)

  pub take-rows : (f : ℕ → A) (k i n : ℕ) → take k (rows f i n) ≡ rows f i (min k n)
  unfolding rows
  take-rows f zero i n =
      let z : min 0 n ≡ 0 = omega arith in
      rw z
  take-rows f (suc k) i zero =
      let z : min (suc k) 0 ≡ 0 = omega arith in
      rw z
  take-rows f (suc k) i (suc n) =
      let z : min (suc k) (suc n) ≡ suc (min k n) = omega arith in
      rw z (ap (λ xs. f i ∷ xs) (take-rows f k (suc i) n))

  module _ (p : A → Bool) (f : ℕ → A) where
    pub position-end : (i n : ℕ) → i ≤ n → n ≤ i → i + position p (rows f i (n - i)) ≡ n
    unfolding position
    position-end i n l h = rw (rows_end f i n h) (omega arith)

    pub position_here : (i n : ℕ) → i < n → p (f i) ≡ true → i + position p (rows f i (n - i)) ≡ i
    unfolding position pick
    position_here i n h e = rw (rows_next f i n h, e) (omega arith)

    pub position-next : (i n : ℕ) → i < n → p (f i) ≡ false → i + position p (rows f i (n - i)) ≡ i + 1 + position p (rows f (i + 1) (n - (i + 1)))
    unfolding position pick
    position-next i n h e = rw (rows_next f i n h, e) (omega arith)

    pub any-end : (i n : ℕ) → n ≤ i → any p (rows f i (n - i)) ≡ false
    unfolding any
    any-end i n h = rw (rows_end f i n h)

    pub any_here : (i n : ℕ) → i < n → p (f i) ≡ true → any p (rows f i (n - i)) ≡ true
    unfolding any pick
    any_here i n h e = rw (rows_next f i n h, e)

    pub any_next : (i n : ℕ) → i < n → p (f i) ≡ false → any p (rows f i (n - i)) ≡ any p (rows f (i + 1) (n - (i + 1)))
    unfolding any pick
    any_next i n h e = rw (rows_next f i n h, e)
