-- Searches in several rows at a time: whether one of them passes.
use Prim.Native.Nat.{ℕ, zero, suc, ◌+◌, ◌*◌}
use mathlib.Core.Path.{◌≡◌, refl}
use mathlib.Core.Bool.{Bool, true, false, ◌||◌}
use native.Mathlib.Omega.{arith}
use native.Mathlib.Nat.{add-zero, zero-add}
use Rattle.words.specs.Pick.{pick, any}
use Rattle.table.specs.Model.{rows}

module _ {A : Type 0} (p : A → Bool) (f : ℕ → A) where
  -- m rows, and n after them
  any-join : (m n i : ℕ) → (any p (rows f i m) || any p (rows f (i + m) n)) ≡ any p (rows f i (m + n))
  unfolding any rows pick
  any-join zero n i = rw (add-zero, zero-add)
  any-join (suc m) n i =
      let z : suc m + n ≡ suc (m + n) = omega arith in
      let y : i + suc m ≡ suc i + m = omega arith in
      rw (z, y) (go (p (f i)) (any p (rows f (suc i) m)) (any p (rows f (suc i + m) n)) (any-join m n (suc i)))
    where
      go : (b x y : Bool) {z : Bool} → (x || y) ≡ z → (pick b true x || y) ≡ pick b true z
      go true x y e = refl
      go false x y e = e

  -- four times m rows
  pub any-fours : (m i : ℕ) → (any p (rows f i m) || any p (rows f (i + m) m) || any p (rows f (i + 2 * m) m) || any p (rows f (i + 3 * m) m)) ≡ any p (rows f i (4 * m))
  any-fours m i =
      let a : 2 * m ≡ m + m = omega arith in
      let b : 3 * m ≡ m + m + m = omega arith in
      let c : 4 * m ≡ m + m + m + m = omega arith in
      rw (a, b, c, any-join m m i, any-join (m + m) m i, any-join (m + m + m) m i)
