-- Masks of lines as they stand in the words, in use or not: by parts, by the weights of their bits, and of those in use alone.
use Prim.Native.Nat.{ℕ, zero, suc, ◌+◌, ◌-◌, ◌*◌, ◌%◌, ◌^◌, ◌≤◌, ◌<◌, min}
use mathlib.Core.Path.{◌≡◌, ap, sym, ◌∙◌}
use mathlib.Core.List.{List, [], ◌∷◌}
use mathlib.Core.Bool.{Bool, true, false, ◌&&◌}
use native.Mathlib.Omega.{arith}
use native.Mathlib.Nat.{add-zero, zero-add, one-mul, mul_assoc, pow-suc, add-mul-mod_self_right, mod-eq_of_lt}
use lib.Dec.{lit<}
use lib.Pow.{shl_exact}
use lib.ListN.{drop, get_or, length, take}
use Rattle.words.specs.Pick.{pick, every}
use Rattle.table.specs.Layout.{line_at, line_count_of}
use Rattle.table.specs.Model.{rows, table_of}
use Rattle.table.proofs.Rows.{length-rows, drop-rows, take-rows}
use Rattle.table.proofs.Refine.{length-ledger}
use Rattle.pool.specs.Pool.{bit_of, mask_of}
use Rattle.pool.proofs.Masks.{mask_lt}

-- two tests, joined
pub both-weigh : (a b r : Bool) (w x : ℕ) → (a && b) ≡ r → x ≡ bit_of r * w → x ≡ bit_of (every (a ∷ b ∷ [])) * w
unfolding every pick
both-weigh true true r w x e h = rw (sym e) at h
both-weigh true false r w x e h = rw (sym e) at h
both-weigh false b r w x e h = rw (sym e) at h

-- the lines of the ledger from i on, at most k of them
pub lines_from : (t : List ℕ) (k i : ℕ) → take k (drop i (table_of t).ledger) ≡ rows (line_at t) i (min k (length (table_of t).ledger - i))
unfolding table_of
lines_from t k i = rw (length-ledger t, drop-rows (line_at t) i 0 (line_count_of t), zero-add i) (take-rows (line_at t) k i (line_count_of t - i))

-- ---- masks
module _ {A : Type 0} (p : A → Bool) (f : ℕ → A) where
  -- m rows in the low bits, and n after them
  pub mask-rows : (m n i : ℕ) → mask_of p (rows f i (m + n)) ≡ mask_of p (rows f i m) + mask_of p (rows f (i + m) n) * 2 ^ m
  unfolding mask_of rows
  mask-rows zero n i = rw (zero-add n, add-zero i) (omega arith)
  mask-rows (suc m) n i =
      let z : suc m + n ≡ suc (m + n) = omega arith in
      let y : i + suc m ≡ suc i + m = omega arith in
      let later = mask_of p (rows f (suc i + m) n) in
      rw (z, y, pow-suc 2 m, ← mul_assoc later (2 ^ m) 2) (omega (arith, mask-rows m n (suc i)))

  pub mask-rows-lt : (n i : ℕ) → mask_of p (rows f i n) < 2 ^ n
  mask-rows-lt n i = rw (length-rows f i n) at (mask_lt p (rows f i n))

  -- one row more
  pub mask_next : (n i : ℕ) → mask_of p (rows f i n) + bit_of (p (f (i + n))) * 2 ^ n ≡ mask_of p (rows f i (n + 1))
  unfolding mask_of rows
  mask_next n i = sym (rw (zero-add (bit_of (p (f (i + n))))) at (mask-rows n 1 i))

  -- the first n rows of k
  pub mask_first : (n k i : ℕ) → n ≤ k → mask_of p (rows f i k) % 2 ^ n ≡ mask_of p (rows f i n)
  mask_first n k i h =
      let z : k ≡ n + (k - n) = omega arith in
      let m = mask-rows n (k - n) i in
      ap (λ j. mask_of p (rows f i j) % 2 ^ n) z ∙ ap (λ x. x % 2 ^ n) m ∙
      add-mul-mod_self_right (mask_of p (rows f i n)) (mask_of p (rows f (i + n) (k - n))) (2 ^ n) ∙ mod-eq_of_lt (mask-rows-lt n i)

-- a bit alone, below the 64th
pub bit-shift : (n : ℕ) → n < 64 → 1 * 2 ^ n % 18446744073709551616 ≡ 2 ^ n
bit-shift n h = shl_exact {a = 1} 1 n 64 (lit< tt) (omega arith) ∙ one-mul (2 ^ n)

-- ---- weights
-- x, and each next one twice the last: n of them
abbrev pub powers_from : ℕ → ℕ → List ℕ
powers_from x zero = []
powers_from x (suc n) = x ∷ powers_from (x * 2) n

powers-at : (n i x : ℕ) → i < n → get_or (powers_from x n) i 0 ≡ x * 2 ^ i
powers-at zero i x h = absurd (omega arith)
powers-at (suc n) zero x h = omega arith
powers-at (suc n) (suc i) x h = powers-at n i (x * 2) (omega arith) ∙ go
  where
    go : x * 2 * 2 ^ i ≡ x * 2 ^ suc i
    go = rw (pow-suc 2 i, mul_assoc x 2 (2 ^ i)) (ap (λ y. x * y) (omega arith))

pub weight-at : (i : ℕ) → i < 32 → get_or (powers_from 1 32) i 0 ≡ 2 ^ i
weight-at i h = powers-at 32 i 1 h ∙ omega arith
