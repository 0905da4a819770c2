-- Laws of masks: the set bits count those that pass, the lowest is the first; and of counting and numbering block by block.
use Prim.Native.Nat.{ℕ, zero, suc, ◌+◌, ◌*◌, ◌/◌, ◌%◌, ◌^◌, ◌≤◌, ◌<◌}
use mathlib.Core.Path.{◌≡◌, refl, ap, sym, ◌∙◌}
use mathlib.Core.Logic.{◌≢◌}
use mathlib.Core.List.{List, [], ◌∷◌, ◌++◌}
use mathlib.Core.Bool.{Bool, true, false}
use native.Mathlib.Omega.{arith}
use native.Mathlib.Nat.{pow-suc, add-zero}
use borrow.Author.Tests.{ltb-true, ltb-false}
use lib.Dec.{ltb, lit<}
use lib.Count.{ones, ones_cat, count_trailing_zeros, under}
use lib.ListN.{drop, length, take, take-append-drop, length-take, length-drop, drop_of_length-le}
use lib.Seq.{drop-drop}
use Rattle.words.specs.Pick.{pick}
use Rattle.pool.specs.Pool.{bit_of, mask_of, how_many, number_from}

pub bit-lt : (b : Bool) → bit_of b < 2
bit-lt true = lit< tt
bit-lt false = lit< tt

ones_bit : (b : Bool) → ones (bit_of b) ≡ bit_of b
unfolding ones
ones_bit true = refl
ones_bit false = refl

module _ {A : Type 0} (p : A → Bool) where
  pub mask_lt : (xs : List A) → mask_of p xs < 2 ^ length xs
  unfolding mask_of
  mask_lt [] = lit< tt
  mask_lt (x ∷ xs) = rw pow-suc (omega (arith, bit-lt (p x), mask_lt xs))

  pub mask-ones : (xs : List A) → ones (mask_of p xs) ≡ how_many p xs
  unfolding mask_of how_many ones
  mask-ones [] = refl
  mask-ones (x ∷ xs) = ones_cat 1 (mask_of p xs) (bit_of (p x)) (bit-lt (p x)) ∙ omega (arith, ones_bit (p x), mask-ones xs)

  -- no bit: none of these has a number
  pub mask-zero : (n : ℕ) (xs ys : List A) → mask_of p xs ≡ 0 → number_from p n (xs ++ ys) ≡ number_from p (n + length xs) ys
  unfolding mask_of number_from pick
  mask-zero n [] ys e = rw add-zero
  mask-zero n (x ∷ xs) ys e =
      let z : n + suc (length xs) ≡ suc n + length xs = omega arith in
      rw z (go (p x) (mask_of p xs) (number_from p (suc n) (xs ++ ys)) (number_from p (suc n + length xs) ys) (mask-zero (suc n) xs ys) e)
    where
      go : (b : Bool) (m l r : ℕ) → (m ≡ 0 → l ≡ r) → m * 2 + bit_of b ≡ 0 → pick b n l ≡ r
      go true m l r k e = absurd (omega arith)
      go false m l r k e = k (omega arith)

  -- the lowest bit: the first of these, whatever comes after
  pub mask-lowest : (w n : ℕ) (xs ys : List A) → length xs ≤ w → mask_of p xs ≢ 0 → n + count_trailing_zeros w (mask_of p xs) ≡ number_from p n (xs ++ ys)
  unfolding mask_of number_from count_trailing_zeros pick
  mask-lowest w n [] ys h ne = absurd (ne refl)
  mask-lowest zero n (x ∷ xs) ys h ne = absurd (omega arith)
  mask-lowest (suc w) n (x ∷ xs) ys h ne = go (p x) (mask_of p xs) (number_from p (suc n) (xs ++ ys)) (mask-lowest w (suc n) xs ys (omega arith)) ne
    where
      go : (b : Bool) (m l : ℕ) → (m ≢ 0 → suc n + count_trailing_zeros w m ≡ l) → m * 2 + bit_of b ≢ 0 → n + under ((m * 2 + bit_of b) % 2) (count_trailing_zeros w ((m * 2 + bit_of b) / 2)) ≡ pick b n l
      go true m l k ne =
          let a : (m * 2 + 1) % 2 ≡ 1 = omega arith in
          rw a (omega arith)
      go false m l k ne =
          let a : (m * 2 + 0) % 2 ≡ 0 = omega arith in
          let d : (m * 2 + 0) / 2 ≡ m = omega arith in
          rw (a, d) (omega (arith, k (λ z. ne (omega arith))))

  how_many-append : (xs ys : List A) → how_many p (xs ++ ys) ≡ how_many p xs + how_many p ys
  unfolding how_many
  how_many-append [] ys = omega arith
  how_many-append (x ∷ xs) ys = omega (arith, how_many-append xs ys)

  pub how_many-most : (xs : List A) → how_many p xs ≤ length xs
  unfolding how_many
  how_many-most [] = omega arith
  how_many-most (x ∷ xs) = omega (arith, bit-lt (p x), how_many-most xs)

  -- the k from i on, and the rest
  split : (i k : ℕ) (xs : List A) → drop i xs ≡ take k (drop i xs) ++ drop (i + k) xs
  split i k xs = sym (ap (λ r. take k (drop i xs) ++ r) (sym (drop-drop k i xs)) ∙ take-append-drop k (drop i xs))

  pub block-count : (i k : ℕ) (xs : List A) → how_many p (drop i xs) ≡ ones (mask_of p (take k (drop i xs))) + how_many p (drop (i + k) xs)
  block-count i k xs =
      ap (how_many p) (split i k xs) ∙ how_many-append (take k (drop i xs)) (drop (i + k) xs) ∙
      ap (λ n. n + how_many p (drop (i + k) xs)) (sym (mask-ones (take k (drop i xs))))

  pub block-lowest : (i k n : ℕ) (xs : List A) → mask_of p (take k (drop i xs)) ≢ 0 → n + count_trailing_zeros k (mask_of p (take k (drop i xs))) ≡ number_from p n (drop i xs)
  block-lowest i k n xs ne =
      mask-lowest k n (take k (drop i xs)) (drop (i + k) xs) (simp length-take (omega arith)) ne ∙ ap (number_from p n) (sym (split i k xs))

  -- where nothing is left, the numbers are one as good as another
  renumber : (m n i : ℕ) (xs : List A) → (i < length xs → m ≡ n) → number_from p m (drop i xs) ≡ number_from p n (drop i xs)
  unfolding number_from
  renumber m n i xs h = go (ltb i (length xs)) refl
    where
      go : (b : Bool) → ltb i (length xs) ≡ b → number_from p m (drop i xs) ≡ number_from p n (drop i xs)
      go true e = rw (h (ltb-true i (length xs) e))
      go false e = rw (drop_of_length-le xs (ltb-false i (length xs) e))

  pub block_none : (i k n : ℕ) (xs : List A) → mask_of p (take k (drop i xs)) ≡ 0 → number_from p n (drop i xs) ≡ number_from p (n + k) (drop (i + k) xs)
  block_none i k n xs e =
      ap (number_from p n) (split i k xs) ∙ mask-zero n (take k (drop i xs)) (drop (i + k) xs) e ∙
      renumber (n + length (take k (drop i xs))) (n + k) (i + k) xs (λ h. simp (length-take, length-drop) (omega arith))
