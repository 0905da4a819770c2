-- A search for a zero byte among k bytes at once. Where r is x with 1 taken from each byte, the lowest set bit of `marks` stands in the lowest byte of x that is zero:
-- those below it are not zero, so they borrow nothing and have no mark; it borrows, and has one.
use Rattle.std.proofs.Common.{◌≡◌, ℕ, zero, suc, ◌+◌, ◌-◌, ◌*◌, ◌/◌, ◌%◌, ◌^◌, ◌<◌, ◌≤◌, Bool, true, false, eqb, ltb, ◌⊎◌, List, get_or, sym, refl, ap, ◌∙◌, inl, inr, add_assoc, mul_assoc, suc-add, pow-suc, zero-add, arith, ltb-false, ltb-true, eqb-true}
use lib.Bits.{bit_and, and_block, and_lt}
use lib.Count.{count_trailing_zeros, trailing_le, under}
use borrow.Author.Tests.{eqb-false}
use Rattle.words.specs.Pick.{pick}
use Rattle.words.specs.Bytes.{name_length}
use Rattle.words.proofs.Pick.{pick-and}
use Rattle.words.proofs.Bytes.{name-none, name-stop, name-more}

-- k bytes, each of them b
unfoldable pub spread : ℕ → ℕ → ℕ
spread zero b = 0
spread (suc k) b = spread k b * 256 + b

-- the bits that x has not, at the top of each byte of r
unfoldable pub marks : ℕ → ℕ → ℕ → ℕ
marks k r x = bit_and (bit_and r (spread k 255 - x)) (spread k 128)

-- r is x with 1 taken from each byte, modulo k bytes
abbrev pub Lessened : ℕ → ℕ → ℕ → Type 0
Lessened k r x = (r + spread k 1 ≡ x) ⊎ (r + spread k 1 ≡ spread k 255 + 1 + x)

pub lessened : (r x : ℕ) → r < 18446744073709551616 → (r + 72340172838076673) % 18446744073709551616 ≡ x → Lessened 8 r x
unfolding spread
lessened r x h e = go (ltb (r + 72340172838076673) 18446744073709551616) refl
  where
    go : (b : Bool) → ltb (r + 72340172838076673) 18446744073709551616 ≡ b → Lessened 8 r x
    go true l = let less = ltb-true (r + 72340172838076673) 18446744073709551616 l in inl (omega arith)
    go false l = let more = ltb-false (r + 72340172838076673) 18446744073709551616 l in inr (omega arith)

-- the first byte borrows from those above it where it is zero, and else not
borrows : (k r x : ℕ) → Lessened (suc k) r (x * 256 + 0) → r % 256 ≡ 255
unfolding spread
borrows k r x (inl e) = omega arith
borrows k r x (inr e) = omega arith

borrows-not : (k r x b : ℕ) → (b ≡ 0 → ⊥) → b < 256 → Lessened (suc k) r (x * 256 + b) → (suc (r % 256) ≡ b) × Lessened k (r / 256) x
unfolding spread
borrows-not k r x b z h (inl e) = (omega arith, inl (omega arith))
borrows-not k r x b z h (inr e) = (omega arith, inr (omega arith))

-- of one byte
abbrev mark : ℕ → ℕ → ℕ
mark r b = bit_and (bit_and r (255 - b)) 128

marks-step : (k r x q b : ℕ) → x ≤ spread k 255 → q < 256 → b < 256 → marks (suc k) (r * 256 + q) (x * 256 + b) ≡ marks k r x * 256 + mark q b
unfolding marks spread
marks-step k r x q b l g h =
    let F : ℕ = spread k 255 in
    let not : F * 256 + 255 - (x * 256 + b) ≡ (F - x) * 256 + (255 - b) = omega arith in
    let both : bit_and (r * 256 + q) (F * 256 + 255 - (x * 256 + b)) ≡ bit_and r (F - x) * 256 + bit_and q (255 - b) = ap (bit_and (r * 256 + q)) not ∙ and_block 8 r (F - x) q (255 - b) g (omega arith) in
    ap (λ (y : ℕ). bit_and y (spread k 128 * 256 + 128)) both ∙ and_block 8 (bit_and r (F - x)) (spread k 128) (bit_and q (255 - b)) 128 (and_lt 8 q (255 - b) g (omega arith)) (omega arith)

-- no byte from 1 to n is marked, which is computed
unmarked : ℕ → Bool
unmarked zero = true
unmarked (suc b) = pick (eqb (mark b (suc b)) 0) (unmarked b) false

no-mark : (n q : ℕ) → unmarked n ≡ true → q < n → mark q (suc q) ≡ 0
unfolding unmarked pick
no-mark zero q e l = absurd (omega arith)
no-mark (suc n) q e l = go (eqb q n) refl (no-mark n q both.1)
  where
    both : (eqb (mark n (suc n)) 0 ≡ true) × (unmarked n ≡ true)
    both = pick-and (eqb (mark n (suc n)) 0) (unmarked n) e

    go : (c : Bool) → eqb q n ≡ c → (q < n → mark q (suc q) ≡ 0) → mark q (suc q) ≡ 0
    go true s less = ap (λ (b : ℕ). mark b (suc b)) (eqb-true q n s) ∙ eqb-true (mark n (suc n)) 0 both.0
    go false s less = less (omega (arith, eqb-false q n s))

-- digits above a run of j zeros
trailing-shift : (j k n : ℕ) → count_trailing_zeros (j + k) (n * 2 ^ j) ≡ j + count_trailing_zeros k n
unfolding count_trailing_zeros
trailing-shift zero k n = let one : n * 1 ≡ n = omega arith in rw (zero-add k, one) (omega arith)
trailing-shift (suc j) k n =
    let twice : n * 2 ^ suc j ≡ n * 2 ^ j * 2 = ap (λ (x : ℕ). n * x) (pow-suc 2 j) ∙ sym (mul_assoc n (2 ^ j) 2) in
    let even : n * 2 ^ suc j % 2 ≡ 0 = omega (arith, twice) in
    let half : n * 2 ^ suc j / 2 ≡ n * 2 ^ j = omega (arith, twice) in
    rw (suc-add j k, even, half) (omega (arith, trailing-shift j k n))

trailing_odd : (k n : ℕ) → count_trailing_zeros (suc k) (n * 2 + 1) ≡ 0
unfolding count_trailing_zeros
trailing_odd k n = let odd : (n * 2 + 1) % 2 ≡ 1 = omega arith in rw odd refl

-- a number of k digits that is not 0 has a digit set
pub trailing-less : (k n : ℕ) → n < 2 ^ k → (n ≡ 0 → ⊥) → count_trailing_zeros k n < k
unfolding count_trailing_zeros
trailing-less zero n h z = absurd (z (omega arith))
trailing-less (suc k) n h z = go (n % 2) refl (trailing-less k (n / 2))
  where
    go : (d : ℕ) → n % 2 ≡ d → (n / 2 < 2 ^ k → (n / 2 ≡ 0 → ⊥) → count_trailing_zeros k (n / 2) < k) → under d (count_trailing_zeros k (n / 2)) < suc k
    go zero e less = omega (arith, less (omega (arith, pow-suc 2 k)) (λ f. z (omega arith)))
    go (suc d) e less = omega arith

-- how many bytes stand below the lowest mark: none where the first byte is zero, else one more than among the others
abbrev below : ℕ → ℕ → ℕ → ℕ
below k r x = count_trailing_zeros (8 * k) (marks k r x) / 8

below-zero : (k r x : ℕ) → x ≤ spread k 255 → below (suc k) (r * 256 + 255) (x * 256 + 0) ≡ 0
below-zero k r x l =
    let digits : 8 * suc k ≡ 7 + suc (8 * k) = omega arith in
    let m : marks (suc k) (r * 256 + 255) (x * 256 + 0) ≡ (marks k r x * 2 + 1) * 128 = omega (arith, marks-step k r x 255 0 l (omega arith) (omega arith)) in
    rw (digits, m) (omega (arith, trailing-shift 7 (suc (8 * k)) (marks k r x * 2 + 1), trailing_odd (8 * k) (marks k r x)))

below_more : (k r x q : ℕ) → x ≤ spread k 255 → q < 255 → below (suc k) (r * 256 + q) (x * 256 + suc q) ≡ suc (below k r x)
unfolding unmarked pick
below_more k r x q l h =
    let digits : 8 * suc k ≡ 8 + 8 * k = omega arith in
    let m : marks (suc k) (r * 256 + q) (x * 256 + suc q) ≡ marks k r x * 256 = omega (arith, marks-step k r x q (suc q) l (omega arith) (omega arith), no-mark 255 q refl h) in
    rw (digits, m) (omega (arith, trailing-shift 8 (8 * k) (marks k r x)))

-- the k bytes from `at` on as one number, the first lowest
unfoldable pub little : ℕ → List ℕ → ℕ → ℕ
little zero s at = 0
little (suc k) s at = little k s (at + 1) * 256 + get_or s at 0

little-le : (k : ℕ) (s : List ℕ) (at : ℕ) → ((i : ℕ) → get_or s i 0 < 256) → little k s at ≤ spread k 255
unfolding little spread
little-le zero s at h = omega arith
little-le (suc k) s at h = omega (arith, little-le k s (at + 1) h, h at)

-- the lowest mark stands in the byte where the name ends
pub marks-name : (k r : ℕ) (s : List ℕ) (at : ℕ) → ((i : ℕ) → get_or s i 0 < 256) → Lessened k r (little k s at) → count_trailing_zeros (8 * k) (marks k r (little k s at)) / 8 ≡ name_length k s at
unfolding little
marks-name zero r s at h d = omega (arith, trailing_le 0 (marks 0 r (little 0 s at)), name-none 0 s at (omega arith))
marks-name (suc k) r s at h d = go (eqb (get_or s at 0) 0) refl (marks-name k (r / 256) s (at + 1) h)
  where
    go : (c : Bool) → eqb (get_or s at 0) 0 ≡ c → (Lessened k (r / 256) (little k s (at + 1)) → below k (r / 256) (little k s (at + 1)) ≡ name_length k s (at + 1)) → below (suc k) r (little k s (at + 1) * 256 + get_or s at 0) ≡ name_length (suc k) s at
    go true e more =
        let z = eqb-true (get_or s at 0) 0 e in
        let last : r ≡ r / 256 * 256 + 255 = omega (arith, borrows k r (little k s (at + 1)) (rw z at d)) in
        rw (z, last) (below-zero k (r / 256) (little k s (at + 1)) (little-le k s (at + 1) h)) ∙ sym (name-stop (suc k) s at z)
    go false e more =
        let z = eqb-false (get_or s at 0) 0 e in
        let kept = borrows-not k r (little k s (at + 1)) (get_or s at 0) z (h at) d in
        let less : suc k - 1 ≡ k = omega arith in
        let parts : r ≡ r / 256 * 256 + r % 256 = omega arith in
        ap (λ (y : ℕ). below (suc k) y (little k s (at + 1) * 256 + get_or s at 0)) parts
        ∙ ap (λ (b : ℕ). below (suc k) (r / 256 * 256 + r % 256) (little k s (at + 1) * 256 + b)) (sym kept.0)
        ∙ below_more k (r / 256) (little k s (at + 1)) (r % 256) (little-le k s (at + 1) h) (omega (arith, kept.0, h at))
        ∙ ap suc (more kept.1) ∙ sym (rw less at (name-more (suc k) s at (omega arith) z))
