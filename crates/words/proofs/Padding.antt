-- A run of at most four bytes is zero where the word that it ends is a multiple of as many bytes.
use Rattle.std.proofs.Common.{◌≡◌, ℕ, zero, suc, ◌+◌, ◌-◌, ◌*◌, ◌%◌, ◌^◌, ◌<◌, ◌≤◌, Bool, true, false, eqb, leb, List, [], ◌∷◌, length, get_or, sym, refl, ap, ◌∙◌, lt_of_lt_of_le, add-zero, add_assoc, mul-le-mul_right, mod-eq_of_lt, zero-add, zero-mul, arith, pow_pos, pow_mono, ne_eqb, eqb-true, leb-true}
use borrow.Author.Tests.{eqb-false}
use Rattle.words.specs.Pick.{pick, every}
use Rattle.words.proofs.Pick.{every-each}
use Rattle.words.specs.Bytes.{word_here, word_at, zero_at}
use Rattle.words.proofs.Bytes.{word-is}

-- the big-endian number of the k bytes from i on
unfoldable big : ℕ → List ℕ → ℕ → ℕ
big zero s i = 0
big (suc k) s i = get_or s i 0 * 2 ^ (8 * k) + big k s (i + 1)

-- it is 0 where they are
zero-big : (k : ℕ) (s : List ℕ) (i : ℕ) → zero_at k s i ≡ eqb (big k s i) 0
unfolding zero_at big pick
zero-big zero s i = refl
zero-big (suc k) s i = go (eqb (get_or s i 0) 0) refl (zero-big k s (i + 1))
  where
    go : (b : Bool) → eqb (get_or s i 0) 0 ≡ b → zero_at k s (i + 1) ≡ eqb (big k s (i + 1)) 0 → pick b (zero_at k s (i + 1)) false ≡ eqb (get_or s i 0 * 2 ^ (8 * k) + big k s (i + 1)) 0
    go true e ih = rw (eqb-true (get_or s i 0) 0 e, zero-mul (2 ^ (8 * k)), zero-add (big k s (i + 1))) ih
    go false e ih =
        let one : 1 ≤ get_or s i 0 = omega (arith, eqb-false (get_or s i 0) 0 e) in
        let more : 1 * 2 ^ (8 * k) ≤ get_or s i 0 * 2 ^ (8 * k) = mul-le-mul_right (2 ^ (8 * k)) one in
        sym (ne_eqb (get_or s i 0 * 2 ^ (8 * k) + big k s (i + 1)) 0 (λ z. omega (arith, pow_pos (8 * k))))

-- the low bytes of a word
low-big : (n : ℕ) (s : List ℕ) (q : ℕ) → ((i : ℕ) → get_or s i 0 < 256) → n ≤ 4 → word_here s q % 2 ^ (8 * n) ≡ big n s (q + (4 - n))
unfolding big
low-big zero s q h l = omega arith
low-big (suc zero) s q h l = simp (add_assoc) (omega (arith, h (q + 3)))
low-big (suc (suc zero)) s q h l = simp (add_assoc) (omega (arith, h (q + 2), h (q + 3)))
low-big (suc (suc (suc zero))) s q h l = simp (add_assoc) (omega (arith, h (q + 1), h (q + 2), h (q + 3)))
low-big (suc (suc (suc (suc zero)))) s q h l = simp (add_assoc, add-zero) (omega (arith, h q, h (q + 1), h (q + 2), h (q + 3)))
low-big (suc (suc (suc (suc (suc n))))) s q h l = absurd (omega arith)

pub zero-low : (n : ℕ) (s : List ℕ) (at : ℕ) → ((i : ℕ) → get_or s i 0 < 256) → n ≤ 4 → 4 ≤ at → eqb (word_here s (at + n - 4) % 2 ^ (8 * n)) 0 ≡ zero_at n s at
zero-low n s at h l f =
    let place : at + n - 4 + (4 - n) ≡ at = omega arith in
    ap (λ (x : ℕ). eqb x 0) (low-big n s (at + n - 4) h l) ∙ rw place (sym (zero-big n s at))

-- a word has four bytes
pub low-all : (w n : ℕ) → w < 4294967296 → 4 ≤ n → w % 2 ^ (8 * n) ≡ w
low-all w n h l = mod-eq_of_lt (lt_of_lt_of_le h (pow_mono {i = 32} {j = 8 * n} (omega arith)))

-- a shift by fewer than four bytes loses nothing of it
pub shift-low : (n : ℕ) → n < 4 → 1 * 2 ^ (8 * n) % 4294967296 ≡ 2 ^ (8 * n)
shift-low zero l = refl
shift-low (suc zero) l = refl
shift-low (suc (suc zero)) l = refl
shift-low (suc (suc (suc zero))) l = refl
shift-low (suc (suc (suc (suc n)))) l = absurd (omega arith)

-- the bytes before a place, by the word that ends there
pub zero-before : (n : ℕ) (s : List ℕ) (end : ℕ) → ((i : ℕ) → get_or s i 0 < 256) → n ≤ 4 → 4 + n ≤ end → end ≤ length s → eqb (word_at s (end - 4) % 2 ^ (8 * n)) 0 ≡ zero_at n s (end - n)
zero-before n s end h l f e =
    let last : end - n + n - 4 ≡ end - 4 = omega arith in
    ap (λ (w : ℕ). eqb (w % 2 ^ (8 * n)) 0) (word-is s (end - 4) (omega arith)) ∙ rw last at (zero-low n s (end - n) h l (omega arith))
