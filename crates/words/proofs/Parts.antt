-- Laws of the parts of a block: the words that they are, and what is found in them.
use Rattle.std.proofs.Common.{◌≡◌, ℕ, zero, suc, ◌+◌, ◌-◌, ◌*◌, ◌/◌, ◌<◌, ◌≤◌, Bool, true, false, not, cond, eqb, ltb, ◌⊎◌, inl, inr, List, [], ◌∷◌, length, get_or, take, drop, Option, Some, None, sym, refl, ap, ◌∙◌, add-zero, add_assoc, zero-add, ltb-true, ltb-false, arith, w32, w64}
use lib.ListN.{get_or-eq_default}
use Rattle.std.specs.Int.{from_be_bytes, from_le_bytes}
use Rattle.std.specs.List.{list_all, position, position_or_len}
use Rattle.std.specs.Option.{MatchOption, unwrap_or}
use Rattle.std.specs.Array.{IsWholeChunk}
use Rattle.std.specs.Borrow.{Bor}
use Rattle.std.specs.Simd.{first_chunks}
use Rattle.std.proofs.lemmas.List.{length-take, length-drop, get_or-take, get_or-drop, drop_more, drop_all, drop-drop, drop-take}
use Rattle.std.proofs.lemmas.List.Sums.{prefix_len-le-length}
use Rattle.words.specs.Pick.{pick}
use Rattle.words.specs.Bytes.{part, word_here, eight_here, name_length, zero_at}
use Rattle.words.proofs.Bytes.{name-stop, zero-past}

part-none : (s : List ℕ) (i : ℕ) → part s i 0 ≡ []
unfolding part
part-none s i = refl

pub part-at : (s : List ℕ) (at n i : ℕ) → i < n → get_or (part s at n) i 0 ≡ get_or s (at + i) 0
unfolding part
part-at s at n i h = rw (get_or-take n (drop at s) i 0 h) (get_or-drop at s i 0)

-- four and eight bytes as numbers
pub word-part : (s bs : List ℕ) (at : ℕ) → bs ≡ part s at 4 → from_be_bytes w32 bs ≡ word_here s at
word-part s bs at e =
    let p : (i : ℕ) → i < 4 → get_or bs i 0 ≡ get_or s (at + i) 0 = λ i h. rw e (part-at s at 4 i h) in
    let first : get_or bs 0 0 ≡ get_or s at 0 = rw add-zero at (p 0 (omega arith)) in
    omega (arith, first, p 1 (omega arith), p 2 (omega arith), p 3 (omega arith))

pub eight-part : (s bs : List ℕ) (at : ℕ) → bs ≡ part s at 8 → from_le_bytes w64 bs ≡ eight_here s at
eight-part s bs at e =
    let p : (i : ℕ) → i < 8 → get_or bs i 0 ≡ get_or s (at + i) 0 = λ i h. rw e (part-at s at 8 i h) in
    let first : get_or bs 0 0 ≡ get_or s at 0 = rw add-zero at (p 0 (omega arith)) in
    omega (arith, first, p 1 (omega arith), p 2 (omega arith), p 3 (omega arith), p 4 (omega arith), p 5 (omega arith), p 6 (omega arith), p 7 (omega arith))

-- a name by the bytes that it has: of the same bytes at two places it finds the same
pub name-same : (k : ℕ) (s t : List ℕ) (i j : ℕ) → ((m : ℕ) → m < k → get_or s (i + m) 0 ≡ get_or t (j + m) 0) → name_length k s i ≡ name_length k t j
unfolding name_length
name-same zero s t i j e = refl
name-same (suc k) s t i j e =
    let first : get_or s i 0 ≡ get_or t j 0 = rw (add-zero i, add-zero j) at (e 0 (omega arith)) in
    let on : (n m : ℕ) → n + 1 + m ≡ n + (m + 1) = λ n m. omega arith in
    let rest = name-same k s t (i + 1) (j + 1) (λ m h. rw (on i m, on j m) (e (m + 1) (omega arith))) in
    rw (first, rest)

pub part-le : (s : List ℕ) (at n : ℕ) → length (part s at n) ≤ n
unfolding part
part-le s at n = omega (arith, length-take n (drop at s))

-- the bytes of the i-th eight of the first n bytes from `at` on
chunk-at : (n k i : ℕ) (xs d : List ℕ) → i < k → get_or (first_chunks n k xs) i d ≡ take n (drop (n * i) xs)
chunk-at n zero i xs d h = absurd (omega arith)
chunk-at n (suc k) zero xs d h = let none : n * 0 ≡ 0 = omega arith in rw none
chunk-at n (suc k) (suc i) xs d h =
    let on : n + n * i ≡ n * suc i = omega arith in
    chunk-at n k i (drop n xs) d (omega arith) ∙ rw (drop-drop (n * i) n xs, on)

pub name-eight : (s : List ℕ) (at n i : ℕ) (d p : List ℕ) (es : List (List ℕ)) → p ≡ part s at n → es ≡ first_chunks 8 (length p / 8) p → length es ≡ length p / 8 → i < length es → name_length 8 (get_or es i d) 0 ≡ name_length 8 s (at + 8 * i)
unfolding part
name-eight s at n i d p es e f l h = rw (f, chunk-at 8 (length p / 8) i p d (omega arith), e) (name-same 8 _ s 0 (at + 8 * i) byte)
  where
    byte : (m : ℕ) → m < 8 → get_or (take 8 (drop (8 * i) (take n (drop at s)))) (0 + m) 0 ≡ get_or s (at + 8 * i + m) 0
    byte m g =
        let place : at + (8 * i + m) ≡ at + 8 * i + m = omega arith in
        let in_eight : 0 + m < 8 = omega arith in
        let in_part : 8 * i + (0 + m) < n = omega (arith, ap length e, length-take n (drop at s)) in
        rw (get_or-take 8 (drop (8 * i) (take n (drop at s))) (0 + m) 0 in_eight, get_or-drop (8 * i) (take n (drop at s)) (0 + m) 0, get_or-take n (drop at s) (8 * i + (0 + m)) 0 in_part, get_or-drop at s (8 * i + (0 + m)) 0, zero-add m, place)

abbrev pub is_nul : ℕ → Bool
is_nul b = eqb b 0

-- the byte at i and those behind it, or none
part-more : (s : List ℕ) (i k : ℕ) → (length s ≤ i) ⊎ (part s i (suc k) ≡ get_or s i 0 ∷ part s (i + 1) k)
unfolding part
part-more s i k = go (ltb i (length s)) refl
  where
    go : (b : Bool) → ltb i (length s) ≡ b → (length s ≤ i) ⊎ (take (suc k) (drop i s) ≡ get_or s i 0 ∷ take k (drop (i + 1) s))
    go true e = inr (rw (drop_more s i 0 (ltb-true _ _ e)))
    go false e = inl (ltb-false _ _ e)

part-past : (s : List ℕ) (i k : ℕ) → length s ≤ i → part s i k ≡ []
unfolding part
part-past s i zero h = refl
part-past s i (suc k) h = rw (drop_all i s h)

-- a name ends at the first NUL of the bytes that are looked at
pub name-first : (k : ℕ) (s : List ℕ) (i : ℕ) → name_length k s i ≡ position_or_len is_nul (part s i k)
unfolding name_length pick
name-first zero s i = rw (part-none s i)
name-first (suc k) s i = go (part-more s i k) (eqb (get_or s i 0) 0) refl (name-first k s (i + 1))
  where
    go : (length s ≤ i) ⊎ (part s i (suc k) ≡ get_or s i 0 ∷ part s (i + 1) k) → (b : Bool) → eqb (get_or s i 0) 0 ≡ b → name_length k s (i + 1) ≡ position_or_len is_nul (part s (i + 1) k) → name_length (suc k) s i ≡ position_or_len is_nul (part s i (suc k))
    go (inl h) b e more = name-stop (suc k) s i (get_or-eq_default s 0 h) ∙ rw (part-past s i (suc k) h)
    go (inr h) true e more = rw (h, e)
    go (inr h) false e more = rw (h, e) (omega (arith, more))

pub name-le : (k : ℕ) (s : List ℕ) (i : ℕ) → name_length k s i ≤ k
name-le k s i = rw (name-first k s i) (omega (arith, prefix_len-le-length (λ b. not (is_nul b)) (part s i k), part-le s i k))

-- and bytes are zero where all of them are
pub zero-all : (k : ℕ) (s : List ℕ) (i : ℕ) → zero_at k s i ≡ list_all is_nul (part s i k)
unfolding zero_at pick
zero-all zero s i = rw (part-none s i)
zero-all (suc k) s i = go (part-more s i k) (eqb (get_or s i 0) 0) refl (zero-all k s (i + 1))
  where
    go : (length s ≤ i) ⊎ (part s i (suc k) ≡ get_or s i 0 ∷ part s (i + 1) k) → (b : Bool) → eqb (get_or s i 0) 0 ≡ b → zero_at k s (i + 1) ≡ list_all is_nul (part s (i + 1) k) → zero_at (suc k) s i ≡ list_all is_nul (part s i (suc k))
    go (inl h) b e more = zero-past (suc k) s i h ∙ rw (part-past s i (suc k) h)
    go (inr h) true e more = rw (h, e) more
    go (inr h) false e more = rw (h, e)

-- the end of a part
pub name-rest : (s : List ℕ) (at n j : ℕ) → j ≤ n → name_length (n - j) s (at + j) ≡ position_or_len is_nul (drop j (part s at n))
unfolding part
name-rest s at n j h =
    let all : j + (n - j) ≡ n = omega arith in
    let cut : drop j (take n (drop at s)) ≡ take (n - j) (drop (at + j) s) = rw all at (drop-take j (n - j) (drop at s)) ∙ rw (drop-drop j at s) in
    name-first (n - j) s (at + j) ∙ ap (position_or_len is_nul) (sym cut)

pub position-is : (xs : List ℕ) → unwrap_or (position is_nul xs) (length xs) ≡ position_or_len is_nul xs
position-is xs = go (position_or_len is_nul xs) (prefix_len-le-length (λ b. not (is_nul b)) xs) (ltb (position_or_len is_nul xs) (length xs)) refl
  where
    go : (p : ℕ) → p ≤ length xs → (b : Bool) → ltb p (length xs) ≡ b → unwrap_or (cond b (Some p) None) (length xs) ≡ p
    go p h true e = refl
    go p h false e = omega (arith, ltb-false p (length xs) e)

-- as many bytes as are asked for are the whole of their part
pub whole-part : (s : List ℕ) (at n k : ℕ) (r : Option (Bor (List ℕ))) → at + n ≤ length s → k ≡ n → MatchOption r (length (take k (drop at s)) ≡ n → ⊥) (λ y. IsWholeChunk (take k (drop at s)) y.now n) → MatchOption r (length s < at + n) (λ y. (at + n ≤ length s) × (y.now ≡ part s at n))
unfolding part
whole-part s at n k None h e f = absurd (f (simp (length-take, length-drop) (omega arith)))
whole-part s at n k (Some y) h e f = (h, f.same ∙ rw e)
