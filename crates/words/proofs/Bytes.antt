-- Laws of `word_at`, `name_length` and `zero_at`.
use Rattle.std.proofs.Common.{◌≡◌, ℕ, zero, suc, ◌+◌, ◌-◌, ◌<◌, ◌≤◌, Bool, true, false, eqb, ltb, List, length, get_or, refl, ap, add-zero, add_assoc, suc-add, zero-add, sub-one, arith, ltb-false, le-ltb, lt-ltb, eq-eqb, ne_eqb, eqb-true}
use lib.ListN.{get_or-eq_default}
use Rattle.words.specs.Pick.{pick}
use Rattle.words.proofs.Pick.{pick-cases, pick_yes, pick_no}
use Rattle.words.specs.Bytes.{word_at, word_here, eight_here, eight_at, name_length, zero_at}

-- a word that is not 0 stands in the block
pub word_in : (s : List ℕ) (at : ℕ) → (word_at s at ≡ 0 → ⊥) → 4 ≤ length s - at
unfolding word_at
word_in s at n = pick-cases (λ w. (w ≡ 0 → ⊥) → 4 ≤ length s - at) (ltb (length s - at) 4) 0 (word_here s at) (λ e f. absurd (f refl)) (λ e f. ltb-false _ _ e) n

pub word_none : (s : List ℕ) (at : ℕ) → length s - at < 4 → word_at s at ≡ 0
unfolding word_at
word_none s at h = pick_yes (ltb (length s - at) 4) 0 (word_here s at) (lt-ltb _ _ h)

pub word-is : (s : List ℕ) (at : ℕ) → 4 ≤ length s - at → word_at s at ≡ word_here s at
unfolding word_at
word-is s at h = pick_no (ltb (length s - at) 4) 0 (word_here s at) (le-ltb _ _ h)

pub eight-none : (s : List ℕ) (at : ℕ) → length s - at < 8 → eight_at s at ≡ 0
unfolding eight_at
eight-none s at h = pick_yes (ltb (length s - at) 8) 0 (eight_here s at) (lt-ltb _ _ h)

pub eight_is : (s : List ℕ) (at : ℕ) → 8 ≤ length s - at → eight_at s at ≡ eight_here s at
unfolding eight_at
eight_is s at h = pick_no (ltb (length s - at) 8) 0 (eight_here s at) (le-ltb _ _ h)

pub name-stop : (k : ℕ) (s : List ℕ) (i : ℕ) → get_or s i 0 ≡ 0 → name_length k s i ≡ 0
unfolding name_length pick
name-stop zero s i e = refl
name-stop (suc k) s i e = simp (eq-eqb _ _ e)

pub name-more : (k : ℕ) (s : List ℕ) (i : ℕ) → 0 < k → (get_or s i 0 ≡ 0 → ⊥) → name_length k s i ≡ suc (name_length (k - 1) s (i + 1))
unfolding name_length pick
name-more zero s i h e = absurd (omega arith)
name-more (suc k) s i h e = simp (ne_eqb _ _ e, sub-one)

pub name-none : (k : ℕ) (s : List ℕ) (i : ℕ) → k ≤ 0 → name_length k s i ≡ 0
unfolding name_length
name-none zero s i h = refl
name-none (suc k) s i h = absurd (omega arith)

-- past the end all is zero
pub zero-past : (k : ℕ) (s : List ℕ) (i : ℕ) → length s ≤ i → zero_at k s i ≡ true
unfolding zero_at pick
zero-past zero s i h = refl
zero-past (suc k) s i h = simp (eq-eqb _ _ (get_or-eq_default s 0 h), zero-past k s (i + 1) (omega arith))

-- a name that ends before its limit ends at a NUL
pub name-nul : (k : ℕ) (s : List ℕ) (i : ℕ) → name_length k s i < k → get_or s (i + name_length k s i) 0 ≡ 0
unfolding name_length pick
name-nul zero s i h = absurd (omega arith)
name-nul (suc k) s i h = go (eqb (get_or s i 0) 0) refl h (name-nul k s (i + 1))
  where
    go : (b : Bool) → eqb (get_or s i 0) 0 ≡ b → pick b 0 (suc (name_length k s (i + 1))) < suc k → (name_length k s (i + 1) < k → get_or s (i + 1 + name_length k s (i + 1)) 0 ≡ 0) → get_or s (i + pick b 0 (suc (name_length k s (i + 1)))) 0 ≡ 0
    go true e l more = rw add-zero (eqb-true _ _ e)
    go false e l more = let up : i + suc (name_length k s (i + 1)) ≡ i + 1 + name_length k s (i + 1) = omega arith in rw up (more (omega arith))

-- a name that ends among the first k bytes ends there for every limit past them
pub name-inside : (k m : ℕ) (s : List ℕ) (i : ℕ) → name_length k s i < k → name_length (k + m) s i ≡ name_length k s i
unfolding name_length pick
name-inside zero m s i h = absurd (omega arith)
name-inside (suc k) m s i h = rw (suc-add k m) (go (eqb (get_or s i 0) 0) h (name-inside k m s (i + 1)))
  where
    go : (b : Bool) → pick b 0 (suc (name_length k s (i + 1))) < suc k → (name_length k s (i + 1) < k → name_length (k + m) s (i + 1) ≡ name_length k s (i + 1)) → pick b 0 (suc (name_length (k + m) s (i + 1))) ≡ pick b 0 (suc (name_length k s (i + 1)))
    go true l more = refl
    go false l more = ap suc (more (omega arith))

-- and one that does not end among them goes on behind them
pub name-past : (k m : ℕ) (s : List ℕ) (i : ℕ) → k ≤ name_length k s i → name_length (k + m) s i ≡ k + name_length m s (i + k)
unfolding name_length pick
name-past zero m s i h = rw (zero-add m, add-zero i) (omega arith)
name-past (suc k) m s i h = rw (suc-add k m) (go (eqb (get_or s i 0) 0) h (name-past k m s (i + 1)))
  where
    go : (b : Bool) → suc k ≤ pick b 0 (suc (name_length k s (i + 1))) → (k ≤ name_length k s (i + 1) → name_length (k + m) s (i + 1) ≡ k + name_length m s (i + 1 + k))
        → pick b 0 (suc (name_length (k + m) s (i + 1))) ≡ suc k + name_length m s (i + suc k)
    go true l more = absurd (omega arith)
    go false l more = let up : i + suc k ≡ i + 1 + k = omega arith in rw up (omega (arith, more (omega arith)))

-- a search that has passed i of n bytes, at its start and a byte on
pub name-start : (n : ℕ) (s : List ℕ) (at : ℕ) → name_length n s at ≡ 0 + name_length (n - 0) s (at + 0)
name-start n s at = let all : n - 0 ≡ n = omega arith in rw (all, add-zero at) (omega arith)

pub name-on : (n i : ℕ) (s : List ℕ) (at : ℕ) → i < n → (get_or s (at + i) 0 ≡ 0 → ⊥) → name_length (n - i) s (at + i) ≡ 1 + name_length (n - (i + 1)) s (at + (i + 1))
name-on n i s at h e =
    let less : n - i - 1 ≡ n - (i + 1) = omega arith in
    let on : at + i + 1 ≡ at + (i + 1) = omega arith in
    omega (arith, rw (less, on) at (name-more (n - i) s (at + i) (omega arith) e))

-- and over k bytes at once
pub name-block : (k n i : ℕ) (s : List ℕ) (at : ℕ) → k ≤ n - i → name_length k s (at + i) < k → name_length (n - i) s (at + i) ≡ name_length k s (at + i)
name-block k n i s at h l =
    let split : n - i ≡ k + (n - (i + k)) = omega arith in
    rw split (name-inside k (n - (i + k)) s (at + i) l)

pub name-blocks : (k n i : ℕ) (s : List ℕ) (at : ℕ) → k ≤ n - i → k ≤ name_length k s (at + i) → name_length (n - i) s (at + i) ≡ k + name_length (n - (i + k)) s (at + (i + k))
name-blocks k n i s at h l =
    let split : n - i ≡ k + (n - (i + k)) = omega arith in
    rw (split, ← add_assoc at i k) (name-past k (n - (i + k)) s (at + i) l)
