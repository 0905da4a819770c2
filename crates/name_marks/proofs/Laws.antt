-- The mark goes by the bytes of the name alone, its NUL among them.
use mathlib.Core.Path.{◌≡◌, refl, sym, ◌∙◌, ap}
use mathlib.Core.List.{List}
use mathlib.Core.Bool.{Bool, true, false}
use Prim.Native.Nat.{ℕ, suc, ◌+◌, ◌-◌, ◌/◌, ◌<◌, ◌≤◌}
use native.Mathlib.Omega.{arith}
use native.Mathlib.Nat.{zero-add, add-zero, add_assoc}
use lib.ListN.{length, get_or, take, drop, length-take, length-drop}
use Rattle.std.proofs.lemmas.List.{get_or-take, get_or-drop}
use lib.Dec.{leb, ltb}
use borrow.Author.Tests.{lt-leb, leb-true}
use Rattle.words.specs.Pick.{pick}
use Rattle.words.specs.Bytes.{eight_at, eight_here}
use Rattle.words.proofs.Bytes.{eight_is}
use Rattle.name_marks.specs.Marks.{eights, long_mark, short_mark, name_mark}

-- at places of two blocks stand the same bytes, and as many as `n` follow
abbrev Likewise : List ℕ → List ℕ → ℕ → ℕ → ℕ → Type 0
Likewise b d x y n = (i : ℕ) → i ≤ n → get_or b (x + i) 0 ≡ get_or d (y + i) 0

module _ (b d : List ℕ) (x y n : ℕ) (alike : Likewise b d x y n) (here : x + n < length b) (there : y + n < length d) where
  one : (k j : ℕ) → k + j ≤ n → get_or b (x + k + j) 0 ≡ get_or d (y + k + j) 0
  one k j h = rw (add_assoc x k j, add_assoc y k j) (alike (k + j) h)

  -- eight bytes of which the last is at most the NUL
  eight : (k : ℕ) → k + 7 ≤ n → eight_at b (x + k) ≡ eight_at d (y + k)
  eight k h =
      let o : (j : ℕ) → j ≤ 7 → get_or b (x + k + j) 0 ≡ get_or d (y + k + j) 0 = λ j i. one k j (omega arith) in
      let same : eight_here b (x + k) ≡ eight_here d (y + k) = rw (alike k (omega arith), o 1 (omega arith), o 2 (omega arith), o 3 (omega arith), o 4 (omega arith), o 5 (omega arith), o 6 (omega arith), o 7 (omega arith)) in
      eight_is b (x + k) (omega arith) ∙ same ∙ sym (eight_is d (y + k) (omega arith))

  long_same : 7 ≤ n → long_mark b x n ≡ long_mark d y n
  unfolding long_mark eights
  long_same h =
      let first : eight_at b x ≡ eight_at d y = rw (add-zero x, add-zero y) at (eight 0 (omega arith)) in
      rw (first, eight (n - 7) (omega arith), eight ((n - 7) / 2) (omega arith))

  short-same : short_mark b x n ≡ short_mark d y n
  unfolding short_mark
  short-same =
      let first : get_or b x 0 ≡ get_or d y 0 = rw (add-zero x, add-zero y) at (alike 0 (omega arith)) in
      rw (first, alike (n - 1) (omega arith), alike (n / 2) (omega arith))

-- at two places of a block
abbrev pub Alike : List ℕ → ℕ → ℕ → ℕ → Type 0
Alike b x y n = Likewise b b x y n

module _ (b : List ℕ) (x y n : ℕ) (alike : Alike b x y n) (here : x + n < length b) (there : y + n < length b) where
  by_length : (e : Bool) → leb 7 n ≡ e → pick (leb 7 n) (long_mark b x n) (pick (ltb n 1) 0 (short_mark b x n)) ≡ pick (leb 7 n) (long_mark b y n) (pick (ltb n 1) 0 (short_mark b y n))
  unfolding pick
  by_length true e = rw e (long_same b b x y n alike here there (leb-true 7 n e))
  by_length false e = rw (e, short-same b b x y n alike here there)

  pub mark-same : name_mark b x n ≡ name_mark b y n
  unfolding name_mark pick
  mark-same = simp (lt-leb (length b - x) n (omega arith), lt-leb (length b - y) n (omega arith)) (ap (pick (ltb 47 n) 0) (by_length (leb 7 n) refl))

-- a name with its NUL by itself has the mark that it has in the block
module _ (b s : List ℕ) (x n : ℕ) (e : s ≡ take (suc n) (drop x b)) (h : x + n < length b) where
  size : length s ≡ suc n
  size = rw e (simp (length-take, length-drop) (omega arith))

  like : Likewise s b 0 x n
  like i l =
      let inside : 0 + i < suc n = omega arith in
      rw (e, get_or-take (suc n) (drop x b) (0 + i) 0 inside, get_or-drop x b (0 + i) 0, zero-add i)

  alone : length s - 1 ≡ n
  alone = omega (arith, size)

  pub long-alone : 7 ≤ n → long_mark s 0 (length s - 1) ≡ long_mark b x n
  long-alone l = rw alone (long_same s b 0 x n like (omega (arith, size)) h l)

  pub short-alone : short_mark s 0 (length s - 1) ≡ short_mark b x n
  short-alone = rw alone (short-same s b 0 x n like (omega (arith, size)) h)
