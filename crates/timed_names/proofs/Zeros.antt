-- One step of a search for a byte that is not zero.
use Rattle.std.proofs.Common.{◌≡◌, ℕ, zero, suc, ◌+◌, ◌-◌, ◌<◌, ◌≤◌, true, false, List, get_or, refl, sub-one, arith, eq-eqb, ne_eqb}
use Rattle.words.specs.Pick.{pick}
use Rattle.words.specs.Bytes.{zero_at}

pub zero-none : (k : ℕ) (s : List ℕ) (i : ℕ) → k ≤ 0 → zero_at k s i ≡ true
unfolding zero_at
zero-none zero s i h = refl
zero-none (suc k) s i h = absurd (omega arith)

pub zero-not : (k : ℕ) (s : List ℕ) (i : ℕ) → 0 < k → (get_or s i 0 ≡ 0 → ⊥) → zero_at k s i ≡ false
unfolding zero_at pick
zero-not zero s i h e = absurd (omega arith)
zero-not (suc k) s i h e = simp (ne_eqb _ _ e)

pub zero_more : (k : ℕ) (s : List ℕ) (i : ℕ) → 0 < k → get_or s i 0 ≡ 0 → zero_at k s i ≡ zero_at (k - 1) s (i + 1)
unfolding zero_at pick
zero_more zero s i h e = absurd (omega arith)
zero_more (suc k) s i h e = simp (eq-eqb _ _ e, sub-one)
