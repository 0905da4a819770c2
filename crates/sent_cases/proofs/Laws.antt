-- Laws of a script's bytes.
use mathlib.Core.Path.{◌≡◌, refl, sym, ap, ◌∙◌}
use mathlib.Core.List.{List, [], ◌∷◌}
use Prim.Native.Nat.{ℕ, zero, suc, ◌+◌, ◌-◌, ◌*◌, ◌<◌, ◌≤◌}
use native.Mathlib.Omega.{arith}
use native.Mathlib.Numerals.{add-one}
use Rattle.std.proofs.Common.{zero-add, suc-add}
use lib.ListN.{length, get_or, set, take, drop, replicate}
use borrow.Author.Tests.{eq-eqb, ne_eqb, lt-ltb, le-ltb}
use Rattle.std.proofs.lemmas.List.{take_all}
use Rattle.words.specs.Pick.{pick}
use Rattle.words.specs.Bytes.{word_at}
use Rattle.case_io.specs.Script.{digit_of}
use Rattle.sent_cases.specs.Script.{Reading, reading, put_byte, put_run, put_text, number_at, part_of}

pub byte-in : (b : List ℕ) (at x : ℕ) → at < length b → reading (set b at x) (at + 1) ≡ put_byte x (reading b at)
unfolding put_byte pick
byte-in b at x h = simp (lt-ltb at (length b) h)

pub byte-out : (b : List ℕ) (at x : ℕ) → length b ≤ at → reading b at ≡ put_byte x (reading b at)
unfolding put_byte pick
byte-out b at x h = simp (le-ltb at (length b) h)

-- one byte more is put after the others
run_suc : (n x : ℕ) (r : Reading) → put_run (suc n) x r ≡ put_byte x (put_run n x r)
unfolding put_run
run_suc zero x r = refl
run_suc (suc n) x r = run_suc n x (put_byte x r)

pub run_more : (n x : ℕ) (r : Reading) → put_run (n + 1) x r ≡ put_byte x (put_run n x r)
run_more n x r = rw add-one (run_suc n x r)

-- a block that is full stays
run_full : (n x : ℕ) (b : List ℕ) (at : ℕ) → length b ≤ at → put_run n x (reading b at) ≡ reading b at
unfolding put_run
run_full zero x b at h = refl
run_full (suc n) x b at h = rw (← byte-out b at x h) (run_full n x b at h)

run_add : (k m x : ℕ) (r : Reading) → put_run (k + m) x r ≡ put_run m x (put_run k x r)
unfolding put_run
run_add zero m x r = rw (zero-add m) refl
run_add (suc k) m x r = rw (suc-add k m) (run_add k m x (put_byte x r))

-- where it is full before all n are put, they are as good as put
pub run-stop : (n k x : ℕ) (r : Reading) (b : List ℕ) (at : ℕ) → k ≤ n → length b ≤ at → reading b at ≡ put_run k x r → reading b at ≡ put_run n x r
run-stop n k x r b at l h e = sym (run_full (n - k) x b at h) ∙ ap (put_run (n - k) x) e ∙ sym (run_add k (n - k) x r) ∙ ap (λ (m : ℕ). put_run m x r) (omega arith)

-- a space, or two digits, come off the front of a text
pub text-space : (s : List ℕ) (n : ℕ) (r : Reading) → 2 ≤ length s → length s ≤ n → get_or s 0 0 ≡ 32 → put_text (take (n - 1) (drop 1 s)) r ≡ put_text s r
unfolding put_text pick
text-space [] n r h k e = absurd (omega arith)
text-space (a ∷ []) n r h k e = absurd (omega arith)
text-space (a ∷ b ∷ s) n r h k e = simp (take_all (n - 1) (b ∷ s) (omega arith), eq-eqb a 32 e)

pub text-pair : (s : List ℕ) (n : ℕ) (r : Reading) → 2 ≤ length s → length s ≤ n → (get_or s 0 0 ≡ 32 → ⊥) → put_text (take (n - 2) (drop 2 s)) (put_byte (digit_of (get_or s 0 0) * 16 + digit_of (get_or s 1 0)) r) ≡ put_text s r
unfolding put_text pick
text-pair [] n r h k e = absurd (omega arith)
text-pair (a ∷ []) n r h k e = absurd (omega arith)
text-pair (a ∷ b ∷ s) n r h k e = simp (take_all (n - 2) s (omega arith), ne_eqb a 32 e)

pub text-end : (s : List ℕ) (r : Reading) → length s < 2 → r ≡ put_text s r
unfolding put_text
text-end [] r h = refl
text-end (a ∷ []) r h = refl
text-end (a ∷ b ∷ s) r h = absurd (omega arith)

pub number_is : (s b : List ℕ) (n at w : ℕ) → reading b n ≡ put_text s (reading (replicate 16 0) 0) → w ≡ word_at b at → w ≡ number_at s at
unfolding number_at
number_is s b n at w e f = f ∙ ap (λ (r : Reading). word_at r.block at) e

pub part-past : (s : List ℕ) (at n : ℕ) → length s < at → [] ≡ part_of s at n
unfolding part_of pick
part-past s at n h = simp (lt-ltb (length s) at h)

pub part-short : (s : List ℕ) (at n : ℕ) → at ≤ length s → length s - at < n → [] ≡ part_of s at n
unfolding part_of pick
part-short s at n h k = simp (le-ltb (length s) at h, lt-ltb (length s - at) n k)

pub part-whole : (s : List ℕ) (at n m : ℕ) → at ≤ length s → n ≤ length s - at → m ≡ n → take m (drop at s) ≡ part_of s at n
unfolding part_of pick
part-whole s at n m h k e = simp (le-ltb (length s) at h, le-ltb (length s - at) n k, e)
