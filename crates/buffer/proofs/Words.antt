-- Words and the bytes that they are, and blocks four bytes at a time.
use mathlib.Core.Path.{◌≡◌, ap, ◌∙◌}
use mathlib.Core.Bool.{true}
use mathlib.Core.List.{List, [], ◌∷◌, ◌++◌, append-nil}
use Prim.Native.Nat.{ℕ, suc, ◌+◌, ◌-◌, ◌*◌, ◌/◌, ◌%◌, ◌<◌, ◌≤◌}
use native.Mathlib.Omega.{arith}
use native.Mathlib.Nat.{zero-add}
use lib.Dec.{eqb, ltb}
use lib.ListN.{length, get_or, drop}
use lib.Seq.{sets-eq, drop-length, take-length}
use borrow.Author.Tests.{eqb-true, le-ltb}
use Rattle.words.specs.Bytes.{part, word_here, word_at, zero_at}
use Rattle.words.proofs.Pick.{pick_no, pick-and}
use Rattle.buffer.specs.Put.{bytes32, put}
use Rattle.buffer.proofs.Put.{part-cons, put_in}

-- a word from its bytes, of any size
pub bytes_word : (x : ℕ) → x / 16777216 * 16777216 + x / 65536 % 256 * 65536 + x / 256 % 256 * 256 + x % 256 ≡ x
bytes_word x = omega arith

-- the bytes of a word that was read, where they are bytes
pub word_bytes : (s : List ℕ) (at : ℕ) → ((i : ℕ) → get_or s i 0 < 256) → 4 ≤ length s - at → bytes32 (word_at s at) ≡ get_or s at 0 ∷ get_or s (at + 1) 0 ∷ get_or s (at + 2) 0 ∷ get_or s (at + 3) 0 ∷ []
unfolding word_at
word_bytes s at b l =
    let w = b at in
    let x = b (at + 1) in
    let y = b (at + 2) in
    let z = b (at + 3) in
    let first : word_here s at / 16777216 ≡ get_or s at 0 = omega arith in
    let second : word_here s at / 65536 % 256 ≡ get_or s (at + 1) 0 = omega arith in
    let third : word_here s at / 256 % 256 ≡ get_or s (at + 2) 0 = omega arith in
    let fourth : word_here s at % 256 ≡ get_or s (at + 3) 0 = omega arith in
    rw (pick_no (ltb (length s - at) 4) 0 (word_here s at) (le-ltb (length s - at) 4 l), first, second, third, fourth)

-- the two bytes of a number
pub two_bytes : (a b n : ℕ) → b < 256 → a * 256 + b ≡ n → (a ≡ n / 256) × (b ≡ n % 256)
two_bytes a b n l e = (omega arith, omega arith)

-- the first of a run of zeros, and the rest
pub zero-byte : (s : List ℕ) (n at : ℕ) → zero_at (suc n) s at ≡ true → (get_or s at 0 ≡ 0) × (zero_at n s (at + 1) ≡ true)
unfolding zero_at
zero-byte s n at e = let t = pick-and (eqb (get_or s at 0) 0) (zero_at n s (at + 1)) e in (eqb-true (get_or s at 0) 0 t.0, t.1)

-- a block is a part of itself
pub part-all : (s : List ℕ) → part s 0 (length s) ≡ s
unfolding part
part-all s = take-length s

-- the first four bytes of a part, and the rest
pub part-four : (s : List ℕ) (at n : ℕ) → 4 ≤ n → n ≤ length s - at → part s at n ≡ get_or s at 0 ∷ get_or s (at + 1) 0 ∷ get_or s (at + 2) 0 ∷ get_or s (at + 3) 0 ∷ part s (at + 4) (n - 4)
part-four s at n h l =
    let two : at + 1 + 1 ≡ at + 2 = omega arith in
    let three : at + 2 + 1 ≡ at + 3 = omega arith in
    let four : at + 3 + 1 ≡ at + 4 = omega arith in
    let less : n - 1 - 1 - 1 - 1 ≡ n - 4 = omega arith in
    rw (part-cons s at n (omega arith) (omega arith), part-cons s (at + 1) (n - 1) (omega arith) (omega arith), two)
    (rw (part-cons s (at + 2) (n - 1 - 1) (omega arith) (omega arith), three, part-cons s (at + 3) (n - 1 - 1 - 1) (omega arith) (omega arith), four, less))

-- a buffer that is written over whole is what was written
pub put_whole : (d bs : List ℕ) → length d ≡ length bs → put d 0 bs ≡ bs
put_whole d bs e =
    let none : bs ++ drop (length bs) d ≡ bs ++ [] = ap (λ (l : List ℕ). bs ++ l) (rw (← e) (drop-length d)) in
    put_in d 0 bs (omega arith) ∙ sets-eq bs d 0 (omega arith) ∙ rw zero-add (none ∙ append-nil bs)
