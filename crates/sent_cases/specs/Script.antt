-- The bytes that a script spells, put into a block one after the other.
use Rattle.std.specs.Prelude.{ℕ, zero, suc, ◌+◌, ◌-◌, ◌*◌, List, [], ◌∷◌, drop, length, replicate, set, take, eqb, ltb}
use Rattle.words.specs.Pick.{pick}
use Rattle.words.specs.Bytes.{word_at}
use Rattle.case_io.specs.Script.{digit_of}

-- the n bytes from `at` on, none where there are fewer
unfoldable pub part_of : List ℕ → ℕ → ℕ → List ℕ
part_of s at n = pick (ltb (length s) at) [] (pick (ltb (length s - at) n) [] (take n (drop at s)))

-- a block, and the place past the bytes that were put there
pub record Reading : Type 0 where
  pub block : List ℕ
  pub past : ℕ

abbrev pub reading : List ℕ → ℕ → Reading
reading b p = record { block = b; past = p }

-- a byte more, where there is room
unfoldable pub put_byte : ℕ → Reading → Reading
put_byte x r = pick (ltb r.past (length r.block)) (reading (set r.block r.past x) (r.past + 1)) r

-- n bytes x more
unfoldable pub put_run : ℕ → ℕ → Reading → Reading
put_run zero x r = r
put_run (suc n) x r = put_run n x (put_byte x r)

-- the bytes of a text: two digits each, with spaces between them; a single one at the end is none
unfoldable pub put_text : List ℕ → Reading → Reading
put_text [] r = r
put_text (a ∷ []) r = r
put_text (a ∷ b ∷ s) r = pick (eqb a 32) (put_text (b ∷ s) r) (put_text s (put_byte (digit_of a * 16 + digit_of b) r))

-- the word at one of the first 16 bytes that a text spells; what it does not spell is 0
unfoldable pub number_at : List ℕ → ℕ → ℕ
number_at s at = word_at (put_text s (reading (replicate 16 0) 0)).block at
