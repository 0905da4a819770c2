-- Words, names and runs of zeros in a block of bytes.
use Rattle.std.specs.Prelude.{ℕ, zero, suc, ◌+◌, ◌-◌, ◌*◌, Bool, true, false, List, length, take, drop, ◌==◌, nat_lt, slice_index}
use Rattle.words.specs.Pick.{pick}

-- the n bytes from `at` on
unfoldable pub part : List ℕ → ℕ → ℕ → List ℕ
part s at n = take n (drop at s)

-- the big-endian number of the four bytes from `at` on
abbrev pub word_here : List ℕ → ℕ → ℕ
word_here s at = slice_index s at * 16777216 + slice_index s (at + 1) * 65536 + slice_index s (at + 2) * 256 + slice_index s (at + 3)

-- the big-endian word at `at`; 0 where the block has no four bytes there
unfoldable pub word_at : List ℕ → ℕ → ℕ
word_at s at = pick (nat_lt (length s - at) 4) 0 (word_here s at)

-- the number of the eight bytes from `at` on, the first lowest
abbrev pub eight_here : List ℕ → ℕ → ℕ
eight_here s at =
    slice_index s at + slice_index s (at + 1) * 256 + slice_index s (at + 2) * 65536 + slice_index s (at + 3) * 16777216
    + slice_index s (at + 4) * 4294967296 + slice_index s (at + 5) * 1099511627776 + slice_index s (at + 6) * 281474976710656 + slice_index s (at + 7) * 72057594037927936

-- the same; 0 where the block has no eight bytes there
unfoldable pub eight_at : List ℕ → ℕ → ℕ
eight_at s at = pick (nat_lt (length s - at) 8) 0 (eight_here s at)

-- the length of the name at `at`: how many bytes stand before the first NUL, at most `limit`; past the block's end every byte counts as a NUL
unfoldable pub name_length : ℕ → List ℕ → ℕ → ℕ
name_length zero s at = 0
name_length (suc limit) s at = pick (slice_index s at == 0) 0 (suc (name_length limit s (at + 1)))

-- whether the n bytes from `at` on are zero; past the block's end every byte is
unfoldable pub zero_at : ℕ → List ℕ → ℕ → Bool
zero_at zero s at = true
zero_at (suc n) s at = pick (slice_index s at == 0) (zero_at n s (at + 1)) false
