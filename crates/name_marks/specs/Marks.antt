-- The mark of a name: a number by its bytes. Names of one mark may differ; names of two marks do.
use Rattle.std.specs.Prelude.{ℕ, ◌+◌, ◌-◌, ◌*◌, ◌/◌, ◌%◌, List, length, get_or, leb, ltb}
use Rattle.words.specs.Pick.{pick}
use Rattle.words.specs.Bytes.{eight_at}

-- a number below 4,194,304 by two numbers
unfoldable pub spread_of : ℕ → ℕ → ℕ
spread_of low high = (low * 668265263 + high * 374761393) / 2097152 % 4194304

-- three times eight bytes of the n + 1 from `x` on: the first, the last and those in the middle
unfoldable pub eights : List ℕ → ℕ → ℕ → ℕ
eights b x n = eight_at b x / 2 + eight_at b (x + (n - 7)) / 4 + eight_at b (x + (n - 7) / 2) / 8

-- of a name of seven bytes or more, and of a shorter one
unfoldable pub long_mark : List ℕ → ℕ → ℕ → ℕ
long_mark b x n = spread_of (eights b x n % 4294967296) (eights b x n / 4294967296 + n)

unfoldable pub short_mark : List ℕ → ℕ → ℕ → ℕ
short_mark b x n = spread_of (get_or b x 0 + 256 * get_or b (x + (n - 1)) 0) (get_or b (x + n / 2) 0 + 256 * n)

-- the mark of the name of `n` bytes at `x`; 0 where its NUL is not in the block, it is longer than 47 bytes, or it has none
unfoldable pub name_mark : List ℕ → ℕ → ℕ → ℕ
name_mark b x n =
    pick (leb (length b - x) n) 0
    (pick (ltb 47 n) 0
    (pick (leb 7 n) (long_mark b x n)
    (pick (ltb n 1) 0 (short_mark b x n))))
