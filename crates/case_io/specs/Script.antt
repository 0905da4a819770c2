-- The fields of a script's line, and the numbers and bytes that they spell.
use Rattle.std.specs.Prelude.{ℕ, ◌+◌, ◌-◌, ◌*◌, ◌%◌, ◌==◌, cond, nat_lt, List, [], ◌∷◌, slice_get, slice_index, fold, unwrap_or}
use Rattle.std.specs.List.{slice_split}

-- field k of a line, with a space between fields; none where there are fewer
abbrev pub field_of : ℕ → List ℕ → List ℕ
field_of k line = unwrap_or (slice_get (slice_split (λ b. b == 32) line) k) []

-- the value of a digit 0 to 9 or a to f, 0 where the byte is none
unfoldable pub digit_of : ℕ → ℕ
digit_of b = cond (nat_lt b 48) 0 (cond (nat_lt b 58) (b - 48) (cond (nat_lt b 97) 0 (cond (nat_lt b 103) (b - 87) 0)))

-- what digits in a base spell, with all above `kept` let go before each digit
abbrev pub digits_of : ℕ → ℕ → List ℕ → ℕ
digits_of kept base f = fold (λ v b. v % kept * base + digit_of b) 0 f

-- the number that a field spells, in the base sixteen after an `x`, and 0 where it is empty
unfoldable pub number_of : ℕ → List ℕ → ℕ
number_of kept [] = 0
number_of kept (b ∷ f) = cond (b == 120) (digits_of kept 16 f) (digits_of kept 10 (b ∷ f))

-- byte i of those that a text spells, two digits each
abbrev pub byte_at : List ℕ → ℕ → ℕ
byte_at f i = digit_of (slice_index f (2 * i)) * 16 + digit_of (slice_index f (2 * i + 1))
