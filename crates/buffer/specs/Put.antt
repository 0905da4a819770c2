-- Bytes written into a buffer.
use Rattle.std.specs.Prelude.{ℕ, ◌-◌, ◌/◌, ◌%◌, List, [], ◌∷◌, length, leb}
use Rattle.std.proofs.lemmas.List.Edits.{sets}
use Rattle.words.specs.Pick.{pick}

-- the four bytes of a big-endian word
abbrev pub bytes32 : ℕ → List ℕ
bytes32 x = x / 16777216 ∷ x / 65536 % 256 ∷ x / 256 % 256 ∷ x % 256 ∷ []

-- the buffer with the bytes bs from `at` on, unchanged where they do not fit
unfoldable pub put : List ℕ → ℕ → List ℕ → List ℕ
put d at bs = pick (leb (length bs) (length d - at)) (sets d at bs) d
