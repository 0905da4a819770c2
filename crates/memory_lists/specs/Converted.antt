-- What a conversion answers, and what it leaves of what it was lent.
use Rattle.std.specs.Prelude.{ℕ, ◌+◌, ◌*◌, Bool, true, false, List, [], ◌∷◌, eqb, ltb, Result, Ok, Err, ⊤, ℤ, pos, negsuc, length}
use Rattle.std.proofs.lemmas.List.Edits.{sets}
use Rattle.words.specs.Pick.{pick}
use Rattle.words.specs.First.{first_of}
use Rattle.buffer.specs.Put.{bytes32, put}
use Rattle.memory_lists.specs.Lists.{list_count, wrong_size}
use Rattle.memory_lists.specs.declared.Refusal.{Refusal}
use Rattle.memory_lists.specs.declared.Refusal.TheVariants.{ZeroSize, WrongSize, TooMany, ReservedNotZero, EmptySet, OutOfRange, NoRoom}

-- an answer, the buffer as it is left, and how many of its bytes were written
pub record Converted : Type 0 where
  pub answer : Result ⊤ Refusal
  pub out : List ℕ
  pub written : ℕ

abbrev pub converted : Result ⊤ Refusal → List ℕ → ℕ → Converted
converted answer out written = record { answer = answer; out = out; written = written }

abbrev pub is_done : Result ⊤ Refusal → Bool
is_done (Ok u) = true
is_done (Err e) = false

-- the new list and its length, where nothing is refused; a refusal leaves the buffer and the length as they were
unfoldable pub conversion : Result ⊤ Refusal → List ℕ → List ℕ → ℕ → Converted
conversion answer list out written = pick (is_done answer) (converted (Ok tt) (sets out 0 list) (length list)) (converted answer out written)

-- what a length or a refusal comes to, beside the buffer: the length is written after a success alone
abbrev pub answered : Result ℕ Refusal → List ℕ → ℕ → Converted
answered (Ok n) out written = converted (Ok tt) out n
answered (Err e) out written = converted (Err e) out written

-- the refusals that both conversions begin with, else how many entries the list has
unfoldable pub counted : ℕ → List ℕ → Result ℕ Refusal
counted size s = first_of ((eqb size 0, Err ZeroSize) ∷ (wrong_size s, Err WrongSize) ∷ []) (Ok (list_count s))

-- a list of n entries begun in a buffer, and how many bytes it has; where there is no room for all of it, nothing is written
unfoldable pub begun : ℕ → List ℕ → Result ℕ Refusal × List ℕ
begun n out = pick (ltb (length out) (4 + 24 * n)) (Err NoRoom, out) (Ok (4 + 24 * n), put out 0 (bytes32 n))

-- document 02's refusals, numbered in its order
abbrev pub refusal_number : Refusal → ℤ
refusal_number ZeroSize = negsuc 40
refusal_number WrongSize = negsuc 41
refusal_number TooMany = negsuc 42
refusal_number ReservedNotZero = negsuc 43
refusal_number EmptySet = negsuc 44
refusal_number OutOfRange = negsuc 45
refusal_number NoRoom = negsuc 46

abbrev pub converting_number : Result ⊤ Refusal → ℤ
converting_number (Ok u) = pos 0
converting_number (Err e) = refusal_number e
