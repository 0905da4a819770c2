-- The changes that a work area reports: document 02, Ticket 7, "Also a reader".
use Rattle.std.specs.Prelude.{ℕ, zero, suc, ◌+◌, ◌-◌, ◌*◌, ◌/◌, ◌%◌, not, eqb, ltb, ℤ, negsuc, length, Result, Ok, Err}
use Rattle.std.specs.Result.{result_and}
use mathlib.Core.List.{List, [], ◌∷◌, ◌++◌, flat_map}
use Rattle.std.proofs.lemmas.List.Edits.{sets}
use Rattle.words.specs.Pick.{pick}
use Rattle.words.specs.First.{first_of}
use Rattle.words.specs.Run.{run_from}
use Rattle.words.specs.Bytes.{word_at}
use Rattle.node_changes.specs.Changes.{Change, change, add, is_kind}
use Rattle.node_changes.specs.Lists.{area_bytes, width, opcode_of, operands_after}
use Rattle.changes_reader.specs.declared.AreaFault.{AreaFault}
use Rattle.changes_reader.specs.declared.AreaFault.TheVariants.{WrongLength, PastArea, UnknownOpcode, OddAdd, NoTerminator, NoRoom}

-- n changes of a kind, from a place on; only an add has an index
unfoldable pub entries_at : ℕ → ℕ → List ℕ → ℕ → List Change
entries_at kind zero area at = []
entries_at kind (suc n) area at = change kind (word_at area at) (pick (eqb kind add) (word_at area (at + 4)) 0) ∷ entries_at kind n area (at + 4 * width kind)

-- the changes of an operator at a place
abbrev pub operator_entries : ℕ → List ℕ → ℕ → List Change
operator_entries w area at = entries_at (opcode_of w) (operands_after w / width (opcode_of w)) area (at + 4)

-- these changes before those of a reading
abbrev pub before : List Change → Result (List Change) AreaFault → Result (List Change) AreaFault
before cs (Ok ds) = Ok (cs ++ ds)
before cs (Err fault) = Err fault

-- what is refused at an operator behind which so many bytes are left: operands past the area, an unknown opcode, an odd add; of an empty one nothing
unfoldable pub operator_fault : ℕ → ℕ → Result Unit AreaFault
operator_fault w left =
    first_of
    (
    (eqb (operands_after w) 0, Ok tt)
    ∷ (ltb left (4 * operands_after w), Err PastArea)
    ∷ (not (is_kind (opcode_of w)), Err UnknownOpcode)
    ∷ (not (eqb (operands_after w % width (opcode_of w)) 0), Err OddAdd)
    ∷ [])
    (Ok tt)

-- the operator w at a place: where no word is left, no terminator came; the zero word is the terminator; another is refused, or its changes come before
-- those of the operators after it
unfoldable pub operator_read : List ℕ → (ℕ → Result (List Change) AreaFault) → ℕ → ℕ → Result (List Change) AreaFault
operator_read area next at w =
    first_of ((ltb (length area - at) 4, Err NoTerminator) ∷ (eqb w 0, Ok []) ∷ [])
    (result_and (operator_fault w (length area - (at + 4))) (before (operator_entries w area at) (next (at + 4 + 4 * operands_after w))))

abbrev pub from_operator : List ℕ → (ℕ → Result (List Change) AreaFault) → ℕ → Result (List Change) AreaFault
from_operator area next at = operator_read area next at (word_at area at)

-- operators in order, from a place on
unfoldable pub read_from : List ℕ → ℕ → Result (List Change) AreaFault
read_from area at = run_from (Err NoTerminator) (λ (at : ℕ). length area - at) (from_operator area) at

-- what operation lists say, after the state variable and twelve bytes: their changes, or the first refusal
abbrev pub read_area : List ℕ → Result (List Change) AreaFault
read_area area = read_from area 16

-- kind, node and index
unfoldable pub change_words : List Change → List ℕ
change_words cs = flat_map (λ (c : Change). c.kind ∷ c.node ∷ c.index ∷ []) cs

-- with so much room for the words of the changes
abbrev pub with_room : ℕ → Result (List Change) AreaFault → Result (List Change) AreaFault
with_room room (Ok cs) = pick (ltb room (length (change_words cs))) (Err NoRoom) (Ok cs)
with_room room (Err fault) = Err fault

unfoldable pub answer_to : List ℕ → ℕ → Result (List Change) AreaFault
answer_to area room = pick (eqb (length area) area_bytes) (with_room room (read_area area)) (Err WrongLength)

-- an answer with how many words were written, and the buffer as it is left
pub record UpdatesRead : Type 0 where
  pub answer : Result ℕ AreaFault
  pub out : List ℕ

abbrev pub updates_read : Result ℕ AreaFault → List ℕ → UpdatesRead
updates_read answer out = record { answer = answer; out = out }

-- the words of the changes, where nothing is refused; a refusal leaves the buffer as it was
abbrev pub words_read : Result (List Change) AreaFault → List ℕ → UpdatesRead
words_read (Ok cs) out = updates_read (Ok (length (change_words cs))) (sets out 0 (change_words cs))
words_read (Err fault) out = updates_read (Err fault) out

unfoldable pub read_updates : List ℕ → List ℕ → UpdatesRead
read_updates area out = words_read (answer_to area (length out)) out

-- document 02's refusals, numbered in its order
abbrev pub area_number : AreaFault → ℤ
area_number WrongLength = negsuc 40
area_number PastArea = negsuc 41
area_number UnknownOpcode = negsuc 42
area_number OddAdd = negsuc 43
area_number NoTerminator = negsuc 44
area_number NoRoom = negsuc 45
