-- Old to new: document 02, Ticket 12.
use Rattle.std.specs.Prelude.{ℕ, Bool, not, List, [], ◌∷◌, eqb, ltb, length, map, Result, Ok, Err, ⊤}
use Rattle.words.specs.Pick.{any}
use Rattle.words.specs.First.{first_of}
use Rattle.memory_lists.specs.declared.Block.{Block}
use Rattle.memory_lists.specs.declared.Refusal.{Refusal}
use Rattle.memory_lists.specs.declared.Refusal.TheVariants.{ZeroSize, WrongSize, TooMany, ReservedNotZero, NoRoom}
use Rattle.memory_lists.specs.Blocks.{grouped}
use Rattle.memory_lists.specs.Lists.{block_at, reserved_at, set_bytes, block_limit, list_count, entries_in, wrong_size, list_bytes}
use Rattle.memory_lists.specs.Converted.{Converted, conversion}

-- the blocks of an old list
abbrev pub blocks_in : List ℕ → List Block
blocks_in s = entries_in block_at s

-- the blocks of entries, each given by its bytes
abbrev pub blocks_of : List (List ℕ) → List Block
blocks_of es = map (λ e. block_at e 0) es

-- one of its reserved words is not zero
abbrev pub not_zero : ℕ → Bool
not_zero w = not (eqb w 0)

abbrev pub reserved_in : List ℕ → Bool
reserved_in s = any not_zero (entries_in reserved_at s)

-- the new list
abbrev pub set_list : ℕ → List ℕ → List ℕ
set_list size s = list_bytes set_bytes (grouped size (blocks_in s))

-- the refusals in their order, with so much room for the new list
unfoldable pub grouping_answer : ℕ → List ℕ → ℕ → Result ⊤ Refusal
grouping_answer size s room =
    first_of
    (
    (eqb size 0, Err ZeroSize)
    ∷ (wrong_size s, Err WrongSize)
    ∷ (ltb block_limit (list_count s), Err TooMany)
    ∷ (reserved_in s, Err ReservedNotZero)
    ∷ (ltb room (length (set_list size s)), Err NoRoom)
    ∷ [])
    (Ok tt)

abbrev pub to_v2 : ℕ → List ℕ → List ℕ → ℕ → Converted
to_v2 size s out written = conversion (grouping_answer size s (length out)) (set_list size s) out written
