-- New to old: document 02, Ticket 12.
use Rattle.std.specs.Prelude.{ℕ, ◌+◌, ◌*◌, Bool, true, List, [], ◌∷◌, eqb, ltb, leb, length, map, Result, Ok, Err, ⊤}
use Rattle.words.specs.Pick.{pick, any}
use Rattle.words.specs.First.{first_of}
use Rattle.memory_lists.specs.declared.Block.{Block}
use Rattle.memory_lists.specs.declared.BlockSet.{BlockSet}
use Rattle.memory_lists.specs.declared.Refusal.{Refusal}
use Rattle.memory_lists.specs.declared.Refusal.TheVariants.{ZeroSize, WrongSize, TooMany, EmptySet, OutOfRange, NoRoom}
use Rattle.memory_lists.specs.Blocks.{block_of, expanded}
use Rattle.memory_lists.specs.Lists.{set_at, block_bytes, block_limit, entries_in, wrong_size, list_bytes}
use Rattle.memory_lists.specs.Converted.{Converted, conversion}

-- the sets of a new list
abbrev pub sets_in : List ℕ → List BlockSet
sets_in s = entries_in set_at s

-- the sets of entries, each given by its bytes
abbrev pub sets_of : List (List ℕ) → List BlockSet
sets_of es = map (λ e. set_at e 0) es

-- how many blocks they have: the sum of their lengths
unfoldable pub sum_of : List BlockSet → ℕ
sum_of [] = 0
sum_of (s ∷ ss) = s.count + sum_of ss

-- a set of length zero
abbrev pub is_empty : BlockSet → Bool
is_empty s = eqb s.count 0

-- a block whose address leaves 64 bits, or whose index leaves 32
abbrev pub leaves : Block → Bool
leaves b = pick (leb 18446744073709551616 b.address) true (leb 4294967296 b.index)

-- the block n places after another one
abbrev pub block_after : ℕ → ℕ → Block → Block
block_after size n b = block_of (b.address + n * size) (b.index + n) b.associativity b.flags

-- the old list
abbrev pub block_list : ℕ → List ℕ → List ℕ
block_list size s = list_bytes block_bytes (expanded size (sets_in s))

-- the refusals in their order, with so much room for the old list
unfoldable pub expanding_answer : ℕ → List ℕ → ℕ → Result ⊤ Refusal
expanding_answer size s room =
    first_of
    (
    (eqb size 0, Err ZeroSize)
    ∷ (wrong_size s, Err WrongSize)
    ∷ (ltb block_limit (sum_of (sets_in s)), Err TooMany)
    ∷ (any is_empty (sets_in s), Err EmptySet)
    ∷ (any leaves (expanded size (sets_in s)), Err OutOfRange)
    ∷ (ltb room (length (block_list size s)), Err NoRoom)
    ∷ [])
    (Ok tt)

abbrev pub to_v1 : ℕ → List ℕ → List ℕ → ℕ → Converted
to_v1 size s out written = conversion (expanding_answer size s (length out)) (block_list size s) out written
