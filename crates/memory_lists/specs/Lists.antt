-- Lists of blocks and of sets as bytes: document 001, `ibm,dynamic-memory` and its v2. Both have a count and entries of 24 bytes.
use Rattle.std.specs.Prelude.{ℕ, zero, suc, ◌+◌, ◌-◌, ◌*◌, ◌/◌, ◌%◌, Bool, true, not, eqb, ltb, length, drop}
use Rattle.std.specs.Simd.{first_chunks}
use mathlib.Core.List.{List, [], ◌∷◌, ◌++◌, flat_map}
use Rattle.words.specs.Pick.{pick}
use Rattle.words.specs.Bytes.{word_at}
use Rattle.buffer.specs.Put.{bytes32}
use Rattle.memory_lists.specs.declared.Block.{Block}
use Rattle.memory_lists.specs.declared.BlockSet.{BlockSet}
use Rattle.memory_lists.specs.Blocks.{block_of, block_set}

-- the big-endian number of the eight bytes from `at` on; 0 where the list has no eight bytes there
unfoldable pub long_at : List ℕ → ℕ → ℕ
long_at s at = pick (ltb (length s - at) 8) 0 (word_at s at * 4294967296 + word_at s (at + 4))

-- the eight bytes of a big-endian number
abbrev pub bytes64 : ℕ → List ℕ
bytes64 x = bytes32 (x / 4294967296) ++ bytes32 (x % 4294967296)

-- an old entry: address, index, four reserved bytes, associativity index, flags
abbrev pub block_at : List ℕ → ℕ → Block
block_at s at = block_of (long_at s at) (word_at s (at + 8)) (word_at s (at + 16)) (word_at s (at + 20))

abbrev pub reserved_at : List ℕ → ℕ → ℕ
reserved_at s at = word_at s (at + 12)

abbrev pub block_bytes : Block → List ℕ
block_bytes b = bytes64 b.address ++ bytes32 b.index ++ bytes32 0 ++ bytes32 b.associativity ++ bytes32 b.flags

-- a new entry: how many blocks, and the first one's address, index, associativity index, flags
abbrev pub set_at : List ℕ → ℕ → BlockSet
set_at s at = block_set (word_at s at) (block_of (long_at s (at + 4)) (word_at s (at + 12)) (word_at s (at + 16)) (word_at s (at + 20)))

abbrev pub set_bytes : BlockSet → List ℕ
set_bytes s = bytes32 s.count ++ bytes64 s.first.address ++ bytes32 s.first.index ++ bytes32 s.first.associativity ++ bytes32 s.first.flags

-- the most blocks of a list that is converted
abbrev pub block_limit : ℕ
block_limit = 1024

-- n entries, from a place on
unfoldable pub entries : {A : Type 0} → (List ℕ → ℕ → A) → ℕ → List ℕ → ℕ → List A
entries read zero s at = []
entries read (suc n) s at = read s at ∷ entries read n s (at + 24)

-- the count with which a list begins, and the entries behind it
abbrev pub list_count : List ℕ → ℕ
list_count s = word_at s 0

abbrev pub entries_in : {A : Type 0} → (List ℕ → ℕ → A) → List ℕ → List A
entries_in read s = entries read (list_count s) s 4

-- their bytes, 24 each
abbrev pub rows : List ℕ → List (List ℕ)
rows s = first_chunks 24 (list_count s) (drop 4 s)

-- a list is under 4 bytes, or not 4 + 24 x count
unfoldable pub wrong_size : List ℕ → Bool
wrong_size s = pick (ltb (length s) 4) true (not (eqb (length s) (4 + 24 * list_count s)))

-- the bytes of a list
unfoldable pub list_bytes : {A : Type 0} → (A → List ℕ) → List A → List ℕ
list_bytes bytes xs = bytes32 (length xs) ++ flat_map bytes xs
