-- Memory blocks and sets of them: documents 001 and 02, Ticket 12.
use Rattle.std.specs.Prelude.{ℕ, zero, suc, ◌+◌, Bool, eqb}
use mathlib.Core.List.{List, [], ◌∷◌, flat_map}
use Rattle.words.specs.Pick.{pick, every}
use Rattle.memory_lists.specs.declared.Block.{Block}
use Rattle.memory_lists.specs.declared.BlockSet.{BlockSet}

abbrev pub block_of : ℕ → ℕ → ℕ → ℕ → Block
block_of address index associativity flags = record { address = address; index = index; associativity = associativity; flags = flags }

-- so many blocks, each the next one after the one before
abbrev pub block_set : ℕ → Block → BlockSet
block_set count first = record { count = count; first = first }

-- address up by the block size, index up by one, same associativity index and flags
abbrev pub next_block : ℕ → Block → Block
next_block size b = block_of (b.address + size) (b.index + 1) b.associativity b.flags

-- whether b is the next block after a. A sum that leaves its width is the address or the index of no block in a list
unfoldable pub neighbours : ℕ → Block → Block → Bool
neighbours size a b =
    every (eqb b.address (a.address + size) ∷ eqb b.index (a.index + 1) ∷ eqb b.associativity a.associativity ∷ eqb b.flags a.flags ∷ [])

-- a block before sets: it joins the first set where that one's first block is its neighbour, else it is a set of its own
unfoldable pub with_block : ℕ → Block → List BlockSet → List BlockSet
with_block size b [] = block_set 1 b ∷ []
with_block size b (s ∷ ss) = pick (neighbours size b s.first) (block_set (suc s.count) b ∷ ss) (block_set 1 b ∷ s ∷ ss)

-- old to new
unfoldable pub grouped : ℕ → List Block → List BlockSet
grouped size [] = []
grouped size (b ∷ bs) = with_block size b (grouped size bs)

-- n blocks, from one on
unfoldable pub blocks_from : ℕ → ℕ → Block → List Block
blocks_from size zero b = []
blocks_from size (suc n) b = b ∷ blocks_from size n (next_block size b)

-- new to old
unfoldable pub expanded : ℕ → List BlockSet → List Block
expanded size ss = flat_map (λ (s : BlockSet). blocks_from size s.count s.first) ss
