-- Memory lists converted and converted back.
use Rattle.std.specs.Prelude.{ℕ, ◌<◌, ◌≤◌, ◌≡◌, List, ℤ, pos, length, get_or, take, Ok}
use Rattle.std.proofs.lemmas.List.Edits.{sets}
use Rattle.memory_lists.specs.declared.Block.{Block}
use Rattle.memory_lists.specs.declared.BlockSet.{BlockSet}
use Rattle.memory_lists.specs.Blocks.{grouped, expanded}
use Rattle.memory_lists.specs.Converted.{Converted, converted}
use Rattle.memory_grouping.specs.Grouping.{set_list, to_v2}
use Rattle.memory_expanding.specs.Expanding.{sets_in, to_v1}
use Rattle.memory_numbers.specs.Numbers.{ConvertedTo}

-- the list that a conversion wrote
abbrev pub list_by : Converted → List ℕ
list_by c = take c.written c.out

-- old to new to old, with one block size and room enough, returns the same bytes; what is lent is bytes
abbrev pub OldBack : Type 0
OldBack =
    (size : ℕ) (old out : List ℕ) (written : ℕ) → ((i : ℕ) → get_or old i 0 < 256) → (to_v2 size old out written).answer ≡ Ok tt →
    (out' : List ℕ) (written' : ℕ) → length old ≤ length out' → to_v1 size (list_by (to_v2 size old out written)) out' written' ≡ converted (Ok tt) (sets out' 0 old) (length old)

-- grouped blocks expand to what they were, and no shorter list of sets does, whatever its numbers: so no shorter new list does either
pub record Shortest (size : ℕ) (bs : List Block) : Type 0 where
  pub expands : expanded size (grouped size bs) ≡ bs
  pub least : (ss : List BlockSet) → expanded size ss ≡ bs → length (grouped size bs) ≤ length ss

abbrev pub NoShorter : Type 0
NoShorter = (size : ℕ) (bs : List Block) → Shortest size bs

-- an old list, grouped: where there is room it is not refused, it is no longer than the new list that it came from, and has the same blocks
pub record SameBlocks (size : ℕ) (new old : List ℕ) : Type 0 where
  pub answer : (out : List ℕ) (written : ℕ) → length (set_list size old) ≤ length out → to_v2 size old out written ≡ converted (Ok tt) (sets out 0 (set_list size old)) (length (set_list size old))
  pub long : length (set_list size old) ≤ length new
  pub blocks : expanded size (sets_in (set_list size old)) ≡ expanded size (sets_in new)

-- new to old to new
abbrev pub NewBack : Type 0
NewBack = (size : ℕ) (new out : List ℕ) (written : ℕ) → (to_v1 size new out written).answer ≡ Ok tt → SameBlocks size new (list_by (to_v1 size new out written))

-- the same of the calls over plain numbers: what was made new with answer 0 is made old again with answer 0
abbrev pub NumbersBack : Type 0
NumbersBack =
    (size : ℕ) (old out new : List ℕ) (written n : ℕ) → ((i : ℕ) → get_or old i 0 < 256) → ConvertedTo (pos 0) new n (to_v2 size old out written) →
    (out' last : List ℕ) (written' m : ℕ) (r : ℤ) → length old ≤ length out' → ConvertedTo r last m (to_v1 size (take n new) out' written') →
    (r ≡ pos 0) × (last ≡ sets out' 0 old) × (m ≡ length old)
