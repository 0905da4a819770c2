-- The four array properties of a partition's connectors, written into four buffers.
use Rattle.std.specs.Prelude.{ℕ, Bool, List, [], ◌∷◌, leb, ℤ, pos, negsuc, length, Result, Ok, Err}
use Rattle.std.proofs.lemmas.List.Edits.{sets}
use Rattle.words.specs.Pick.{pick, every}
use Rattle.connector.specs.declared.Connector.{Connector}
use Rattle.table.specs.Model.{Model}
use Rattle.property_entries.specs.declared.ArrayProperty.TheVariants.{Names, Indexes, Domains, Types}
use Rattle.property_sizes.specs.Arrays.{listed, array}
use Rattle.property_writer.specs.declared.NoRoom.{NoRoom}

-- what a caller lends: a buffer for each array, and four words for their lengths
pub record Buffers : Type 0 where
  pub names : List ℕ
  pub indexes : List ℕ
  pub domains : List ℕ
  pub types : List ℕ
  pub lengths : List ℕ

abbrev pub buffers : List ℕ → List ℕ → List ℕ → List ℕ → List ℕ → Buffers
buffers names indexes domains types lengths = record { names = names; indexes = indexes; domains = domains; types = types; lengths = lengths }

-- every buffer is long enough for its array
abbrev pub room_for_all : List Connector → Buffers → Bool
room_for_all cs b =
    every (
    leb (length (array Names cs)) (length b.names)
    ∷ leb (length (array Indexes cs)) (length b.indexes)
    ∷ leb (length (array Domains cs)) (length b.domains)
    ∷ leb (length (array Types cs)) (length b.types)
    ∷ [])

-- each array from the start of its buffer on, and the four lengths
abbrev pub with_arrays : List Connector → Buffers → Buffers
with_arrays cs b =
    record {
      names = sets b.names 0 (array Names cs);
      indexes = sets b.indexes 0 (array Indexes cs);
      domains = sets b.domains 0 (array Domains cs);
      types = sets b.types 0 (array Types cs);
      lengths = length (array Names cs) ∷ length (array Indexes cs) ∷ length (array Domains cs) ∷ length (array Types cs) ∷ [];
    }

-- the only refusal
abbrev pub no_room : NoRoom
no_room = record {}

-- an answer, and the buffers as they are left
pub record WriterLeft : Type 0 where
  pub answer : Result Unit NoRoom
  pub left : Buffers

abbrev pub writer_left : Result Unit NoRoom → Buffers → WriterLeft
writer_left answer left = record { answer = answer; left = left }

-- the arrays of these connectors, or nothing
unfoldable pub write_arrays : List Connector → Buffers → WriterLeft
write_arrays cs b = pick (room_for_all cs b) (writer_left (Ok tt) (with_arrays cs b)) (writer_left (Err no_room) b)

-- the arrays of a partition's connectors
abbrev pub write_properties : Model → ℕ → Buffers → WriterLeft
write_properties m partition b = write_arrays (listed partition m) b

-- document 02's number for each answer
abbrev pub writing_number : Result Unit NoRoom → ℤ
writing_number (Ok _) = pos 0
writing_number (Err _) = negsuc 31
