-- The array properties of a partition's connectors, written and read back.
use Rattle.std.specs.Prelude.{ℕ, ◌*◌, ◌≤◌, ◌≡◌, true, length, get_or, take, Ok}
use mathlib.Core.List.{List, ◌++◌, flat_map}
use Rattle.std.proofs.lemmas.List.Edits.{sets}
use Rattle.buffer.specs.Put.{bytes32}
use Rattle.connector.specs.declared.Connector.{Connector}
use Rattle.table.specs.Model.{table_of}
use Rattle.property_entries.specs.Entries.{domain}
use Rattle.property_sizes.specs.Arrays.{listed}
use Rattle.property_writer.specs.Writer.{Buffers, room_for_all, write_properties}
use Rattle.property_reader.specs.Reader.{Arrays, arrays, list_left, read_properties}

-- the arrays in the buffers: of each as many bytes as its length says
abbrev pub arrays_in : Buffers → Arrays
arrays_in b =
    arrays
    (take (get_or b.lengths 0 0) b.names)
    (take (get_or b.lengths 1 0) b.indexes)
    (take (get_or b.lengths 2 0) b.domains)
    (take (get_or b.lengths 3 0) b.types)

-- each connector with its index, its kind and the domain FFFFFFFF, in order
unfoldable pub connector_list : List Connector → List ℕ
connector_list cs = flat_map (λ (c : Connector). bytes32 c.index.0 ++ bytes32 c.kind ++ bytes32 domain) cs

-- with room enough the writer writes, the reader takes what it wrote, and the list is of the connectors that the writer lists and of nothing else
pub record RoundTrip (t : List ℕ) (partition : ℕ) (b : Buffers) (out : List ℕ) : Type 0 where
  pub writes : (write_properties (table_of t) partition b).answer ≡ Ok tt
  pub reads : read_properties (arrays_in (write_properties (table_of t) partition b).left) out ≡ list_left (Ok (12 * length (listed partition (table_of t)))) (sets out 0 (connector_list (listed partition (table_of t))))

-- any words of a table, any partition, any buffers with room
abbrev pub EveryTrip : Type 0
EveryTrip = (t : List ℕ) (partition : ℕ) (b : Buffers) (out : List ℕ) → room_for_all (listed partition (table_of t)) b ≡ true → 12 * length (listed partition (table_of t)) ≤ length out → RoundTrip t partition b out
