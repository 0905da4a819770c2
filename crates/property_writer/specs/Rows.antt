-- The entries of those among some connectors of which a partition is told.
use Rattle.std.specs.Prelude.{ℕ, ◌≤◌, ◌≡◌, length}
use mathlib.Core.List.{List, flat_map}
use Rattle.std.proofs.lemmas.List.Edits.{sets}
use Rattle.connector.specs.declared.Connector.{Connector}
use Rattle.property_entries.specs.declared.ArrayProperty.{ArrayProperty}
use Rattle.property_entries.specs.declared.ArrayProperty.TheVariants.{Names, Indexes, Domains, Types}
use Rattle.property_sizes.specs.Arrays.{keep, is_listed, entry_in, array}

unfoldable pub entries_of : ArrayProperty → ℕ → List Connector → List ℕ
entries_of property partition cs = flat_map (entry_in property) (keep (is_listed partition) cs)

-- each buffer has room for its array of these connectors
pub record RoomForAll (cs : List Connector) (names indexes domains types : List ℕ) : Type 0 where
  pub names-fit : length (array Names cs) ≤ length names
  pub indexes-fit : length (array Indexes cs) ≤ length indexes
  pub domains-fit : length (array Domains cs) ≤ length domains
  pub types-fit : length (array Types cs) ≤ length types

-- each buffer has its array from the start on, and else what it had
pub record AllWritten (cs : List Connector) (names indexes domains types names' indexes' domains' types' : List ℕ) : Type 0 where
  pub names-are : names' ≡ sets names 0 (array Names cs)
  pub indexes-are : indexes' ≡ sets indexes 0 (array Indexes cs)
  pub domains-are : domains' ≡ sets domains 0 (array Domains cs)
  pub types_are : types' ≡ sets types 0 (array Types cs)
