-- The four array properties of a partition's connectors, as bytes.
use Rattle.std.specs.Prelude.{ℕ, ◌+◌, ◌*◌, ◌≤◌, ◌≡◌, Bool, eqb, length}
use mathlib.Core.List.{List, [], ◌∷◌, ◌++◌, flat_map}
use Rattle.words.specs.Pick.{pick, every}
use Rattle.buffer.specs.Put.{bytes32}
use Rattle.kinds.specs.Kinds.{known}
use Rattle.connector.specs.declared.Connector.{Connector}
use Rattle.table.specs.Layout.{connector_limit}
use Rattle.table.specs.Model.{Model}
use Rattle.property_entries.specs.declared.ArrayProperty.{ArrayProperty}
use Rattle.property_entries.specs.declared.ArrayProperty.TheVariants.{Names, Types}
use Rattle.property_entries.specs.Entries.{entry}
use Rattle.property_sizes.specs.declared.Sizes.{Sizes}

-- those that pass a test, in order
unfoldable pub keep : {A : Type 0} → (A → Bool) → List A → List A
keep p [] = []
keep p (x ∷ xs) = pick (p x) (x ∷ keep p xs) (keep p xs)

-- a partition is told of its own connectors of the known kinds
abbrev pub is_listed : ℕ → Connector → Bool
is_listed partition c = every (eqb c.partition partition ∷ known c.kind ∷ [])

-- these, in the order in which they were added
unfoldable pub listed : ℕ → Model → List Connector
listed partition m = keep (is_listed partition) m.connectors

abbrev pub entry_in : ArrayProperty → Connector → List ℕ
entry_in property c = entry property c.kind c.index.0

-- how many they are, and the entry of each
unfoldable pub array : ArrayProperty → List Connector → List ℕ
array property cs = bytes32 (length cs) ++ flat_map (entry_in property) cs

-- how many connectors there are, and how long the two arrays of strings
pub record Measured (s : Sizes) (cs : List Connector) : Type 0 where
  pub count : s.count ≡ length cs
  pub names : s.names ≡ length (array Names cs)
  pub types : s.types ≡ length (array Types cs)
  pub count_most : s.count ≤ connector_limit
  pub names-most : s.names ≤ 4 + 16 * connector_limit
  pub types-most : s.types ≤ 4 + 16 * connector_limit
