-- Sizes that grow by the entries of more connectors.
use Rattle.std.specs.Prelude.{◌+◌, ◌≤◌, ◌≡◌, length}
use mathlib.Core.List.{List, flat_map}
use Rattle.connector.specs.declared.Connector.{Connector}
use Rattle.property_entries.specs.declared.ArrayProperty.TheVariants.{Names, Types}
use Rattle.property_sizes.specs.declared.Sizes.{Sizes}
use Rattle.property_sizes.specs.Arrays.{entry_in}

pub record Added (s r : Sizes) (cs : List Connector) : Type 0 where
  pub count : r.count ≡ s.count + length cs
  pub names : r.names ≡ s.names + length (flat_map (entry_in Names) cs)
  pub types : r.types ≡ s.types + length (flat_map (entry_in Types) cs)
  pub one : r.count ≤ s.count + 1
  pub names_more : r.names ≤ s.names + 16
  pub types_more : r.types ≤ s.types + 16
