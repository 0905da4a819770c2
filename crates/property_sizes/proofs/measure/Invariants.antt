-- `property_sizes::measure` meets its contract: the sizes so far and those of the connectors to come add up to the sizes of all.
use Prim.Native.Nat.{◌+◌, ◌-◌, ◌*◌, ◌≤◌}
use Rattle.table.specs.Layout.{connector_at}
use Rattle.table.specs.Model.{rows, table_of}
use Rattle.property_sizes.specs.Arrays.{is_listed, keep, listed}
use Rattle.property_sizes.proofs.Arrays.{Toward}
use Rattle.property_sizes.proofs.measure.Given as goal

abbrev pub invariant-loop-i : goal.invariant-loop-i
invariant-loop-i l = record {
  count_most : l.s.count ≤ l.i;
  names-most : l.s.names ≤ 4 + 16 * l.i;
  types-most : l.s.types ≤ 4 + 16 * l.i;
  toward : Toward l.s (keep (is_listed l.partition) (rows (connector_at l.t) l.i (l.i-end - l.i))) (listed l.partition (table_of l.t));
}
