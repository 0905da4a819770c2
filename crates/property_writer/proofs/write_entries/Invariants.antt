-- `property_writer::write_entries` meets its contract: what is put and the entries of the rows to come add up to all entries.
use mathlib.Core.Path.{◌≡◌}
use Prim.Native.Nat.{◌+◌, ◌-◌}
use lib.ListN.{length}
use Rattle.buffer.specs.Put.{put}
use Rattle.table.specs.Layout.{connector_at}
use Rattle.table.specs.Model.{rows, table_of}
use Rattle.property_writer.specs.Rows.{entries_of}
use Rattle.property_writer.proofs.write_entries.Given as goal

abbrev pub invariant-loop-i : goal.invariant-loop-i
invariant-loop-i l = record {
  place : l.at + length (entries_of l.property l.partition (rows (connector_at l.t) l.i (l.i-end - l.i))) ≡ 4 + length (entries_of l.property l.partition (table_of l.t).connectors);
  written : put l.dst l.at (entries_of l.property l.partition (rows (connector_at l.t) l.i (l.i-end - l.i))) ≡ put l.initial.dst 4 (entries_of l.property l.partition (table_of l.t).connectors);
}
