-- `property_writer::write_array` meets its contract.
use Rattle.table.specs.Model.{table_of}
use native.Mathlib.Omega.{arith}
use Rattle.buffer.proofs.Put.{put-long}
use Rattle.property_writer.proofs.Rows.{array_long, put-array}
use Rattle.property_writer.proofs.write_array.Goals as goal

pub write_entries-requires : goal.write_entries-requires
write_entries-requires c =
    let a = c.args in
    omega (arith, array_long a.property a.partition (table_of a.t.now), c.requires.2, put-long _ _ _ _ c.put_word.ensures)

pub returns : goal.returns
returns c =
    let a = c.args in
    put-array a.property a.partition (table_of a.t.now) a.dst.now _ _ a.count c.requires.0 c.put_word.ensures c.write_entries.ensures c.requires.2
