-- `property_writer::write_properties` meets its contract.
use Rattle.table.specs.Model.{table_of}
use Rattle.property_sizes.specs.Arrays.{listed}
use Rattle.property_writer.specs.Writer.{buffers}
use Rattle.property_writer.proofs.Writer.{refused, room_for, all-written}
use mathlib.Core.Path.{ap}
use mathlib.Core.Bool.{not}
use Rattle.property_writer.proofs.write_properties.Goals as goal

pub returns-then-not-have_room : goal.returns-then-not-have_room
returns-then-not-have_room c =
    let a = c.args in
    let m = c.measure-s in
    refused (listed a.partition (table_of a.t.now)) m.result m.ensures (buffers a.names.now a.indexes.now a.domains.now a.types.now a.lengths.now)
    c.have_room.result c.have_room.ensures (ap not c.if-not-have_room.true)

pub write_arrays-requires : goal.write_arrays-requires
write_arrays-requires c =
    let a = c.args in
    let m = c.measure-s in (
      m.ensures.count,
      m.ensures.count_most,
      room_for (listed a.partition (table_of a.t.now)) m.result m.ensures (buffers a.names.now a.indexes.now a.domains.now a.types.now a.lengths.now)
          c.have_room.result c.have_room.ensures (ap not c.if-not-have_room.false),
    )

pub returns : goal.returns
returns c =
    let a = c.args in
    let m = c.measure-s in
    all-written (listed a.partition (table_of a.t.now)) m.result m.ensures (buffers a.names.now a.indexes.now a.domains.now a.types.now a.lengths.now)
    c.have_room.result c.have_room.ensures _ _ _ _ (ap not c.if-not-have_room.false) c.write_arrays.ensures
