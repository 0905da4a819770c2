-- `reader::take_reply` meets its contract.
use Rattle.reader.proofs.Taken.{no_room, no-strings, has_room, may_write}
use mathlib.Core.Path.{◌∙◌}
use mathlib.Core.Path.{ap}
use mathlib.Core.Bool.{not}
use Rattle.reader.proofs.take_reply.Goals as goal

pub returns-then-not-has_room : goal.returns-then-not-has_room
returns-then-not-has_room c = no_room c.args.r c.args.kind c.args.p c.args.area.now c.args.structure.now c.args.strings.now c.requires _ c.size_of-size.ensures _ c.has_room.ensures (ap not c.if-not-has_room.true)

pub returns-then-not-has_room-2 : goal.returns-then-not-has_room-2
returns-then-not-has_room-2 c = no-strings c.args.r c.args.kind c.args.p c.args.area.now c.args.structure.now c.args.strings.now c.requires _ c.size_of-size.ensures _ c.has_room.ensures _ c.place_for-place.ensures _ c.has_room-2.ensures (ap not c.if-not-has_room-2.true)

pub write-requires : goal.write-requires
write-requires c = may_write c.args.r c.args.kind c.args.p c.args.area.now c.args.structure.now c.args.strings.now c.requires _ c.size_of-size.ensures _ c.has_room.ensures _ c.place_for-place.ensures _ c.has_room-2.ensures (ap not c.if-not-has_room.false) (ap not c.if-not-has_room-2.false)

pub returns : goal.returns
returns c = c.write.ensures ∙ has_room c.args.r c.args.kind c.args.p c.args.area.now c.args.structure.now c.args.strings.now c.requires _ c.size_of-size.ensures _ c.has_room.ensures _ c.place_for-place.ensures _ c.has_room-2.ensures (ap not c.if-not-has_room.false) (ap not c.if-not-has_room-2.false)
