-- `changes_writer::planned` meets its contract.
use native.Mathlib.Omega.{arith}
use Rattle.changes_writer.proofs.Room.{portion-few, portion-size, plan-made}
use Rattle.changes_writer.proofs.planned.Goals as goal

pub list_size-room-requires : goal.list_size-room-requires
list_size-room-requires c = (portion-few _ _ _ _ c.portion_of-deletes.ensures (omega arith), omega arith)

pub overflow_sub-room : goal.overflow_sub-room
overflow_sub-room c = portion-size _ _ _ _ c.portion_of-deletes.ensures _ c.list_size-room.ensures

pub list_size-requires : goal.list_size-requires
list_size-requires c = (portion-few _ _ _ _ c.portion_of-updates.ensures (omega arith), omega arith)

pub overflow_sub-rest : goal.overflow_sub-rest
overflow_sub-rest c = portion-size _ _ _ _ c.portion_of-updates.ensures _ c.list_size.ensures

pub returns : goal.returns
returns c = plan-made c.args.t c.args.before _ _ c.portion_of-deletes.result c.portion_of-updates.result c.portion_of-adds.result c.portion_of-deletes.ensures c.list_size-room.ensures c.portion_of-updates.ensures c.list_size.ensures c.portion_of-adds.ensures
