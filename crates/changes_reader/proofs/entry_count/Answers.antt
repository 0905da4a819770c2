-- `changes_reader::entry_count` meets its contract.
use mathlib.Core.Path.{refl}
use native.Mathlib.Nat.{div-le_self}
use Rattle.changes_reader.proofs.entry_count.Goals as goal

pub returns : goal.returns
returns c = rw (c.operands_after.ensures.0, c.operand_count.ensures.0) (refl, div-le_self _ _)
