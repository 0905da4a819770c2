-- `walk::write_property` meets its contract.
use native.Mathlib.Omega.{arith}
use Rattle.walk.proofs.Area.{property-written}
use Rattle.walk.proofs.write_property.Goals as goal

pub returns : goal.returns
returns c =
    let a = c.args in
    property-written a.area.now a.s.now a.strings.now a.name a.n a.value a.len (omega arith) (omega arith) (omega arith) (omega arith) (omega arith) c.write_words.new.area c.copy_bytes.new.dst _ c.write_words.ensures c.copy_bytes.ensures c.copy_bytes-2.ensures
