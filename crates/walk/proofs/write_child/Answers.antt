-- `walk::write_child` meets its contract.
use native.Mathlib.Omega.{arith}
use Rattle.walk.proofs.Area.{child-written}
use Rattle.walk.proofs.write_child.Goals as goal

pub returns : goal.returns
returns c =
    let a = c.args in
    child-written a.area.now a.s.now a.name a.n (omega arith) (omega arith) (omega arith) (omega arith) c.put_word.new.dst _ c.put_word.ensures c.copy_bytes.ensures
