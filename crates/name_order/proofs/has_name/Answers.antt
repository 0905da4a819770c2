-- `name_order::has_name` meets its contract.
use mathlib.Core.Path.{sym}
use native.Mathlib.Omega.{arith}
use Rattle.name_order.proofs.Named.{name-long, name-room}
use Rattle.name_order.proofs.has_name.Goals as goal

pub returns-then-n-gt47 : goal.returns-then-n-gt47
returns-then-n-gt47 c =
    let a = c.args in
    sym (name-long a.block.now a.x (omega arith))

pub returns : goal.returns
returns c =
    let n = c.name_length-n.ensures.0 in
    let a = c.args in
    rw (n, c.room.ensures) (sym (name-room a.block.now a.x (omega arith)))
