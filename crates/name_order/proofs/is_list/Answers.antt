-- `name_order::is_list` meets its contract.
use mathlib.Core.Path.{sym}
use native.Mathlib.Omega.{arith}
use Rattle.name_order.proofs.Named.{list-turned, list-long, list_inside}
use Rattle.name_order.proofs.is_list.Goals as goal

pub returns-then-top-base : goal.returns-then-top-base
returns-then-top-base c = let a = c.args in sym (list-turned a.block.now a.names.now a.base a.top (omega arith))

pub returns-then-names-top : goal.returns-then-names-top
returns-then-names-top c = let a = c.args in sym (list-long a.block.now a.names.now a.base a.top (omega arith) (omega arith))

pub returns : goal.returns
returns c =
    let a = c.args in
    rw c.all_named.ensures (sym (list_inside a.block.now a.names.now a.base a.top (omega arith) (omega arith)))
