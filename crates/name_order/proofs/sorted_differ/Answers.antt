-- `name_order::sorted_differ` meets its contract: exchanges keep whether the names differ.
use native.Mathlib.Omega.{arith}
use Rattle.name_order.proofs.Shuffles.{shuffled-named, shuffled-distinct}
use Rattle.name_order.proofs.sorted_differ.Goals as goal

pub neighbours_differ-requires : goal.neighbours_differ-requires
neighbours_differ-requires c =
    let a = c.args in
    (omega arith, shuffled-named a.n a.block.now c.sort.ensures c.requires.1)

pub returns : goal.returns
returns c =
    let a = c.args in
    shuffled-distinct a.n a.block.now c.sort.ensures c.neighbours_differ.ensures
