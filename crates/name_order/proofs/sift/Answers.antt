-- `name_order::sift` meets its contract.
use Prim.Native.Nat.{◌+◌}
use native.Mathlib.Omega.{arith}
use Rattle.name_order.proofs.Shuffles.{shuffled-named, shuffled-length, shuffled-wide, shuffled-then}
use Rattle.name_order.proofs.sift.Goals as goal

pub rise-requires : goal.rise-requires
rise-requires c =
    let a = c.args in
    let named = shuffled-named a.n a.block.now c.sink-leaf.ensures.1 c.requires.2 in
    (omega (arith, shuffled-length a.n c.sink-leaf.ensures.1), λ i l h. named i l (omega arith))

pub returns : goal.returns
returns c =
    let a = c.args in
    let end = c.sink-leaf.result + 1 in
    shuffled-then a.n c.sink-leaf.ensures.1 (shuffled-wide a.n end (omega arith) c.rise.ensures)
