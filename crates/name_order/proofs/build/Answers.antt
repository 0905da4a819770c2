use mathlib.Core.Path.{refl}
use native.Mathlib.Omega.{arith}
use Rattle.name_order.specs.Shuffled.{none}
use Rattle.name_order.proofs.Shuffles.{shuffled-named, shuffled-length, shuffled-then}
use Rattle.name_order.proofs.build.Goals as goal

pub loop-h-init : goal.loop-h-init
loop-h-init c = (omega arith, refl, none)

pub sift-requires : goal.sift-requires
sift-requires c =
    let a = c.args in
    (omega arith, omega arith, shuffled-named a.n a.block.now c.loop-h.invariant.2 c.requires.1)

pub loop-h-preserved : goal.loop-h-preserved
loop-h-preserved c =
    let a = c.args in
    let new = shuffled-then a.n c.loop-h.invariant.2 c.sift.ensures in
    (omega arith, shuffled-length a.n new, new)

pub returns : goal.returns
returns c = c.loop-h.invariant.2
