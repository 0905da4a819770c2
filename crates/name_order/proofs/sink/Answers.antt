use mathlib.Core.Path.{refl}
use native.Mathlib.Omega.{arith}
use Rattle.name_order.specs.Shuffled.{none}
use Rattle.name_order.proofs.Shuffles.{shuffled-named, shuffled-length, shuffled-more}
use Rattle.name_order.proofs.sink.Goals as goal

pub loop-at-init : goal.loop-at-init
loop-at-init c = (omega arith, refl, none)

pub later_child-child-requires : goal.later_child-child-requires
later_child-child-requires c =
    let a = c.args in
    (omega arith, omega arith, shuffled-named a.n a.block.now c.loop-at.invariant.2 c.requires.2)

pub loop-at-preserved : goal.loop-at-preserved
loop-at-preserved c =
    let a = c.args in
    let child = c.later_child-child.result in
    let new = shuffled-more a.n c.loop-at.at child c.loop-at.invariant.2 (omega arith) c.exchange.ensures in
    (omega arith, shuffled-length a.n new, new)

pub returns : goal.returns
returns c = (omega arith, c.loop-at.invariant.2)
