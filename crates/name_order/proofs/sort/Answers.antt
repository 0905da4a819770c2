use mathlib.Core.Path.{refl}
use Prim.Native.Nat.{◌-◌}
use native.Mathlib.Omega.{arith}
use Rattle.name_order.specs.Shuffled.{none}
use Rattle.name_order.proofs.Shuffles.{shuffled-named, shuffled-length, shuffled-more, shuffled-wide, shuffled-then}
use Rattle.name_order.proofs.sort.Goals as goal

pub loop-left-init : goal.loop-left-init
loop-left-init c = (omega arith, refl, none)

pub sift-requires : goal.sift-requires
sift-requires c =
    let a = c.args in
    let top = a.n in
    let old = shuffled-then top c.build.ensures c.loop-left.invariant.2 in
    let new = shuffled-more top 0 (c.loop-left.left - 1) old (omega arith) c.exchange.ensures in
    (omega arith, omega (arith, shuffled-length top new), λ i m h. shuffled-named top a.block.now new c.requires.1 i m (omega arith))

pub loop-left-preserved : goal.loop-left-preserved
loop-left-preserved c =
    let a = c.args in
    let top = a.n in
    let long = shuffled-length top c.build.ensures in
    let new = shuffled-more top 0 (c.loop-left.left - 1) c.loop-left.invariant.2 (omega arith) c.exchange.ensures in
    let next = shuffled-then top new (shuffled-wide top (c.loop-left.left - 1) (omega arith) c.sift.ensures) in
    (omega arith, shuffled-length top next, next)

pub returns : goal.returns
returns c =
    let a = c.args in
    shuffled-then a.n c.build.ensures c.loop-left.invariant.2
