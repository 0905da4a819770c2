use mathlib.Core.Path.{refl, sym, ◌∙◌}
use native.Mathlib.Omega.{arith}
use Rattle.name_order.proofs.Named.{named-not, named-on, named-last}
use Rattle.name_order.proofs.all_named.Goals as goal

pub loop-i-init : goal.loop-i-init
loop-i-init c = (omega arith, refl)

pub returns-then-not-has_name : goal.returns-then-not-has_name
returns-then-not-has_name c =
    let a = c.args in
    sym (c.loop-i.invariant.1 ∙ named-not a.block.now a.names.now c.loop-i.i a.top (omega arith) c.place.ensures c.has_name.ensures (c.if-not-has_name.true))

pub loop-i-preserved : goal.loop-i-preserved
loop-i-preserved c =
    let a = c.args in
    (omega arith, c.loop-i.invariant.1 ∙ named-on a.block.now a.names.now c.loop-i.i a.top (omega arith) c.place.ensures c.has_name.ensures (c.if-not-has_name.false))

pub returns : goal.returns
returns c =
    let a = c.args in
    sym (c.loop-i.invariant.1 ∙ named-last a.block.now a.names.now c.loop-i.i a.top (omega arith))
