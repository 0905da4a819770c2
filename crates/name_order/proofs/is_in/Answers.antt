use mathlib.Core.Path.{refl, sym, ◌∙◌}
use native.Mathlib.Omega.{arith}
use Rattle.name_order.specs.Order.{name_at}
use Rattle.name_order.proofs.Differ.{among-here, among-on, among-last}
use Rattle.name_order.proofs.is_in.Goals as goal

pub loop-i-init : goal.loop-i-init
loop-i-init c = (omega arith, omega arith, refl)

pub same-requires : goal.same-requires
same-requires c =
    let p = c.requires in
    (p.3, rw c.place.ensures (p.2 c.loop-i.i (omega arith) (omega arith)))

pub returns-then-same : goal.returns-then-same
returns-then-same c =
    let a = c.args in
    sym (c.loop-i.invariant.2 ∙ among-here a.block.now a.names.now c.loop-i.i a.top (omega arith) c.place.ensures (name_at a.block.now a.x) c.same.ensures c.if-same.true)

pub loop-i-preserved : goal.loop-i-preserved
loop-i-preserved c =
    let a = c.args in
    (omega arith, omega arith, c.loop-i.invariant.2 ∙ among-on a.block.now a.names.now c.loop-i.i a.top (omega arith) c.place.ensures (name_at a.block.now a.x) c.same.ensures c.if-same.false)

pub returns : goal.returns
returns c =
    let a = c.args in
    sym (c.loop-i.invariant.2 ∙ among-last a.block.now a.names.now (name_at a.block.now a.x) c.loop-i.i a.top (omega arith))
