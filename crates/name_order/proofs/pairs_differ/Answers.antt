use mathlib.Core.Path.{refl, sym, ◌∙◌}
use native.Mathlib.Omega.{arith}
use Rattle.name_order.proofs.Differ.{distinct-here, distinct-on, distinct-last}
use Rattle.name_order.proofs.pairs_differ.Goals as goal

pub loop-i-init : goal.loop-i-init
loop-i-init c = (omega arith, omega arith, refl)

pub is_in-requires : goal.is_in-requires
is_in-requires c =
    let p = c.requires in
    (omega arith, omega arith, λ k m h. p.2 k (omega arith) h, rw c.place.ensures (p.2 c.loop-i.i (omega arith) (omega arith)))

pub returns-then-is_in : goal.returns-then-is_in
returns-then-is_in c =
    let a = c.args in
    sym (c.loop-i.invariant.2 ∙ distinct-here a.block.now a.names.now c.loop-i.i a.top (omega arith) c.place.ensures c.is_in.ensures c.if-is_in.true)

pub loop-i-preserved : goal.loop-i-preserved
loop-i-preserved c =
    let a = c.args in
    (omega arith, omega arith, c.loop-i.invariant.2 ∙ distinct-on a.block.now a.names.now c.loop-i.i a.top (omega arith) c.place.ensures c.is_in.ensures c.if-is_in.false)

pub returns : goal.returns
returns c =
    let a = c.args in
    sym (c.loop-i.invariant.2 ∙ distinct-last a.block.now a.names.now c.loop-i.i a.top (omega arith))
