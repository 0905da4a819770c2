use mathlib.Core.Path.{sym}
use Prim.Native.Nat.{◌-◌}
use native.Mathlib.Nat.{sub-zero}
use native.Mathlib.Omega.{arith}
use Rattle.name_order.proofs.Differ.{ascends-one, ascends-more, ascends-distinct, twins-distinct}
use Rattle.name_order.proofs.neighbours_differ.Goals as goal

pub loop-i-init : goal.loop-i-init
loop-i-init c = let a = c.args in (omega arith, ascends-one a.block.now a.names.now)

pub order_at-o-requires : goal.order_at-o-requires
order_at-o-requires c =
    let p = c.requires in
    (omega arith, omega arith, p.1 (c.loop-i.i - 1) (omega arith) (omega arith), p.1 c.loop-i.i (omega arith) (omega arith))

pub returns-then-o-eq0 : goal.returns-then-o-eq0
returns-then-o-eq0 c =
    let a = c.args in
    sym (twins-distinct a.block.now a.names.now a.n (c.loop-i.i - 1) c.loop-i.i (omega arith) (omega arith) c.order_at-o.ensures c.if-o-eq0.true)

pub returns-then-o-ne1 : goal.returns-then-o-ne1
returns-then-o-ne1 c = rw sub-zero at c.pairs_differ.ensures

pub loop-i-preserved : goal.loop-i-preserved
loop-i-preserved c =
    let a = c.args in
    (omega arith, ascends-more a.block.now a.names.now c.loop-i.i (omega arith) c.loop-i.invariant.1 c.order_at-o.ensures c.if-o-ne1.false)

pub returns : goal.returns
returns c =
    let a = c.args in
    sym (ascends-distinct a.block.now a.names.now a.n (λ p q m h. c.loop-i.invariant.1 p q m (omega arith)))
