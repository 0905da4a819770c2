use mathlib.Core.Path.{sym}
use native.Mathlib.Omega.{arith}
use Rattle.name_order.proofs.Compare.{compared-start, compared-before, compared-after, compared-end, compared-on}
use Rattle.name_order.proofs.order.Goals as goal

pub loop-x-init : goal.loop-x-init
loop-x-init c = compared-start c.args.block.now c.args.x c.args.y c.requires.0 c.requires.1

pub returns-then-a-b-2 : goal.returns-then-a-b-2
returns-then-a-b-2 c =
    let a = c.args in
    sym (compared-before a.block.now a.x a.y c.loop-x.i c.loop-x.invariant c.if-a-b-2.true)

pub returns-else-a-b-2 : goal.returns-else-a-b-2
returns-else-a-b-2 c =
    let a = c.args in
    sym (compared-after a.block.now a.x a.y c.loop-x.i c.loop-x.invariant (omega (arith, c.if-a-b.true)))

pub returns-then-a-eq0 : goal.returns-then-a-eq0
returns-then-a-eq0 c =
    let a = c.args in
    sym (compared-end a.block.now a.x a.y c.loop-x.i c.loop-x.invariant c.if-a-b.false c.if-a-eq0.true)

pub loop-x-preserved : goal.loop-x-preserved
loop-x-preserved c =
    let a = c.args in
    compared-on a.block.now a.x a.y c.loop-x.i c.loop-x.invariant c.if-a-b.false c.if-a-eq0.false
