use mathlib.Core.Path.{refl}
use native.Mathlib.Omega.{arith}
use lib.ListN.{length-set}
use Rattle.name_order.proofs.Names.{copied_more}
use Rattle.name_order.proofs.copy_front.Goals as goal

pub loop-k-init : goal.loop-k-init
loop-k-init c = (omega arith, refl, λ i h. absurd (omega arith))

pub loop-k-preserved : goal.loop-k-preserved
loop-k-preserved c =
    let a = c.args in
    (omega arith, simp length-set c.loop-k.invariant.1, copied_more a.base c.loop-k.k a.names.now c.loop-k.copy (omega arith) c.loop-k.invariant.2)

pub returns : goal.returns
returns c = λ i h. c.loop-k.invariant.2 i (omega arith)
