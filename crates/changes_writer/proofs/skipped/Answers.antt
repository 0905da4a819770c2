use mathlib.Core.Path.{refl}
use native.Mathlib.Omega.{arith}
use Rattle.changes_writer.proofs.Steps.{pass-there, pass-one, pass-end}
use Rattle.changes_writer.proofs.skipped.Goals as goal

pub loop-left-init : goal.loop-left-init
loop-left-init c = (omega arith, record { there = c.requires; leaves = refl })

pub offset_bounds-changes-i : goal.offset_bounds-changes-i
offset_bounds-changes-i c = omega (arith, pass-there _ _ _ _ c.loop-left-test.true _ c.loop-left.invariant.1)

pub bounds-changes-i : goal.bounds-changes-i
bounds-changes-i c = omega (arith, pass-there _ _ _ _ c.loop-left-test.true _ c.loop-left.invariant.1)

pub overflow_add-i : goal.overflow_add-i
overflow_add-i c = omega (arith, pass-there _ _ _ _ c.loop-left-test.true _ c.loop-left.invariant.1)

pub loop-left-smaller : goal.loop-left-smaller
loop-left-smaller c = omega (arith, pass-there _ _ _ _ c.loop-left-test.true _ c.loop-left.invariant.1)

pub loop-left-preserved : goal.loop-left-preserved
loop-left-preserved c =
    let more = c.loop-left-test.true in
    (omega (arith, pass-there _ _ _ _ more _ c.loop-left.invariant.1), pass-one _ _ _ _ more _ c.loop-left.invariant.1 _ c.one_of-left.ensures.0)

pub returns : goal.returns
returns c = (pass-end _ _ _ _ c.loop-left-test.false _ c.loop-left.invariant.1, c.loop-left.invariant.0)
