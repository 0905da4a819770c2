use mathlib.Core.Path.{refl}
use Prim.Native.Nat.{◌*◌}
use native.Mathlib.Omega.{arith}
use native.Mathlib.Nat.{mul-le-mul_right}
use Rattle.changes_writer.proofs.Steps.{put-there, put-room, put_one, put-end}
use Rattle.changes_writer.proofs.put_entries.Goals as goal

pub loop-left-init : goal.loop-left-init
loop-left-init c = (c.requires.0, record { there = c.requires.1; long = refl; place = refl; puts = refl })

pub put_operands-requires : goal.put_operands-requires
put_operands-requires c = (omega (arith, put-there _ _ _ _ c.loop-left-test.true _ _ _ _ _ c.loop-left.invariant.1 c.requires.2), put-room _ _ _ _ c.loop-left-test.true _ _ _ _ _ c.loop-left.invariant.1 c.requires.2)

pub offset_bounds-changes-i : goal.offset_bounds-changes-i
offset_bounds-changes-i c = omega (arith, put-there _ _ _ _ c.loop-left-test.true _ _ _ _ _ c.loop-left.invariant.1 c.requires.2)

pub bounds-changes-i : goal.bounds-changes-i
bounds-changes-i c = omega (arith, put-there _ _ _ _ c.loop-left-test.true _ _ _ _ _ c.loop-left.invariant.1 c.requires.2)

pub overflow_add-to : goal.overflow_add-to
overflow_add-to c =
    let oc = c.operand_count-step in
    let m = mul-le-mul_right (4 * oc.result) c.one_of-n.ensures.1 in
    omega (arith, oc.ensures.0, put-room _ _ _ _ c.loop-left-test.true _ _ _ _ _ c.loop-left.invariant.1 c.requires.2)

pub overflow_add-i : goal.overflow_add-i
overflow_add-i c = omega (arith, put-there _ _ _ _ c.loop-left-test.true _ _ _ _ _ c.loop-left.invariant.1 c.requires.2)

pub loop-left-smaller : goal.loop-left-smaller
loop-left-smaller c = omega (arith, put-there _ _ _ _ c.loop-left-test.true _ _ _ _ _ c.loop-left.invariant.1 c.requires.2)

pub loop-left-preserved : goal.loop-left-preserved
loop-left-preserved c =
    let more = c.loop-left-test.true in
    let room = c.requires.2 in (
      omega (arith, put-there _ _ _ _ more _ _ _ _ _ c.loop-left.invariant.1 room),
      rw c.operand_count-step.ensures.0 (put_one _ _ _ _ more _ _ _ _ _ c.loop-left.invariant.1 room _ c.put_operands.ensures _ c.one_of-n.ensures.0),
    )

pub returns : goal.returns
returns c = put-end _ _ _ _ c.loop-left-test.false _ _ _ _ _ c.loop-left.invariant.1
