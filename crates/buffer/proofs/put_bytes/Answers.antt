use Rattle.std.proofs.Common.{sym, ◌∙◌, add-zero, arith}
use Rattle.buffer.proofs.Put.{sets-step, sets-done, put_in, put-out}
use Rattle.buffer.proofs.put_bytes.Goals as goal

pub loop-i-init : goal.loop-i-init
loop-i-init c = rw add-zero

pub loop-i-preserved : goal.loop-i-preserved
loop-i-preserved c =
    let a = c.args in
    sets-step c.loop-i.dst a.bytes.now a.at c.loop-i.i c.loop-i-test.true ∙ c.loop-i.invariant

pub returns-after-loop-i : goal.returns-after-loop-i
returns-after-loop-i c =
    let a = c.args in
    sym (sets-done c.loop-i.dst a.bytes.now a.at c.loop-i.i c.loop-i-test.false) ∙ c.loop-i.invariant ∙ sym (put_in a.dst.now a.at a.bytes.now (omega arith))

pub returns-else-bytes-room : goal.returns-else-bytes-room
returns-else-bytes-room c = let a = c.args in sym (put-out a.dst.now a.at a.bytes.now (omega arith))
