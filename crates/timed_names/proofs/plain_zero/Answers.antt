use Rattle.std.proofs.Common.{sym, refl, ◌∙◌, arith}
use Rattle.words.proofs.Bytes.{zero-past}
use Rattle.timed_names.proofs.Zeros.{zero-none, zero-not, zero_more}
use Rattle.timed_names.proofs.plain_zero.Goals as goal

pub loop-left-init : goal.loop-left-init
loop-left-init c = refl

pub returns-then-s-i : goal.returns-then-s-i
returns-then-s-i c = sym (zero-past c.loop-left.left c.args.s.now c.loop-left.i c.if-s-i.true) ∙ c.loop-left.invariant

pub returns-then-s-i-ne0 : goal.returns-then-s-i-ne0
returns-then-s-i-ne0 c = sym (zero-not c.loop-left.left c.args.s.now c.loop-left.i (omega arith) c.if-s-i-ne0.true) ∙ c.loop-left.invariant

pub loop-left-preserved : goal.loop-left-preserved
loop-left-preserved c = sym (zero_more c.loop-left.left c.args.s.now c.loop-left.i (omega arith) c.if-s-i-ne0.false) ∙ c.loop-left.invariant

pub returns : goal.returns
returns c = sym (zero-none c.loop-left.left c.args.s.now c.loop-left.i c.loop-left-test.false) ∙ c.loop-left.invariant
