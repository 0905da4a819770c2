use native.Mathlib.Omega.{arith}
use lib.ListN.{get_or-eq_default}
use Rattle.words.proofs.Bytes.{name-none, name-stop, name-more}
use Rattle.timed_names.proofs.plain_length.Goals as goal

pub loop-left-init : goal.loop-left-init
loop-left-init c = omega arith

pub returns-then-s-i : goal.returns-then-s-i
returns-then-s-i c = omega (arith, name-stop c.loop-left.left c.args.s.now c.loop-left.i (get_or-eq_default c.args.s.now 0 c.if-s-i.true))

pub returns-then-s-i-eq0 : goal.returns-then-s-i-eq0
returns-then-s-i-eq0 c = omega (arith, name-stop c.loop-left.left c.args.s.now c.loop-left.i c.if-s-i-eq0.true)

pub loop-left-preserved : goal.loop-left-preserved
loop-left-preserved c = omega (arith, name-more c.loop-left.left c.args.s.now c.loop-left.i (omega arith) c.if-s-i-eq0.false)

pub returns : goal.returns
returns c = omega (arith, name-none c.loop-left.left c.args.s.now c.loop-left.i c.loop-left-test.false)
