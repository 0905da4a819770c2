use Rattle.std.proofs.Common.{refl, ◌∙◌, ap, sym, rules, arith}
use Rattle.sent_cases.specs.Script.{put_byte, put_run, reading}
use Rattle.sent_cases.proofs.Laws.{run_more, run-stop}
use Rattle.sent_cases.proofs.script.put_run.Goals as goal

pub loop-init : goal.loop-init
unfolding put_run
loop-init c = (refl, refl)

pub loop-preserved : goal.loop-preserved
loop-preserved c =
    let a = c.args in
    (c.put_byte-at.ensures ∙ ap (put_byte a.x) c.loop.invariant.0 ∙ sym (run_more c.loop.counter a.x _), search rules)

pub returns-then-out-at : goal.returns-then-out-at
returns-then-out-at c = let a = c.args in run-stop a.n c.loop.counter a.x (reading a.out.now a.from) c.loop.out c.loop.at (omega arith) (omega arith) c.loop.invariant.0
