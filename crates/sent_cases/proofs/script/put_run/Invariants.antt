-- `sent_cases::script::put_run` meets its contract: so many bytes are put as turns were made.
use Rattle.std.proofs.Common.{◌≡◌, length}
use Rattle.sent_cases.specs.Script.{reading, put_run}
use Rattle.sent_cases.proofs.script.put_run.Given as goal

abbrev pub invariant-loop : goal.invariant-loop
invariant-loop l = (reading l.out l.at ≡ put_run l.counter l.x (reading l.initial.out l.from)) × (length l.out ≡ length l.initial.out)
