-- `partition::get_sensor` meets its contract.
use borrow.Author.Tests.{eq-eqb}
use mathlib.Core.Path.{sym, ◌∙◌}
use Rattle.words.proofs.Pick.{pick_yes}
use Rattle.calls.specs.Calls.{get_sensor}
use Rattle.calls.proofs.Own.{sensor-token}
use Rattle.calls.proofs.Finding.{looked-up-own}
use Rattle.partition.proofs.get_sensor.Goals as goal

pub returns-then-token-ne9003 : goal.returns-then-token-ne9003
returns-then-token-ne9003 c = sym (sensor-token _ _ _ _ c.if-token-ne9003.true)

pub returns-in_default : goal.returns-in_default
unfolding get_sensor
returns-in_default c = sym (pick_yes _ _ _ (eq-eqb _ _ c.if-token-ne9003.false) ∙ looked-up-own _ _ _ _ _ _ c.look_up_own.ensures c.in_default.is)

pub returns : goal.returns
unfolding get_sensor
returns c = rw c.sense.ensures (sym (pick_yes _ _ _ (eq-eqb _ _ c.if-token-ne9003.false) ∙ looked-up-own _ _ _ _ _ _ c.look_up_own.ensures c.in-Some.is))
