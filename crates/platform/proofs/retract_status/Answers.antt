-- `platform::retract_status` meets its contract.
use borrow.Author.Tests.{eq-eqb, ne_eqb}
use Rattle.words.specs.Pick.{pick}
use Rattle.calls.specs.Calls.{retract_status}
use Rattle.platform.proofs.retract_status.Goals as goal

pub returns-then-c-eq0 : goal.returns-then-c-eq0
unfolding retract_status pick
returns-then-c-eq0 c = simp (eq-eqb _ _ c.if-c-eq0.true)

pub returns : goal.returns
unfolding retract_status pick
returns c = simp (ne_eqb _ _ c.if-c-eq0.false) c.retract_in.ensures
