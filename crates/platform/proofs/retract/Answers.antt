-- `platform::retract` meets its contract.
use mathlib.Core.Path.{refl}
use Rattle.calls.specs.Calls.{retract}
use Rattle.calls.proofs.Finding.{answered-at}
use Rattle.platform.proofs.retract.Goals as goal

pub returns-in_default : goal.returns-in_default
unfolding retract
returns-in_default c = answered-at _ _ _ _ _ _ _ _ c.look_up.ensures c.in_default.is (refl, refl)

pub returns : goal.returns
unfolding retract
returns c = answered-at _ _ _ _ _ _ _ _ c.look_up.ensures c.in-Some.is c.retract_at.ensures
