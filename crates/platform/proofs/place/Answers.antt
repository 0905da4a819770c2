-- `platform::place` meets its contract.
use mathlib.Core.Path.{refl}
use Rattle.calls.specs.Calls.{place}
use Rattle.calls.proofs.Finding.{answered-at}
use Rattle.platform.proofs.place.Goals as goal

pub returns-in_default : goal.returns-in_default
unfolding place
returns-in_default c = answered-at _ _ _ _ _ _ _ _ c.look_up.ensures c.in_default.is (refl, refl)

pub returns : goal.returns
unfolding place
returns c = answered-at _ _ _ _ _ _ _ _ c.look_up.ensures c.in-Some.is c.place_at.ensures
