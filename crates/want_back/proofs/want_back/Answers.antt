-- `want_back::want_back` meets its contract.
use mathlib.Core.Path.{refl}
use Rattle.want_back.specs.WantBack.{want_back}
use Rattle.calls.proofs.Finding.{answered-at}
use Rattle.want_back.proofs.want_back.Goals as goal

pub returns-in_default : goal.returns-in_default
unfolding want_back
returns-in_default c = answered-at _ _ _ _ _ _ _ _ c.look_up.ensures c.in_default.is (refl, refl)

pub returns : goal.returns
unfolding want_back
returns c = answered-at _ _ _ _ _ _ _ _ c.look_up.ensures c.in-Some.is c.want_back_at.ensures
