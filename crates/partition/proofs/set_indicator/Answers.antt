-- `partition::set_indicator` meets its contract.
use mathlib.Core.Path.{refl}
use Rattle.calls.specs.Calls.{set_indicator}
use Rattle.calls.proofs.Finding.{answered-own}
use Rattle.partition.proofs.set_indicator.Goals as goal

pub returns-in_default : goal.returns-in_default
unfolding set_indicator
returns-in_default c = answered-own _ _ _ _ _ _ _ _ _ c.look_up_own.ensures c.in_default.is (refl, refl)

pub returns : goal.returns
unfolding set_indicator
returns c =
    let o = c.order-o.ensures in
    answered-own _ _ _ _ _ _ _ _ _ c.look_up_own.ensures c.in-Some.is (rw (← o) refl, rw (← o) c.carry.ensures)
