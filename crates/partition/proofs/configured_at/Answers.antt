-- `partition::configured_at` meets its contract.
use mathlib.Core.Path.{sym, ◌∙◌}
use Rattle.calls.specs.Calls.{configured_at}
use Rattle.calls.proofs.Finding.{looked-up}
use Rattle.partition.proofs.configured_at.Goals as goal

pub returns-in-Some : goal.returns-in-Some
unfolding configured_at
returns-in-Some c = c.is_configured.ensures ∙ sym (looked-up _ _ _ _ _ c.look_up.ensures c.in-Some.is)

pub returns-in-None : goal.returns-in-None
unfolding configured_at
returns-in-None c = sym (looked-up _ _ _ _ _ c.look_up.ensures c.in-None.is)
