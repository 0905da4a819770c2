-- `partition::isolate` meets its contract.
use mathlib.Core.Path.{sym, ◌∙◌}
use Rattle.calls.proofs.Look.{isolate-state, isolate-kind}
use Rattle.partition.proofs.isolate.Goals as goal
use Rattle.partition.proofs.isolate.Goals.{then-not-is_configured-via-then-not-is_configured, then-not-is_configured-via-else-not-is_configured+then-c-ne-PHB}

pub returns-then-not-is_configured : goal.returns-then-not-is_configured
returns-then-not-is_configured c =
    c.isolate.ensures ∙ elim c.then-not-is_configured.branch [
      | then-not-is_configured-via-then-not-is_configured w ↦ isolate-state _ _ _ (sym c.is_configured.ensures ∙ w.if-not-is_configured.true)
      | then-not-is_configured-via-else-not-is_configured+then-c-ne-PHB w ↦ isolate-kind _ _ _ w.if-c-ne-PHB.true
    ]

pub returns : goal.returns
returns c = rw (← c.slot_in_use.ensures) c.isolate-2.ensures
