-- `partition::usable` meets its contract.
use mathlib.Core.Path.{sym, ◌∙◌}
use Rattle.calls.proofs.Look.{usable-state, usable-empty, usable-parent}
use Rattle.partition.proofs.usable.Goals as goal
use Rattle.partition.proofs.usable.Goals.{then-in_use-via-then-in_use, then-in_use-via-else-in_use+then-c-eq0, then-in_use-via-else-in_use+else-c-eq0+then-c-eq0-2}

pub returns-then-in_use : goal.returns-then-in_use
returns-then-in_use c =
    c.usable.ensures ∙ elim c.then-in_use.branch [
      | then-in_use-via-then-in_use w ↦ usable-state _ _ _ (sym c.in_use.ensures ∙ w.if-in_use.true)
      | then-in_use-via-else-in_use+then-c-eq0 w ↦ usable-empty _ _ _ w.if-c-eq0.true
      | then-in_use-via-else-in_use+else-c-eq0+then-c-eq0-2 w ↦ usable-parent _ _ _ w.if-c-eq0-2.true
    ]

pub returns : goal.returns
returns c = rw (← c.configured_at.ensures) c.usable-2.ensures
