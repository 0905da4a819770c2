-- The record after a step, with the status.
use Rattle.std.specs.Prelude.{ℕ, ◌-◌, eqb}
use Rattle.words.specs.Pick.{pick}
use Rattle.states.specs.declared.State.TheVariants.{Unisolated, Configured}
use Rattle.states.specs.declared.Page.TheVariants.{Asked}
use Rattle.connector.specs.declared.Connector.{Connector}
use Rattle.states.specs.States.{start}
use Rattle.connector.specs.Fields.{with_step}
use Rattle.step_status.specs.declared.StepStatus.{StepStatus}
use Rattle.step_status.specs.declared.StepStatus.TheVariants.{Complete, PreviousParent, MoreMemory, BadTree}
use Rattle.guards.specs.Guards.{page_after}
use Rattle.stepped.specs.declared.Stepped.{Stepped}

-- one token is consumed
abbrev pub step_to : StepStatus → ℕ → ℕ → ℕ → Connector → Stepped
step_to n next depth lent c = record { status = n; connector = with_step Unisolated (record { place = next; depth = depth; page = page_after lent }) c }

-- the second page is needed: only the asking is noted
abbrev pub page_asked : Connector → Stepped
page_asked c = record { status = MoreMemory; connector = with_step Unisolated (record { place = c.walk.place; depth = c.walk.depth; page = Asked }) c }

-- an end-node, which writes nothing; the one that closes the root leaves the record Configured, with the walk at its start
unfoldable pub end_stepped : Connector → ℕ → ℕ → ℕ → Stepped
end_stepped c lent at next =
    pick (eqb c.walk.depth 0) (record { status = BadTree at; connector = c })
    (pick (eqb c.walk.depth 1) (record { status = Complete; connector = with_step Configured start c })
    (step_to PreviousParent next (c.walk.depth - 1) lent c))
