-- `partition_walk::carry_step` meets its contract: a refusal stores nothing, any other step its state and its walk.
use mathlib.Core.Path.{sym, ◌∙◌}
use Rattle.words.specs.Pick.{pick}
use Rattle.calls.specs.Calls.{step_edits}
use Rattle.partition_walk.proofs.carry_step.Goals as goal

pub returns-then-is_refusal : goal.returns-then-is_refusal
unfolding step_edits pick
returns-then-is_refusal c = rw (sym c.is_refusal.ensures ∙ c.if-is_refusal.true)

pub returns : goal.returns
unfolding step_edits pick
returns c = rw (sym c.is_refusal.ensures ∙ c.if-is_refusal.false) c.store_step.ensures
