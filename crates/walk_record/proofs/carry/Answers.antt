-- `walk_record::carry` meets its contract: a refusal stores nothing, any other step its state and its walk.
use mathlib.Core.Path.{sym, ◌∙◌}
use Rattle.words.specs.Pick.{pick}
use Rattle.walk_record.specs.Words.{carried}
use Rattle.walk_record.proofs.carry.Goals as goal

pub returns-then-is_refusal : goal.returns-then-is_refusal
unfolding carried pick
returns-then-is_refusal c = rw (sym c.is_refusal.ensures ∙ c.if-is_refusal.true)

pub returns : goal.returns
unfolding carried pick
returns c =
    rw (sym c.is_refusal.ensures ∙ c.if-is_refusal.false)
    (rw (c.word_of_page.ensures, c.word_of_state.ensures) at c.set_step.ensures)
