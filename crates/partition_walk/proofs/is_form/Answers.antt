-- `partition_walk::is_form` meets its contract.
use mathlib.Core.Path.{sym, ◌∙◌}
use Rattle.words.specs.Pick.{pick, every}
use Rattle.words.proofs.Pick.{pick_same}
use Rattle.partition_walk.proofs.is_form.Goals as goal

pub returns-then-is_area : goal.returns-then-is_area
unfolding every pick
returns-then-is_area c = simp (sym c.is_area.ensures ∙ c.if-is_area.true, ← c.word_at.ensures) (sym (pick_same _))

pub returns-else-is_area : goal.returns-else-is_area
unfolding every pick
returns-else-is_area c = rw (sym c.is_area.ensures ∙ c.if-is_area.false) c.if-is_area.false
