-- `devtree::begin_at` meets its contract.
use mathlib.Core.Path.{sym, ◌∙◌}
use Rattle.devtree.proofs.Here.{begin-read, begin-past, begin-none}
use Rattle.devtree.proofs.begin_at.Goals as goal

pub returns-in-Some : goal.returns-in-Some
returns-in-Some c = rw c.name_length-n.ensures.0 (sym (begin-past _ _ _ (sym (c.past_begin.ensures ∙ begin-read _ _ _ c.name_length-n.ensures.0) ∙ c.in-Some.is)))

pub returns-in-None : goal.returns-in-None
returns-in-None c = sym (begin-none _ _ (sym (c.past_begin.ensures ∙ begin-read _ _ _ c.name_length-n.ensures.0) ∙ c.in-None.is))
