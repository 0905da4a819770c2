-- `devtree::property_at` meets its contract.
use mathlib.Core.Path.{sym, ◌∙◌}
use Rattle.devtree.proofs.Here.{property-read, property-past, property-none}
use Rattle.devtree.proofs.property_at.Goals as goal

pub returns-in-Some : goal.returns-in-Some
returns-in-Some c = rw (c.name_length-n.ensures.0, c.word_at-name.ensures, c.word_at.ensures) (sym (property-past _ _ _ _ (sym (c.past_property.ensures ∙ property-read _ _ _ _ _ c.word_at-name.ensures c.name_length-n.ensures.0) ∙ c.in-Some.is)))

pub returns-in-None : goal.returns-in-None
returns-in-None c = sym (property-none _ _ _ (sym (c.past_property.ensures ∙ property-read _ _ _ _ _ c.word_at-name.ensures c.name_length-n.ensures.0) ∙ c.in-None.is))
