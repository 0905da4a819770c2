-- `property_texts::length_at` meets its contract.
use mathlib.Core.Path.{◌∙◌}
use native.Mathlib.Omega.{arith}
use Rattle.property_texts.specs.Texts.{length_at}
use Rattle.property_texts.proofs.length_at.Goals as goal

pub returns : goal.returns
unfolding length_at
returns c = (c.name_length.ensures.0 ∙ rw c.room.ensures, omega arith)
