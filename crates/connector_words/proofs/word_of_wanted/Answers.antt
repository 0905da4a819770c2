-- `connector_words::word_of_wanted` meets its contract.
use mathlib.Core.Bool.{Bool, true, false}
use mathlib.Core.Path.{◌≡◌, refl, ◌∙◌}
use mir.Val.{bool_byte}
use Rattle.words.specs.Pick.{pick}
use Rattle.connector_words.proofs.word_of_wanted.Goals as goal

picked : (b : Bool) → bool_byte b ≡ pick b 1 0
unfolding pick
picked true = refl
picked false = refl

pub returns : goal.returns
returns c = c.from.ensures ∙ picked c.args.wanted
