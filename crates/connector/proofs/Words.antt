-- A connector that is wanted back, as a word and back.
use mathlib.Core.Path.{◌≡◌, refl}
use mathlib.Core.Bool.{Bool, true, false}
use Rattle.words.specs.Pick.{pick}
use Rattle.connector.specs.Fields.{wanted_of, word_of_wanted}

pub wanted-word : (b : Bool) → wanted_of (word_of_wanted b) ≡ b
unfolding pick
wanted-word true = refl
wanted-word false = refl
