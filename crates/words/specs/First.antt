-- Several answers, each with its test.
use Rattle.std.specs.Prelude.{Bool, List, [], ◌∷◌}
use Rattle.words.specs.Pick.{pick}

-- the first answer whose test holds, else another one
unfoldable pub first_of : {A : Type 0} → List (Bool × A) → A → A
first_of [] other = other
first_of (t ∷ ts) other = pick t.0 t.1 (first_of ts other)
