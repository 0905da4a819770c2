-- The strings of an array property, one after the other behind its count.
use Rattle.std.specs.Prelude.{ℕ, zero, suc, ◌+◌, ◌-◌, ◌≤◌, ◌≡◌, Bool, List, [], ◌∷◌, map, leb, length, Option, is_none}
use Rattle.words.specs.Pick.{pick, any}
use Rattle.words.specs.Bytes.{part, name_length}
use Rattle.type_texts.specs.Types.{kind_of_text}
use Rattle.property_texts.specs.declared.Typed.{Typed}

-- how long the string at a place is: up to its NUL, or to the end where it has none
unfoldable pub length_at : List ℕ → ℕ → ℕ
length_at s at = name_length (length s - at) s at

abbrev pub text_at : List ℕ → ℕ → List ℕ
text_at s at = part s at (length_at s at)

-- the place behind the string and its NUL: past the end where it has none, and from there on the same place
unfoldable pub past_text : List ℕ → ℕ → ℕ
past_text s at = pick (leb at (length s)) (at + length_at s at + 1) at

-- n strings from a place on, and the place behind them
unfoldable pub texts : ℕ → List ℕ → ℕ → List (List ℕ)
texts zero s at = []
texts (suc n) s at = text_at s at ∷ texts n s (past_text s at)

unfoldable pub past_texts : ℕ → List ℕ → ℕ → ℕ
past_texts zero s at = at
past_texts (suc n) s at = past_texts n s (past_text s at)

-- the kinds of n types from a place on, none for a type that is unknown
abbrev pub kinds_of : ℕ → List ℕ → ℕ → List (Option ℕ)
kinds_of n s at = map kind_of_text (texts n s at)

-- whether one of n types is unknown
abbrev pub unknown_in : ℕ → List ℕ → ℕ → Bool
unknown_in n s at = any is_none (kinds_of n s at)

-- the type of the string at a place, and how long it is
pub record TypedAt (s : List ℕ) (at : ℕ) (t : Typed) : Type 0 where
  pub kind : t.kind ≡ kind_of_text (text_at s at)
  pub long : t.long ≡ length_at s at
  pub within : t.long ≤ length s - at
