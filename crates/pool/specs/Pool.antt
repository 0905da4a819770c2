-- The pool: the ledger's lines whose resource stands at no connector.
use Rattle.std.specs.Prelude.{ℕ, suc, ◌+◌, ◌*◌, ◌<◌, ◌≡◌, List, [], ◌∷◌, Bool, true, false, eqb, get_or, length}
use Rattle.words.specs.Pick.{pick, every}
use Rattle.kinds.specs.Kinds.{known}
use Rattle.table.specs.Layout.{Line}
use Rattle.table.specs.Model.{blank_line}

-- of this kind, and in the pool
abbrev pub is_free : ℕ → Line → Bool
is_free kind l = every (eqb l.kind kind ∷ eqb l.at 0 ∷ [])

abbrev pub bit_of : Bool → ℕ
bit_of true = 1
bit_of false = 0

-- how many pass
unfoldable pub how_many : {A : Type 0} → (A → Bool) → List A → ℕ
how_many p [] = 0
how_many p (x ∷ xs) = bit_of (p x) + how_many p xs

-- how many free resources there are of a kind, none of an unknown kind
unfoldable pub free_count : ℕ → List Line → ℕ
free_count kind ls = pick (known kind) (how_many (is_free kind) ls) 0

-- the number of the first that passes, where they are numbered from n on; 0 if none does
unfoldable pub number_from : {A : Type 0} → (A → Bool) → ℕ → List A → ℕ
number_from p n [] = 0
number_from p n (x ∷ xs) = pick (p x) n (number_from p (suc n) xs)

-- the lowest number of a free resource of a kind, 0 if there is none or the kind is unknown. Resources are numbered from 1
unfoldable pub free_lowest : ℕ → List Line → ℕ
free_lowest kind ls = pick (known kind) (number_from (is_free kind) 1 ls) 0

-- line j is the first that is free and of the kind
pub record FirstFree (kind : ℕ) (ls : List Line) (j : ℕ) : Type 0 where
  pub there : j < length ls
  pub alike : (get_or ls j blank_line).kind ≡ kind
  pub pooled : (get_or ls j blank_line).at ≡ 0
  pub first : (i : ℕ) → i < j → is_free kind (get_or ls i blank_line) ≡ false

-- how many lines a mask has bits for
abbrev pub block : ℕ
block = 64

-- a bit for each, the lowest for the first
unfoldable pub mask_of : {A : Type 0} → (A → Bool) → List A → ℕ
mask_of p [] = 0
mask_of p (x ∷ xs) = mask_of p xs * 2 + bit_of (p x)
