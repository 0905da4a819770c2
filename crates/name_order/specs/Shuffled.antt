-- Lists that differ by exchanges of two elements.
use Rattle.std.specs.Prelude.{ℕ, ◌<◌, List, length, get_or, set}

abbrev pub exchanged : List ℕ → ℕ → ℕ → List ℕ
exchanged xs i j = set (set xs i (get_or xs j 0)) j (get_or xs i 0)

-- an element before `top`
pub record Inside (top : ℕ) (xs : List ℕ) (i : ℕ) : Type 0 where
  pub before : i < top
  pub inside : i < length xs

-- the second list comes from the first by exchanges of such elements
pub data Shuffled (top : ℕ) (xs : List ℕ) : List ℕ → Type 0 where
  none : Shuffled top xs xs
  more : {ys : List ℕ} {i j : ℕ} → Shuffled top xs ys → Inside top ys i → Inside top ys j → Shuffled top xs (exchanged ys i j)
