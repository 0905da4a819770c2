-- Names in a block, lists of them by their offsets, and the order of names.
use Rattle.std.specs.Prelude.{ℕ, zero, suc, ◌+◌, ◌-◌, ◌<◌, ◌≤◌, ◌≡◌, List, [], ◌∷◌, Bool, true, false, length, get_or, leb, ltb}
use Rattle.words.specs.Pick.{pick, every}
use Rattle.words.specs.Bytes.{part, name_length}
use Rattle.devtree.specs.Names.{among, distinct}

-- the name at an offset: at most 48 bytes up to its NUL
abbrev pub name_at : List ℕ → ℕ → List ℕ
name_at b x = part b x (name_length 48 b x)

-- the names at `k` offsets of a list, from the one at `base` on
unfoldable pub listed : List ℕ → List ℕ → ℕ → ℕ → List (List ℕ)
listed b xs base zero = []
listed b xs base (suc k) = name_at b (get_or xs base 0) ∷ listed b xs (base + 1) k

-- a name of at most 47 bytes stands there with its NUL
pub record HasName (b : List ℕ) (x : ℕ) : Type 0 where
  pub short : name_length 48 b x ≤ 47
  pub inside : x + name_length 48 b x < length b

abbrev pub AllNamed : List ℕ → List ℕ → ℕ → ℕ → Type 0
AllNamed b xs base top = (i : ℕ) → base ≤ i → i < top → HasName b (get_or xs i 0)

-- whether a name of at most 47 bytes stands there with its NUL
unfoldable pub has_name : List ℕ → ℕ → Bool
has_name b x = every (leb (name_length 48 b x) 47 ∷ ltb (name_length 48 b x) (length b - x) ∷ [])

-- whether such names stand at `k` offsets of a list, from the one at `base` on
unfoldable pub all_named : List ℕ → List ℕ → ℕ → ℕ → Bool
all_named b xs base zero = true
all_named b xs base (suc k) = pick (has_name b (get_or xs base 0)) (all_named b xs (base + 1) k) false

-- whether a list of names stands from `base` to `top`
unfoldable pub is_list : List ℕ → List ℕ → ℕ → ℕ → Bool
is_list b xs base top = every (leb base top ∷ leb top (length xs) ∷ all_named b xs base (top - base) ∷ [])

-- there is such a list, and the name at `x`, which stands there, is one of it
unfoldable pub found_in : List ℕ → List ℕ → ℕ → ℕ → ℕ → Bool
found_in b xs base top x = every (is_list b xs base top ∷ has_name b x ∷ among (name_at b x) (listed b xs base (top - base)) ∷ [])

-- there is such a list, and its names differ
unfoldable pub distinct_in : List ℕ → List ℕ → ℕ → ℕ → Bool
distinct_in b xs base top = every (is_list b xs base top ∷ distinct (listed b xs base (top - base)) ∷ [])

-- the elements before `base` are the same
abbrev pub SameBelow : ℕ → List ℕ → List ℕ → Type 0
SameBelow base xs ys = (i : ℕ) → i < base → get_or ys i 0 ≡ get_or xs i 0

-- the first `n` elements of the second list are those of the first from `base` on
abbrev pub Copied : ℕ → ℕ → List ℕ → List ℕ → Type 0
Copied base n xs ys = (i : ℕ) → i < n → get_or ys i 0 ≡ get_or xs (base + i) 0

-- by the first byte that differs, and where none does the shorter name first: 0 the same, 1 before, 2 after
unfoldable pub name_order : List ℕ → List ℕ → ℕ
name_order [] [] = 0
name_order [] (y ∷ ys) = 1
name_order (x ∷ xs) [] = 2
name_order (x ∷ xs) (y ∷ ys) = pick (ltb x y) 1 (pick (ltb y x) 2 (name_order xs ys))
