-- Names in a strings block. `used` is the block's used bytes.
use Rattle.std.specs.Prelude.{ℕ, zero, suc, ◌+◌, ◌-◌, List, [], ◌∷◌, ◌++◌, Bool, true, false, length, get_or, eqb, ltb}
use Rattle.words.specs.Pick.{pick}

-- whether p is 0 or just after a NUL
unfoldable pub starts : List ℕ → ℕ → Bool
starts used p = pick (eqb p 0) true (eqb (get_or used (p - 1) 0) 0)

-- whether the name and its NUL stand at p
unfoldable pub stands_at : List ℕ → List ℕ → ℕ → Bool
stands_at [] used p = pick (ltb p (length used)) (eqb (get_or used p 0) 0) false
stands_at (b ∷ bs) used p = pick (eqb (get_or used p 0) b) (stands_at bs used (p + 1)) false

unfoldable pub name_here : List ℕ → List ℕ → ℕ → Bool
name_here name used p = pick (starts used p) (stands_at name used p) false

-- the first of the `count` places from p on at which the test holds; where there is none, the place after them
unfoldable pub first_of : (ℕ → Bool) → ℕ → ℕ → ℕ
first_of test zero p = p
first_of test (suc count) p = pick (test p) p (first_of test count (p + 1))

-- the first place of the name, or where it goes: at the end
unfoldable pub place_of : List ℕ → List ℕ → ℕ
place_of name used = first_of (name_here name used) (length used) 0

-- what is added for the name: itself and its NUL, where it is not there already
unfoldable pub new_name : List ℕ → List ℕ → List ℕ
new_name name used = pick (ltb (place_of name used) (length used)) [] (name ++ (0 ∷ []))
