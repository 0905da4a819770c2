-- What `==` says of two slices is `same_bytes` of their parts.
use mathlib.Core.Path.{◌≡◌, refl, ◌∙◌}
use mathlib.Core.List.{List, [], ◌∷◌}
use mathlib.Core.Bool.{Bool, true, false, ◌&&◌}
use Prim.Native.Nat.{ℕ, ◌+◌, ◌-◌}
use native.Mathlib.Omega.{arith}
use lib.Dec.{eqb}
use lib.ListN.{take, drop}
use lib.Pointwise.{pointwise}
use Rattle.words.specs.Pick.{pick}
use Rattle.words.specs.Bytes.{part}
use Rattle.same_trees.specs.Same.{alike, same_bytes}

same-slices : (xs ys : List ℕ) → pointwise eqb xs ys ≡ same_bytes xs ys
unfolding same_bytes alike pick
same-slices [] [] = refl
same-slices [] (y ∷ ys) = refl
same-slices (x ∷ xs) [] = refl
same-slices (x ∷ xs) (y ∷ ys) = rw (same-slices xs ys) (go (eqb x y) (alike eqb xs ys))
  where
    go : (b c : Bool) → (b && c) ≡ pick b c false
    go true c = refl
    go false c = refl

pub same-parts : (s : List ℕ) (at n : ℕ) (s' : List ℕ) (at' n' : ℕ) (b : Bool)
    → b ≡ pointwise eqb (take (at + n - at) (drop at s)) (take (at' + n' - at') (drop at' s')) → b ≡ same_bytes (part s at n) (part s' at' n')
unfolding part
same-parts s at n s' at' n' b e =
    let size : at + n - at ≡ n = omega arith in
    let size' : at' + n' - at' ≡ n' = omega arith in
    rw (size, size') at e ∙ same-slices (take n (drop at s)) (take n' (drop at' s'))
