-- Laws of `stands_at` and `first_of`.
use mathlib.Core.Path.{◌≡◌, refl, ap}
use mathlib.Core.Bool.{Bool, true, false, ◌&&◌}
use mathlib.Core.List.{List, [], ◌∷◌}
use Prim.Native.Nat.{ℕ, zero, suc, ◌+◌, ◌-◌, ◌<◌, ◌≤◌}
use native.Mathlib.Omega.{arith}
use native.Mathlib.Numerals.{sub-one}
use lib.ListN.{length, get_or, take, drop, length-drop}
use lib.Seq.{drop-cons}
use lib.Dec.{eqb}
use lib.Pointwise.{pointwise}
use borrow.Author.Tests.{lt-ltb, le-ltb}
use Rattle.words.specs.Pick.{pick}
use Rattle.name_places.specs.Names.{stands_at, first_of}

-- ---- the first place

first_more : (test : ℕ → Bool) (k p : ℕ) → 0 < k → first_of test k p ≡ pick (test p) p (first_of test (k - 1) (p + 1))
unfolding first_of
first_more test zero p h = absurd (omega arith)
first_more test (suc k) p h = rw sub-one

first-none : (test : ℕ → Bool) (k p : ℕ) → k ≤ 0 → first_of test k p ≡ p
unfolding first_of
first-none test zero p h = refl
first-none test (suc k) p h = absurd (omega arith)

-- from p on, of the places below u
module _ (test : ℕ → Bool) (u p : ℕ) where
  pub first-here : p < u → test p ≡ true → first_of test (u - p) p ≡ p
  unfolding pick
  first-here h e = rw (first_more test (u - p) p (omega arith), e)

  pub first_next : p < u → test p ≡ false → first_of test (u - p) p ≡ first_of test (u - (p + 1)) (p + 1)
  unfolding pick
  first_next h e = let m : u - p - 1 ≡ u - (p + 1) = omega arith in rw (first_more test (u - p) p (omega arith), e, m)

  pub first-end : u ≤ p → first_of test (u - p) p ≡ p
  first-end h = first-none test (u - p) p (omega arith)

-- ---- a name at a place

pick-both : (b x : Bool) → pick b x x ≡ x
unfolding pick
pick-both true x = refl
pick-both false x = refl

-- no name stands where it and its NUL would pass the used bytes
pub stands-short : (name used : List ℕ) (p : ℕ) → length used ≤ p + length name → stands_at name used p ≡ false
unfolding stands_at pick
stands-short [] used p h = rw (le-ltb p (length used) (omega arith))
stands-short (b ∷ bs) used p h = rw (stands-short bs used (p + 1) (omega arith)) (pick-both (eqb (get_or used p 0) b) false)

pick-and : (a b x : Bool) → pick a (pick b x false) false ≡ pick (a && b) x false
unfolding pick
pick-and true b x = refl
pick-and false b x = refl

-- where there is room, it is the bytes from p on that are compared
pub stands-rest : (name used : List ℕ) (p : ℕ) (rest : List ℕ) → rest ≡ drop p used → length name < length rest → stands_at name used p ≡ pick (pointwise eqb (take (length name) rest) name) (eqb (get_or rest (length name) 0) 0) false
unfolding stands_at pick
stands-rest [] used p rest e h =
    let l : p < length used = omega (arith, length-drop p used, ap length e) in
    rw (e, drop-cons used p 0 l, lt-ltb p (length used) l)
stands-rest (b ∷ bs) used p rest e h =
    let l : p < length used = omega (arith, length-drop p used, ap length e) in
    let next : suc p ≡ p + 1 = omega arith in
    let m : length bs < length (drop (suc p) used) = omega (arith, length-drop p used, length-drop (suc p) used, ap length e) in
    rw (e, drop-cons used p 0 l, stands-rest bs used (p + 1) (drop (suc p) used) (ap (λ k. drop k used) next) m) (pick-and (eqb (get_or used p 0) b) _ _)
