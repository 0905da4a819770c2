-- The definitions of names that differ say what they mean: names are the same where their bytes are, and differ where no two places have one name.
use mathlib.Core.Path.{◌≡◌, refl, sym, ◌∙◌}
use mathlib.Core.List.{List, [], ◌∷◌}
use mathlib.Core.Bool.{Bool, true, false, false≢true}
use mathlib.Core.Logic.{◌⊎◌, inl, inr}
use Prim.Native.Nat.{ℕ, zero, suc, ◌<◌}
use native.Mathlib.Omega.{arith}
use lib.ListN.{length, get_or}
use lib.Dec.{eqb}
use borrow.Author.Tests.{eq-eqb, eqb-true}
use Rattle.words.specs.Pick.{pick}
use Rattle.words.proofs.Pick.{pick-and, pick-either, pick-unless, pick-cases}
use Rattle.devtree.specs.Names.{same_name, among, distinct}

pub same-equal : (n m : List ℕ) → same_name n m ≡ true → n ≡ m
unfolding same_name
same-equal [] [] e = refl
same-equal [] (y ∷ ys) e = absurd (false≢true e)
same-equal (x ∷ xs) [] e = absurd (false≢true e)
same-equal (x ∷ xs) (y ∷ ys) e =
    let both = pick-and (eqb x y) (same_name xs ys) e in
    rw (eqb-true x y both.0, same-equal xs ys both.1)

pub same_self : (n : List ℕ) → same_name n n ≡ true
unfolding same_name pick
same_self [] = refl
same_self (x ∷ xs) = simp (eq-eqb x x refl, same_self xs)

-- a name is one of the names exactly where a place has it
pub among-at : (n : List ℕ) (ns : List (List ℕ)) → among n ns ≡ true → (k : ℕ) × (k < length ns) × (n ≡ get_or ns k [])
unfolding among
among-at n [] e = absurd (false≢true e)
among-at n (m ∷ ms) e = go (pick-either (same_name n m) true (among n ms) e) (among-at n ms)
  where
    go : ((same_name n m ≡ true) × (true ≡ true)) ⊎ ((same_name n m ≡ false) × (among n ms ≡ true)) → (among n ms ≡ true → (k : ℕ) × (k < length ms) × (n ≡ get_or ms k [])) → (k : ℕ) × (k < length (m ∷ ms)) × (n ≡ get_or (m ∷ ms) k [])
    go (inl w) rest = (zero, omega arith, same-equal n m w.0)
    go (inr w) rest = let r = rest w.1 in (suc r.0, omega arith, r.2)

pub at-among : (n : List ℕ) (ns : List (List ℕ)) (k : ℕ) → k < length ns → n ≡ get_or ns k [] → among n ns ≡ true
unfolding among pick
at-among n [] k h e = absurd (omega arith)
at-among n (m ∷ ms) zero h e = rw (e, same_self m) refl
at-among n (m ∷ ms) (suc k) h e = go (same_name n m) (at-among n ms k (omega arith) e)
  where
    go : (b : Bool) → among n ms ≡ true → pick b true (among n ms) ≡ true
    go true f = refl
    go false f = f

-- names differ exactly where no two places have one name
pub distinct_apart : (ns : List (List ℕ)) → distinct ns ≡ true → (i j : ℕ) → i < j → j < length ns → get_or ns i [] ≡ get_or ns j [] → ⊥
unfolding distinct
distinct_apart [] d i j h l e = absurd (omega arith)
distinct_apart (n ∷ ns) d zero zero h l e = absurd (omega arith)
distinct_apart (n ∷ ns) d zero (suc j) h l e = false≢true (sym (pick-unless (among n ns) _ d).0 ∙ at-among n ns j (omega arith) e)
distinct_apart (n ∷ ns) d (suc i) zero h l e = absurd (omega arith)
distinct_apart (n ∷ ns) d (suc i) (suc j) h l e = distinct_apart ns (pick-unless (among n ns) _ d).1 i j (omega arith) (omega arith) e

pub apart_distinct : (ns : List (List ℕ)) → ((i j : ℕ) → i < j → j < length ns → get_or ns i [] ≡ get_or ns j [] → ⊥) → distinct ns ≡ true
unfolding distinct
apart_distinct [] f = refl
apart_distinct (n ∷ ns) f =
    pick-cases (λ b. b ≡ true) (among n ns) false (distinct ns)
    (λ e. let r = among-at n ns e in absurd (f zero (suc r.0) (omega arith) (omega arith) r.2))
    (λ e. apart_distinct ns (λ i j h l. f (suc i) (suc j) (omega arith) (omega arith)))
