-- Laws of lists of names, and of `same_name`, `among` and `distinct`.
use mathlib.Core.Path.{◌≡◌, refl, sym, ◌∙◌}
use mathlib.Core.Bool.{Bool, true, false, false≢true}
use mathlib.Core.List.{List, [], ◌∷◌, ◌++◌}
use Prim.Native.Nat.{ℕ, zero, suc, ◌+◌, ◌<◌, ◌≤◌}
use native.Mathlib.Omega.{arith}
use native.Mathlib.Nat.{zero-add, add-zero, suc-add}
use lib.ListN.{length, get_or, set}
use lib.Seq.{append_snoc, get_or-set_same, get_or-set_other}
use lib.Dec.{eqb}
use borrow.Author.Tests.{eqb-true, eqb-false}
use Rattle.words.specs.Pick.{pick}
use Rattle.words.proofs.Pick.{pick_yes, pick-cases}
use Rattle.devtree.specs.Names.{same_name, among, distinct}
use Rattle.devtree.proofs.Names.{same-equal, same_self}
use Rattle.name_order.specs.Order.{name_at, listed, Copied}

-- a list is the same for offsets that are the same, wherever they stand
pub listed-moved : (b xs ys : List ℕ) (base from k : ℕ) → ((i : ℕ) → i < k → get_or ys (from + i) 0 ≡ get_or xs (base + i) 0) → listed b ys from k ≡ listed b xs base k
unfolding listed
listed-moved b xs ys base from zero e = refl
listed-moved b xs ys base from (suc k) e =
    let first : get_or ys from 0 ≡ get_or xs base 0 = rw (add-zero from, add-zero base) at (e 0 (omega arith)) in
    let on : (n i : ℕ) → n + 1 + i ≡ n + (i + 1) = λ n i. omega arith in
    let rest = listed-moved b xs ys (base + 1) (from + 1) k (λ i h. rw (on from i, on base i) (e (i + 1) (omega arith))) in
    rw (first, rest)

pub listed-copied : (b xs ys : List ℕ) (base k : ℕ) → Copied base k xs ys → listed b ys 0 k ≡ listed b xs base k
listed-copied b xs ys base k e = listed-moved b xs ys base 0 k (λ i h. rw zero-add (e i h))

pub listed_same : (b xs ys : List ℕ) (base k : ℕ) → ((i : ℕ) → base ≤ i → i < base + k → get_or ys i 0 ≡ get_or xs i 0) → listed b ys base k ≡ listed b xs base k
listed_same b xs ys base k e = listed-moved b xs ys base base k (λ i h. e (base + i) (omega arith) (omega arith))

-- one element more is copied
pub copied_more : (base i : ℕ) (xs ys : List ℕ) → i < length ys → Copied base i xs ys → Copied base (i + 1) xs (set ys i (get_or xs (base + i) 0))
copied_more base i xs ys h e p l = go (eqb p i) refl
  where
    go : (t : Bool) → eqb p i ≡ t → get_or (set ys i (get_or xs (base + i) 0)) p 0 ≡ get_or xs (base + p) 0
    go true f = rw (eqb-true p i f) (get_or-set_same ys i (get_or xs (base + i) 0) 0 h)
    go false f = rw (get_or-set_other ys i p (get_or xs (base + i) 0) 0 (eqb-false p i f)) (e p (omega (arith, eqb-false p i f)))

-- one name more at the end of a list
pub listed-snoc : (b xs : List ℕ) (base k : ℕ) → listed b xs base (k + 1) ≡ listed b xs base k ++ (name_at b (get_or xs (base + k) 0) ∷ [])
unfolding listed
listed-snoc b xs base zero = rw add-zero
listed-snoc b xs base (suc k) =
    let on : base + suc k ≡ base + 1 + k = omega arith in
    rw (suc-add k 1, on, listed-snoc b xs (base + 1) k)

pub among-append : (n : List ℕ) (xs ys : List (List ℕ)) → among n (xs ++ ys) ≡ pick (among n xs) true (among n ys)
unfolding among pick
among-append n [] ys = refl
among-append n (x ∷ xs) ys = go (same_name n x) (among-append n xs ys)
  where
    go : (b : Bool) → among n (xs ++ ys) ≡ pick (among n xs) true (among n ys) → pick b true (among n (xs ++ ys)) ≡ pick (pick b true (among n xs)) true (among n ys)
    go true e = refl
    go false e = e

pub equal-same : (n m : List ℕ) → n ≡ m → same_name n m ≡ true
equal-same n m e = rw e (same_self m)

pub same_truth : (t u : Bool) → (t ≡ true → u ≡ true) → (u ≡ true → t ≡ true) → t ≡ u
same_truth true u f g = sym (f refl)
same_truth false true f g = g refl
same_truth false false f g = refl

same-turned : (n m : List ℕ) → same_name n m ≡ same_name m n
same-turned n m = same_truth (same_name n m) (same_name m n) (λ e. equal-same m n (sym (same-equal n m e))) (λ e. equal-same n m (sym (same-equal m n e)))

-- two names that are the same stay so in a longer list
pub distinct-left : (xs ys : List (List ℕ)) → distinct xs ≡ false → distinct (xs ++ ys) ≡ false
unfolding distinct pick
distinct-left [] ys e = absurd (false≢true (sym e))
distinct-left (x ∷ xs) ys e = rw (among-append x xs ys) (go (among x xs) e (distinct-left xs ys))
  where
    go : (b : Bool) → pick b false (distinct xs) ≡ false → (distinct xs ≡ false → distinct (xs ++ ys) ≡ false) → pick (pick b true (among x ys)) false (distinct (xs ++ ys)) ≡ false
    go true f more = refl
    go false f more = rw (more f) (pick-cases (λ d. d ≡ false) (among x ys) false false (λ t. refl) (λ t. refl))

-- one name more: it is none of those before it, and they differ
pub distinct_snoc : (xs : List (List ℕ)) (n : List ℕ) → distinct (xs ++ (n ∷ [])) ≡ pick (among n xs) false (distinct xs)
unfolding distinct among pick
distinct_snoc [] n = refl
distinct_snoc (x ∷ xs) n = rw (among-append x xs (n ∷ []), distinct_snoc xs n, same-turned x n) (swap (among x xs) (same_name n x) (among n xs) (distinct xs))
  where
    swap : (a s m d : Bool) → pick (pick a true (pick s true false)) false (pick m false d) ≡ pick (pick s true m) false (pick a false d)
    swap true true m d = refl
    swap true false true d = refl
    swap true false false d = refl
    swap false true m d = refl
    swap false false m d = refl

pub distinct-twin : (xs ys : List (List ℕ)) (n : List ℕ) → among n xs ≡ true → distinct (xs ++ (n ∷ ys)) ≡ false
distinct-twin xs ys n e =
    let twice = distinct_snoc xs n ∙ pick_yes (among n xs) false (distinct xs) e in
    rw (← append_snoc xs n ys) (distinct-left (xs ++ (n ∷ [])) ys twice)
