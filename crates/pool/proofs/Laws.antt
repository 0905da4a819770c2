-- The pool's two answers agree: the number is 0 exactly where the count is, and a number names a free resource of the kind, the first one.
use Prim.Native.Nat.{ℕ, zero, suc, ◌+◌, ◌≤◌, ◌<◌}
use mathlib.Core.Path.{◌≡◌, refl}
use mathlib.Core.Logic.{◌≢◌, ◌↔◌}
use mathlib.Core.List.{List, [], ◌∷◌}
use mathlib.Core.Bool.{Bool, true, false}
use native.Mathlib.Omega.{arith}
use borrow.Author.Tests.{eqb-true}
use lib.Dec.{eqb}
use lib.ListN.{get_or, length}
use Rattle.words.specs.Pick.{pick}
use Rattle.words.proofs.Pick.{every-each}
use Rattle.table.specs.Layout.{Line}
use Rattle.table.specs.Model.{blank_line}
use Rattle.kinds.specs.Kinds.{known}
use Rattle.pool.specs.Pool.{bit_of, how_many, number_from, is_free, free_count, free_lowest, FirstFree}

module _ {A : Type 0} (p : A → Bool) where
  number-none : (n : ℕ) (xs : List A) → 0 < n → number_from p n xs ≡ 0 → how_many p xs ≡ 0
  unfolding number_from how_many pick
  number-none n [] h e = refl
  number-none n (x ∷ xs) h e = go (p x) (number_from p (suc n) xs) (how_many p xs) (number-none (suc n) xs (omega arith)) e
    where
      go : (b : Bool) (l k : ℕ) → (l ≡ 0 → k ≡ 0) → pick b n l ≡ 0 → bit_of b + k ≡ 0
      go true l k f e = absurd (omega arith)
      go false l k f e = omega (arith, f e)

  count_none : (n : ℕ) (xs : List A) → how_many p xs ≡ 0 → number_from p n xs ≡ 0
  unfolding number_from how_many pick
  count_none n [] e = refl
  count_none n (x ∷ xs) e = go (p x) (number_from p (suc n) xs) (how_many p xs) (count_none (suc n) xs) e
    where
      go : (b : Bool) (l k : ℕ) → (k ≡ 0 → l ≡ 0) → bit_of b + k ≡ 0 → pick b n l ≡ 0
      go true l k f e = absurd (omega arith)
      go false l k f e = f (omega arith)

  -- a number is not below the one that the numbering starts with
  number-least : (n : ℕ) (xs : List A) → number_from p n xs ≢ 0 → n ≤ number_from p n xs
  unfolding number_from pick
  number-least n [] ne = absurd (ne refl)
  number-least n (x ∷ xs) ne = go (p x) (number_from p (suc n) xs) (number-least (suc n) xs) ne
    where
      go : (b : Bool) (l : ℕ) → (l ≢ 0 → suc n ≤ l) → pick b n l ≢ 0 → n ≤ pick b n l
      go true l f ne = omega arith
      go false l f ne = omega (arith, f ne)

  -- the number n + k is that of the first that passes, at k
  Names : A → List A → ℕ → Type 0
  Names d xs k = (k < length xs) × (p (get_or xs k d) ≡ true) × ((i : ℕ) → i < k → p (get_or xs i d) ≡ false)

  names : (d : A) (n : ℕ) (xs : List A) (k : ℕ) → 0 < n → number_from p n xs ≡ n + k → Names d xs k
  unfolding number_from pick Names
  names d n [] k h e = absurd (omega arith)
  names d n (x ∷ xs) k h e = go (p x) refl k e (names d (suc n) xs) (number-least (suc n) xs)
    where
      go : (b : Bool) → p x ≡ b → (k : ℕ) → pick b n (number_from p (suc n) xs) ≡ n + k → ((k : ℕ) → 0 < suc n → number_from p (suc n) xs ≡ suc n + k → Names d xs k) → (number_from p (suc n) xs ≢ 0 → suc n ≤ number_from p (suc n) xs) → Names d (x ∷ xs) k
      go true q zero e f g = (omega arith, q, (λ i h. absurd (omega arith)))
      go true q (suc k) e f g = absurd (omega arith)
      go false q zero e f g = absurd (omega (arith, g (λ z. omega arith)))
      go false q (suc k) e f g =
          let r = f k (omega arith) (omega arith) in
          (omega (arith, r.0), r.1, below r.2)
        where
          below : ((i : ℕ) → i < k → p (get_or xs i d) ≡ false) → (i : ℕ) → i < suc k → p (get_or (x ∷ xs) i d) ≡ false
          below r zero h = q
          below r (suc i) h = r i (omega arith)

pub free-none : (kind : ℕ) (ls : List Line) → (free_lowest kind ls ≡ 0) ↔ (free_count kind ls ≡ 0)
unfolding free_lowest free_count pick
free-none kind ls = go (known kind)
  where
    go : (b : Bool) → (pick b (number_from (is_free kind) 1 ls) 0 ≡ 0) ↔ (pick b (how_many (is_free kind) ls) 0 ≡ 0)
    go true = (number-none (is_free kind) 1 ls (omega arith), count_none (is_free kind) 1 ls)
    go false = ((λ e. refl), (λ e. refl))

pub free-first : (kind : ℕ) (ls : List Line) (j : ℕ) → free_lowest kind ls ≡ j + 1 → FirstFree kind ls j
unfolding free_lowest pick Names
free-first kind ls j e = go (known kind) e
  where
    go : (b : Bool) → pick b (number_from (is_free kind) 1 ls) 0 ≡ j + 1 → FirstFree kind ls j
    go true e =
        let r = names (is_free kind) blank_line 1 ls j (omega arith) (omega arith) in
        let f = every-each (eqb (get_or ls j blank_line).kind kind ∷ eqb (get_or ls j blank_line).at 0 ∷ []) r.1 in
        record { there = r.0; alike = eqb-true _ _ f.0; pooled = eqb-true _ _ f.1.0; first = r.2 }
    go false e = absurd (omega arith)
