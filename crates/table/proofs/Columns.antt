-- Searches in a column, and in the rows whose words it holds.
use Prim.Native.Nat.{ℕ, zero, suc, ◌+◌, ◌≤◌}
use mathlib.Core.Path.{◌≡◌, refl, ap, sym, ◌∙◌}
use mathlib.Core.Bool.{Bool, true, false, ◌||◌, false≢true}
use mathlib.Core.List.{List, [], ◌∷◌, ◌++◌}
use native.Mathlib.Omega.{arith}
use borrow.Author.Tests.{ltb-false}
use lib.Dec.{eqb, ltb}
use lib.ListN.{length, drop}
use lib.Seq.{drop-cons, drop-drop, drop-append_seam}
use Rattle.std.specs.List.{list_any, position_or_len, position as position_std}
use Rattle.std.proofs.Common.{cond, Some, None}
use Rattle.std.specs.Option.{unwrap_or}
use Rattle.std.proofs.lemmas.List.Recursion.{is_position_or_len}
use Rattle.words.specs.Pick.{pick}
use Rattle.words.specs.Bytes.{part}
use Rattle.table.specs.Layout.{connector_at, row_cell}
use Rattle.table.specs.Model.{rows, position, has_index}

-- past a run in which none passes
pub position-past : (p : ℕ → Bool) (xs ys : List ℕ) → list_any p xs ≡ false → position p (xs ++ ys) ≡ length xs + position p ys
unfolding position pick
position-past p [] ys h = sym (omega arith)
position-past p (x ∷ xs) ys h = go (p x) h (position-past p xs ys)
  where
    go : (b : Bool) → (b || list_any p xs) ≡ false → (list_any p xs ≡ false → position p (xs ++ ys) ≡ length xs + position p ys) → pick b 0 (suc (position p (xs ++ ys))) ≡ suc (length xs) + position p ys
    go true e f = absurd (false≢true (sym e))
    go false e f = omega (arith, f e)

-- what is left past a run is what is left of the whole past it
pub rest-past : (n : ℕ) (l xs ys : List ℕ) → xs ++ ys ≡ drop n l → ys ≡ drop (n + length xs) l
rest-past n l xs ys e = sym (drop-append_seam xs ys) ∙ ap (drop (length xs)) e ∙ drop-drop (length xs) n l

-- the first place that passes, or the length
pub position-or : (p : ℕ → Bool) (xs : List ℕ) → (unwrap_or (position_std p xs) (length xs) ≡ position p xs) × (position p xs ≤ length xs)
unfolding position pick
position-or p xs = (rw (← same xs) (or-end (position p xs) (length xs) (ltb (position p xs) (length xs)) refl (inside xs)), inside xs)
  where
    step : (b : Bool) (n : ℕ) → pick b 0 (suc n) ≡ cond b 0 (1 + n)
    step true n = refl
    step false n = omega arith

    same : (ys : List ℕ) → position p ys ≡ position_or_len p ys
    same = is_position_or_len (position p) p refl (λ y ys. step (p y) (position p ys))

    at-most : (b : Bool) (m n : ℕ) → m ≤ n → pick b 0 (suc m) ≤ suc n
    at-most true m n h = omega arith
    at-most false m n h = omega arith

    inside : (ys : List ℕ) → position p ys ≤ length ys
    inside [] = omega arith
    inside (y ∷ ys) = at-most (p y) (position p ys) (length ys) (inside ys)

    or-end : (m n : ℕ) (b : Bool) → ltb m n ≡ b → m ≤ n → unwrap_or (cond b (Some m) None) n ≡ m
    or-end m n true e h = refl
    or-end m n false e h = omega (arith, ltb-false m n e)

-- the indexes of n rows from row i on are a part of their column
pub position-column : (t : List ℕ) (w i n : ℕ) → row_cell 0 i + n ≤ length t → position (λ k. eqb k w) (part t (row_cell 0 i) n) ≡ position (has_index w) (rows (connector_at t) i n)
unfolding position part rows connector_at
position-column t w i zero h = refl
position-column t w i (suc n) h =
    let next : suc (row_cell 0 i) ≡ row_cell 0 (suc i) = omega arith in
    rw (drop-cons t (row_cell 0 i) 0 (omega arith), next, position-column t w (suc i) n (omega arith))
