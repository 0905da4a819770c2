-- Laws of the texts: where a text can be a kind's, and that a known kind is that of its text.
use Rattle.std.specs.Prelude.{Some}
use mathlib.Core.Path.{◌≡◌, refl, sym, ◌∙◌}
use mathlib.Core.Bool.{Bool, true, false, false≢true, ◌&&◌}
use mathlib.Core.List.{List, [], ◌∷◌}
use Prim.Native.Nat.{ℕ, ◌+◌, ◌<◌, min}
use native.Mathlib.Omega.{arith}
use lib.ListN.{length, take, drop}
use lib.Pointwise.{pointwise}
use Rattle.std.specs.List.{slice_range}
use lib.Dec.{eqb}
use borrow.Author.Tests.{eqb-true, ne_eqb}
use Rattle.words.specs.Pick.{pick, any}
use Rattle.words.specs.Bytes.{part}
use Rattle.buffer.proofs.Put.{part_none, part-least}
use Rattle.std.proofs.Math.Seq.{take-length}
use Rattle.std.proofs.lemmas.List.{length-drop}
use Rattle.kinds.specs.Kinds.{known}
use Rattle.same_trees.specs.Same.{alike, same_bytes}
use Rattle.type_texts.specs.Types.{text_in, type_text, kind_in, kind_of_text}

-- the text of each kind, and of a number that is none
pub text-unknown : (kind : ℕ) → (kind ≡ 1 → ⊥) → (kind ≡ 2 → ⊥) → (kind ≡ 3 → ⊥) → (kind ≡ 8 → ⊥) → type_text kind ≡ []
unfolding text_in pick
text-unknown kind a b c d = rw (ne_eqb kind 1 a, ne_eqb kind 2 b, ne_eqb kind 3 c, ne_eqb kind 8 d)

-- what holds of each kind holds of a known one
pub by_kind : (P : ℕ → Type 0) → P 1 → P 2 → P 3 → P 8 → (kind : ℕ) → known kind ≡ true → P kind
unfolding known any pick
by_kind P a b c d kind e = at_first (eqb kind 1) refl
  where
    at_last : (x : Bool) → eqb kind 8 ≡ x → pick x true false ≡ true → P kind
    at_last true f g = rw (eqb-true kind 8 f) d
    at_last false f g = absurd (false≢true g)

    at-third : (x : Bool) → eqb kind 3 ≡ x → pick x true (pick (eqb kind 8) true false) ≡ true → P kind
    at-third true f g = rw (eqb-true kind 3 f) c
    at-third false f g = at_last (eqb kind 8) refl g

    at_second : (x : Bool) → eqb kind 2 ≡ x → pick x true (pick (eqb kind 3) true (pick (eqb kind 8) true false)) ≡ true → P kind
    at_second true f g = rw (eqb-true kind 2 f) b
    at_second false f g = at-third (eqb kind 3) refl g

    at_first : (x : Bool) → eqb kind 1 ≡ x → P kind
    at_first true f = rw (eqb-true kind 1 f) a
    at_first false f = at_second (eqb kind 2) refl (rw f at e)

-- a known kind is that of its text
pub text-back : (kind : ℕ) → known kind ≡ true → kind_of_text (type_text kind) ≡ Some kind
unfolding text_in kind_in same_bytes alike pick
text-back = by_kind (λ kind. kind_of_text (type_text kind) ≡ Some kind) refl refl refl refl

-- `==` on slices is the comparison byte by byte
pub same_pointwise : (xs ys : List ℕ) → same_bytes xs ys ≡ pointwise eqb xs ys
unfolding same_bytes alike pick
same_pointwise [] [] = refl
same_pointwise [] (y ∷ ys) = refl
same_pointwise (x ∷ xs) [] = refl
same_pointwise (x ∷ xs) (y ∷ ys) = elim (eqb x y) as (λ b. pick b (same_bytes xs ys) false ≡ (b && pointwise eqb xs ys)) [ true ↦ same_pointwise xs ys | false ↦ refl ]

-- as many bytes of the rest of a block as there are
pub part-rest : (s rest : List ℕ) (at n m : ℕ) → rest ≡ slice_range s at (length s) → m ≡ min n (length rest) → take m rest ≡ part s at n
unfolding part
part-rest s rest at n m e f =
    let whole : rest ≡ drop at s = e ∙ rw (← length-drop at s) (take-length (drop at s)) in
    rw (f, whole, length-drop at s) (part-least s at n)

-- past the end of a block no byte is left
pub part-past : (s : List ℕ) (at n : ℕ) → length s < at → part s at n ≡ []
part-past s at n h = sym (part-least s at n) ∙ part_none s at _ (omega arith)

-- three bytes of a block, and four
module _ (s : List ℕ) (at : ℕ) where
  pub two-on : at + 1 + 1 ≡ at + 2
  two-on = omega arith

  pub three-on : at + 2 + 1 ≡ at + 3
  three-on = omega arith
