-- A name of sixteen bytes compared as two numbers of eight, and what names a connector by its length.
use mathlib.Core.Path.{◌≡◌, refl, ap, sym, ◌∙◌}
use mathlib.Core.List.{List, [], ◌∷◌, ◌++◌}
use mathlib.Core.Bool.{Bool, true, false}
use Prim.Native.Nat.{ℕ, zero, suc, ◌+◌, ◌-◌, ◌*◌, ◌<◌, ◌≤◌}
use native.Mathlib.Omega.{arith}
use native.Mathlib.Nat.{add_assoc}
use native.Mathlib.Numerals.{sub-one}
use lib.ListN.{length, get_or, drop}
use lib.Seq.{take-add, drop-drop}
use lib.Dec.{eqb}
use borrow.Author.Rules.{rules}
use borrow.Author.Tests.{eq-eqb, ne_eqb, eqb-true, eqb-false}
use Rattle.words.specs.Pick.{pick, every}
use Rattle.words.specs.Bytes.{part, eight_here}
use Rattle.words.proofs.Pick.{pick_same}
use Rattle.buffer.proofs.Put.{part-cons, part_none, length_part}
use Rattle.devtree.specs.Names.{same_name}
use Rattle.devtree.proofs.Names.{same-equal}
use Rattle.sent.specs.Sent.{my_drc_index, names_connector}

-- ---- bytes as a number

-- each is a byte
abbrev Small : List ℕ → Type 0
Small [] = Unit
Small (x ∷ xs) = (x < 256) × Small xs

-- the number of the bytes, the first lowest
unfoldable number : List ℕ → ℕ
number [] = 0
number (x ∷ xs) = number xs * 256 + x

-- as many bytes are the same exactly where their numbers are
same_number : (xs ys : List ℕ) → length xs ≡ length ys → Small xs → Small ys → same_name xs ys ≡ eqb (number xs) (number ys)
unfolding same_name number pick
same_number [] [] l b b' = refl
same_number [] (y ∷ ys) l b b' = absurd (omega arith)
same_number (x ∷ xs) [] l b b' = absurd (omega arith)
same_number (x ∷ xs) (y ∷ ys) l b b' = rw (same_number xs ys (omega arith) b.1 b'.1) (go (eqb x y) (eqb (number xs) (number ys)) refl refl)
  where
    go : (e f : Bool) → eqb x y ≡ e → eqb (number xs) (number ys) ≡ f → pick e f false ≡ eqb (number xs * 256 + x) (number ys * 256 + y)
    go true true p q = sym (eq-eqb (number xs * 256 + x) (number ys * 256 + y) (omega (arith, eqb-true x y p, eqb-true (number xs) (number ys) q)))
    go true false p q = sym (ne_eqb (number xs * 256 + x) (number ys * 256 + y) (λ z. eqb-false (number xs) (number ys) q (omega arith)))
    go false f p q = sym (ne_eqb (number xs * 256 + x) (number ys * 256 + y) (λ z. eqb-false x y p (omega arith)))

-- two names in two parts each
same_parts : (xs ys xs' ys' : List ℕ) → length xs ≡ length ys → same_name (xs ++ xs') (ys ++ ys') ≡ pick (same_name xs ys) (same_name xs' ys') false
unfolding same_name pick
same_parts [] [] xs' ys' l = refl
same_parts [] (y ∷ ys) xs' ys' l = absurd (omega arith)
same_parts (x ∷ xs) [] xs' ys' l = absurd (omega arith)
same_parts (x ∷ xs) (y ∷ ys) xs' ys' l = rw (same_parts xs ys xs' ys' (omega arith)) (go (eqb x y))
  where
    go : (e : Bool) → pick e (pick (same_name xs ys) (same_name xs' ys') false) false ≡ pick (pick e (same_name xs ys) false) (same_name xs' ys') false
    go true = refl
    go false = refl

-- ---- the parts of a block

-- the two halves of the name
abbrev ibm_my_d : List ℕ
ibm_my_d = 105 ∷ 98 ∷ 109 ∷ 44 ∷ 109 ∷ 121 ∷ 45 ∷ 100 ∷ []

abbrev rc_index : List ℕ
rc_index = 114 ∷ 99 ∷ 45 ∷ 105 ∷ 110 ∷ 100 ∷ 101 ∷ 120 ∷ []

part-halves : (s : List ℕ) (at : ℕ) → part s at 16 ≡ part s at 8 ++ part s (at + 8) 8
unfolding part
part-halves s at = rw (← drop-drop 8 at s) (take-add 8 8 (drop at s))

module _ (s : List ℕ) (bytes : (i : ℕ) → get_or s i 0 < 256) where
  part_small : (k at : ℕ) → k ≤ length s - at → Small (part s at k)
  part_small zero at h = rw (part_none s at 0 (omega arith)) tt
  part_small (suc k) at h = rw (part-cons s at (suc k) (omega arith) (omega arith), sub-one) (bytes at, part_small k (at + 1) (omega arith))

  -- eight bytes, as the code puts them together
  eight-number : (at : ℕ) → 8 ≤ length s - at → eight_here s at ≡ number (part s at 8)
  unfolding number
  eight-number at h =
      rw (
        part-cons s at 8 (omega arith) (omega arith),
        part-cons s (at + 1) 7 (omega arith) (omega arith),
        part-cons s (at + 1 + 1) 6 (omega arith) (omega arith),
        part-cons s (at + 1 + 1 + 1) 5 (omega arith) (omega arith),
        part-cons s (at + 1 + 1 + 1 + 1) 4 (omega arith) (omega arith),
        part-cons s (at + 1 + 1 + 1 + 1 + 1) 3 (omega arith) (omega arith),
        part-cons s (at + 1 + 1 + 1 + 1 + 1 + 1) 2 (omega arith) (omega arith),
        part-cons s (at + 1 + 1 + 1 + 1 + 1 + 1 + 1) 1 (omega arith) (omega arith),
        part_none s (at + 1 + 1 + 1 + 1 + 1 + 1 + 1 + 1) 0 (omega arith),
      ) (simp add_assoc (omega arith))

  -- the name is compared as two numbers
  pub name-test : (at : ℕ) → 16 ≤ length s - at → same_name (part s at 16) my_drc_index ≡ pick (eqb (eight_here s at) 7218559287548535401) (eqb (eight_here s (at + 8)) 8675450682572890994) false
  unfolding number
  name-test at h =
      rw (part-halves s at, eight-number at (omega arith), eight-number (at + 8) (omega arith))
      (same_parts (part s at 8) ibm_my_d (part s (at + 8) 8) rc_index (length_part s at 8 (omega arith))
      ∙ rw (
        same_number (part s at 8) ibm_my_d (length_part s at 8 (omega arith)) (part_small 8 at (omega arith)) (search rules),
        same_number (part s (at + 8) 8) rc_index (length_part s (at + 8) 8 (omega arith)) (part_small 8 (at + 8) (omega arith)) (search rules),
      ))

-- ---- what names a connector

pub other-size : (name : List ℕ) (size : ℕ) → (size ≡ 4 → ⊥) → names_connector name size ≡ false
unfolding names_connector every pick
other-size name size ne = rw (ne_eqb size 4 ne) (go (same_name name my_drc_index))
  where
    go : (b : Bool) → pick b false false ≡ false
    go true = refl
    go false = refl

pub other_length : (name : List ℕ) (size : ℕ) → (length name ≡ 16 → ⊥) → names_connector name size ≡ false
unfolding names_connector every pick
other_length name size ne = go (same_name name my_drc_index) refl
  where
    go : (b : Bool) → same_name name my_drc_index ≡ b → pick b (pick (eqb size 4) true false) false ≡ false
    go true e = absurd (ne (ap length (same-equal name my_drc_index e)))
    go false e = refl

pub by_name : (name : List ℕ) (size : ℕ) → size ≡ 4 → names_connector name size ≡ same_name name my_drc_index
unfolding names_connector every pick
by_name name size e = rw (eq-eqb size 4 e) (pick_same (same_name name my_drc_index))
