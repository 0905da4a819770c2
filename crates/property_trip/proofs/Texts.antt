-- What is read of numbers and of strings that stand in a block one after the other.
use mathlib.Core.Path.{◌≡◌, refl, ap, ◌∙◌}
use mathlib.Core.List.{List, [], ◌∷◌, map, flat_map}
use Prim.Native.Nat.{ℕ, ◌+◌, ◌-◌}
use native.Mathlib.Omega.{arith}
use lib.ListN.{length, length-append}
use Rattle.buffer.specs.Put.{bytes32}
use Rattle.name_places.proofs.Stored.{Clean, name-reads}
use Rattle.rebuild.proofs.Blocks.{Holds, holds-first, holds-second, part_held, word_held, name-held}
use Rattle.type_texts.specs.Types.{with_nul}
use Rattle.property_texts.specs.Texts.{length_at, text_at, past_text, texts, past_texts}
use Rattle.property_texts.proofs.Texts.{past-in}
use Rattle.property_reader.specs.Reader.{numbers}

-- a string with its NUL
module _ (s : List ℕ) (at : ℕ) (text : List ℕ) (clean : Clean text) (h : Holds s at (with_nul text)) where
  ended-long : length (with_nul text) ≡ length text + 1
  ended-long = length-append text (0 ∷ [])

  length-read : length_at s at ≡ length text
  unfolding length_at
  length-read = name-reads (length s - at) text s at clean (omega (arith, h.fits, ended-long)) (name-held s at text h)

  text-read : text_at s at ≡ text
  text-read = rw length-read (part_held s at text (holds-first s at text (0 ∷ []) h))

  past-read : past_text s at ≡ at + length (with_nul text)
  past-read = past-in s at (omega (arith, h.fits)) ∙ rw length-read (omega (arith, ended-long))

module _ {A : Type 0} where
  -- what holds of each
  abbrev pub AllOf : (A → Type 0) → List A → Type 0
  AllOf P [] = Unit
  AllOf P (x ∷ xs) = P x × AllOf P xs

  pub numbers-read : (g : A → ℕ) (s : List ℕ) (xs : List A) (at : ℕ) → Holds s at (flat_map (λ x. bytes32 (g x)) xs) → numbers (length xs) s at ≡ map g xs
  unfolding numbers flat_map
  numbers-read g s [] at h = refl
  numbers-read g s (x ∷ xs) at h =
      let rest = flat_map (λ y. bytes32 (g y)) xs in
      rw (word_held s at (g x) (holds-first s at (bytes32 (g x)) rest h), numbers-read g s xs (at + 4) (holds-second s at (bytes32 (g x)) rest h))

  module _ (g : A → List ℕ) (s : List ℕ) where
    pub texts-read : (xs : List A) (at : ℕ) → AllOf (λ x. Clean (g x)) xs → Holds s at (flat_map (λ x. with_nul (g x)) xs) → texts (length xs) s at ≡ map g xs
    unfolding texts flat_map
    texts-read [] at c h = refl
    texts-read (x ∷ xs) at c h =
        let rest = flat_map (λ y. with_nul (g y)) xs in
        let here = holds-first s at (with_nul (g x)) rest h in
        rw (text-read s at (g x) c.0 here, past-read s at (g x) c.0 here, texts-read xs (at + length (with_nul (g x))) c.1 (holds-second s at (with_nul (g x)) rest h))

    pub texts-past : (xs : List A) (at : ℕ) → AllOf (λ x. Clean (g x)) xs → Holds s at (flat_map (λ x. with_nul (g x)) xs) → past_texts (length xs) s at ≡ at + length (flat_map (λ x. with_nul (g x)) xs)
    unfolding past_texts flat_map
    texts-past [] at c h = omega arith
    texts-past (x ∷ xs) at c h =
        let rest = flat_map (λ y. with_nul (g y)) xs in
        let here = holds-first s at (with_nul (g x)) rest h in
        ap (past_texts (length xs) s) (past-read s at (g x) c.0 here)
        ∙ texts-past xs (at + length (with_nul (g x))) c.1 (holds-second s at (with_nul (g x)) rest h)
        ∙ omega (arith, length-append (with_nul (g x)) rest)
