-- The types of connectors as a partition is told them: for each kind a text.
use Rattle.std.specs.Prelude.{ℕ, List, [], ◌∷◌, ◌++◌, eqb, Option, Some, None}
use Rattle.words.specs.Pick.{pick}
use Rattle.kinds.specs.Kinds.{cpu, phb, slot, mem}
use Rattle.same_trees.specs.Same.{same_bytes}

-- the kinds with their texts: CPU, PHB, SLOT, MEM
abbrev pub type_texts : List (ℕ × List ℕ)
type_texts = (cpu, 67 ∷ 80 ∷ 85 ∷ []) ∷ (phb, 80 ∷ 72 ∷ 66 ∷ []) ∷ (slot, 83 ∷ 76 ∷ 79 ∷ 84 ∷ []) ∷ (mem, 77 ∷ 69 ∷ 77 ∷ []) ∷ []

unfoldable pub text_in : List (ℕ × List ℕ) → ℕ → List ℕ
text_in [] kind = []
text_in (p ∷ ps) kind = pick (eqb kind p.0) p.1 (text_in ps kind)

-- the text of a kind; empty where the kind is unknown
abbrev pub type_text : ℕ → List ℕ
type_text kind = text_in type_texts kind

unfoldable pub kind_in : List (ℕ × List ℕ) → List ℕ → Option ℕ
kind_in [] text = None
kind_in (p ∷ ps) text = pick (same_bytes text p.1) (Some p.0) (kind_in ps text)

-- the kind whose text this is, if it is one's
abbrev pub kind_of_text : List ℕ → Option ℕ
kind_of_text text = kind_in type_texts text

-- a string ends in a NUL
abbrev pub with_nul : List ℕ → List ℕ
with_nul text = text ++ (0 ∷ [])
