-- Laws of the entries.
use mathlib.Core.Path.{◌≡◌, refl, sym, ◌∙◌}
use mathlib.Core.Bool.{Bool, true, false}
use mathlib.Core.List.{List, [], ◌∷◌, ◌++◌, append_assoc}
use Prim.Native.Nat.{ℕ, ◌+◌, ◌-◌, ◌≤◌}
use native.Mathlib.Omega.{arith}
use lib.ListN.{length, set, length-append}
use lib.Dec.{eqb}
use borrow.Author.Tests.{ne_eqb}
use Rattle.words.specs.Pick.{pick}
use Rattle.buffer.specs.Put.{put}
use Rattle.buffer.proofs.Put.{sets-append, put_in, put-append, put-long}
use Rattle.decimal.specs.Decimal.{digits}
use Rattle.decimal.proofs.Digits.{count-nine}
use Rattle.kinds.specs.Kinds.{slot}
use Rattle.type_texts.specs.Types.{type_text}
use Rattle.type_texts.proofs.Types.{text-unknown}
use Rattle.property_entries.specs.declared.ArrayProperty.TheVariants.{Names}
use Rattle.property_entries.specs.Entries.{low_bits, name_of, entry, prefix_of}

-- a name is what stands before the decimal, and the decimal
pub name-parts : (kind k : ℕ) → name_of kind k ≡ prefix_of kind ++ digits (low_bits k)
unfolding name_of prefix_of pick
name-parts kind k = test (eqb kind slot) refl
  where
    test : (b : Bool) → eqb kind slot ≡ b → pick b (67 ∷ digits (low_bits k)) (type_text kind ++ (32 ∷ digits (low_bits k))) ≡ pick b (67 ∷ []) (type_text kind ++ (32 ∷ [])) ++ digits (low_bits k)
    test true e = refl
    test false e = sym (append_assoc (type_text kind) (32 ∷ []) (digits (low_bits k)))

pub name-length : (kind k : ℕ) → length (entry Names kind k) ≡ length (prefix_of kind) + length (digits (low_bits k)) + 1
unfolding entry
name-length kind k = rw (name-parts kind k) (simp length-append refl)

-- the place of each part of a name, for `put_name_here`
pub ruleset name_steps = (name-length, put-long)

-- what stands before the decimal, of a number that is no kind
pub prefix-unknown : (kind : ℕ) → (kind ≡ 1 → ⊥) → (kind ≡ 2 → ⊥) → (kind ≡ 3 → ⊥) → (kind ≡ 8 → ⊥) → prefix_of kind ≡ 32 ∷ []
unfolding prefix_of pick
prefix-unknown kind a b c d = rw (ne_eqb kind slot c, text-unknown kind a b c d)

-- a NUL behind bytes that were put
pub put-nul : (d : List ℕ) (at : ℕ) (bs : List ℕ) → length bs + 1 ≤ length d - at → set (put d at bs) (at + length bs) 0 ≡ put d at (bs ++ (0 ∷ []))
put-nul d at bs h = rw (put_in d at bs (omega arith)) (sym (put_in d at (bs ++ (0 ∷ [])) (omega (arith, length-append bs (0 ∷ []))) ∙ sets-append d at bs (0 ∷ [])))

-- the three parts of a name, one after the other
pub name-put : (d : List ℕ) (at kind k : ℕ) → length (entry Names kind k) ≤ length d - at → set (put (put d at (prefix_of kind)) (at + length (prefix_of kind)) (digits (low_bits k))) (at + length (prefix_of kind) + length (digits (low_bits k))) 0 ≡ put d at (entry Names kind k)
unfolding entry
name-put d at kind k h =
    let p = prefix_of kind in
    let ds = digits (low_bits k) in
    let n = name-length kind k in
    let e : at + length p + length ds ≡ at + length (p ++ ds) = omega (arith, length-append p ds) in
    rw (name-parts kind k, put-append d at p ds (omega arith), e) (put-nul d at (p ++ ds) (omega (arith, length-append p ds)))

-- no entry is longer than 16 bytes
pub name-short : (kind k : ℕ) → length (prefix_of kind) ≤ 4 → length (entry Names kind k) ≤ 16
name-short kind k h = omega (arith, name-length kind k, count-nine (low_bits k) (omega arith))
