-- Laws of the tests of a section, as the code makes them.
use mathlib.Core.Path.{◌≡◌, refl, ap, sym, subst, ◌∙◌}
use mathlib.Core.Bool.{true, false, not, false≢true}
use mathlib.Core.List.{List, [], ◌∷◌}
use mathlib.Core.Logic.{◌≢◌, ◌⊎◌, inl, inr}
use Rattle.std.specs.Prelude.{Ok, Err, is_ok}
use Prim.Native.Nat.{ℕ, ◌<◌, ◌≤◌}
use native.Mathlib.Omega.{arith}
use lib.Dec.{eqb, leb}
use borrow.Author.Tests.{leb-true, eq-eqb, ne_eqb, eqb-true, not-false}
use Rattle.words.specs.Pick.{pick, every, any}
use Rattle.words.specs.First.{first_of}
use Rattle.words.proofs.First.{Passed, first-passed, passed_first}
use Rattle.words.proofs.Pick.{pick_yes, pick_no, pick_same, pick-either, every-each}
use Rattle.hotplug.specs.declared.Format.{Format}
use Rattle.hotplug.specs.declared.Format.TheVariants.{Legacy, Modern}
use Rattle.hotplug.specs.declared.SectionFacts.{SectionFacts}
use Rattle.hotplug.specs.declared.SectionFault.TheVariants.{WrongLength}
use Rattle.hotplug.specs.Sections.{section_bytes, identifiers, legacy_of_twenty, outside, wrong_length, lacks, tests, fault_of}

pub other-borrowed : (f : Format) (borrowed stated : ℕ) → borrowed ≢ section_bytes f → true ≡ wrong_length f borrowed stated
unfolding every pick
other-borrowed f borrowed stated n = rw (ne_eqb _ _ n)

pub same-borrowed : (f : Format) (borrowed stated n : ℕ) → n ≡ section_bytes f → borrowed ≡ n → not (eqb stated n) ≡ wrong_length f borrowed stated
unfolding every pick
same-borrowed f borrowed stated n e h = rw (e, eq-eqb _ _ (h ∙ e)) (ap not (sym (pick_same (eqb stated (section_bytes f)))))

-- ---- where nothing is refused

pub all-passed : (f : Format) (l : SectionFacts) → fault_of f l ≡ Ok tt → Passed (tests f l)
unfolding fault_of
all-passed f l e = first-passed is_ok (tests f l) (Ok tt) (refl, (refl, (refl, (refl, (refl, (refl, (refl, (refl, (refl, (refl, tt)))))))))) (ap is_ok e)

pub no-fault : (f : Format) (l : SectionFacts) → Passed (tests f l) → fault_of f l ≡ Ok tt
unfolding fault_of
no-fault f l ps = passed_first (tests f l) (Ok tt) ps

-- ---- what passes

pub section-short : (f : Format) → (16 ≤ section_bytes f) × (section_bytes f ≤ 20)
section-short Legacy = (omega arith, omega arith)
section-short Modern = (omega arith, omega arith)

pub within : (first last n : ℕ) → outside first last n ≡ false → (first ≤ n) × (n ≤ last)
within first last n e =
    let t = every-each (leb first n ∷ leb n last ∷ []) (not-false _ e) in
    (leb-true first n t.0, leb-true n last t.1.0)

pub lengths-right : (f : Format) (borrowed stated : ℕ) → wrong_length f borrowed stated ≡ false → (borrowed ≡ section_bytes f) × (stated ≡ section_bytes f)
lengths-right f borrowed stated e =
    let t = every-each (eqb borrowed (section_bytes f) ∷ eqb stated (section_bytes f) ∷ []) (not-false _ e) in
    (eqb-true borrowed (section_bytes f) t.0, eqb-true stated (section_bytes f) t.1.0)

-- what holds of each number of a list
abbrev pub Holding : (ℕ → Type 0) → List ℕ → Type 0
Holding P [] = Unit
Holding P (k ∷ ks) = P k × Holding P ks

-- holds of a number in it
in_list : (P : ℕ → Type 0) (n : ℕ) (ks : List ℕ) → any (eqb n) ks ≡ true → Holding P ks → P n
unfolding any
in_list P n [] e h = absurd (false≢true e)
in_list P n (k ∷ ks) e h = here (pick-either (eqb n k) true (any (eqb n) ks) e) (λ t. in_list P n ks t h.1)
  where
    here : ((eqb n k ≡ true) × (true ≡ true)) ⊎ ((eqb n k ≡ false) × (any (eqb n) ks ≡ true)) → (any (eqb n) ks ≡ true → P n) → P n
    here (inl t) later = subst P (sym (eqb-true n k t.0)) h.0
    here (inr t) later = later t.1

pub each-identifier : (P : ℕ → Type 0) (f : Format) (n : ℕ) → lacks f n ≡ false → Holding P (identifiers f) → P n
each-identifier P f n e h = in_list P n (identifiers f) (not-false _ e) h

pub small-identifier : (f : Format) (n : ℕ) → lacks f n ≡ false → n < 256
small-identifier f n e = each-identifier (λ k. k < 256) f n e (small f)
  where
    small : (f : Format) → Holding (λ k. k < 256) (identifiers f)
    small Legacy = (omega arith, (omega arith, tt))
    small Modern = (omega arith, (omega arith, (omega arith, tt)))

-- a length under both is wrong, whatever else is
pub too_short : (f : Format) (l : SectionFacts) → l.borrowed < 16 → fault_of f l ≡ Err WrongLength
unfolding fault_of first_of every pick
too_short f l h = pick_no _ _ _ (fewer f) ∙ pick_yes _ _ _ (sym (other-borrowed f l.borrowed l.stated (λ e. omega (arith, (section-short f).0))))
  where
    fewer : (f : Format) → legacy_of_twenty f l.borrowed ≡ false
    fewer Legacy = rw (ne_eqb l.borrowed 20 (λ e. omega arith))
    fewer Modern = refl
