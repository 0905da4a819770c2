-- Laws of `first_of`.
use Rattle.std.proofs.Common.{◌≡◌, Bool, true, false, List, [], ◌∷◌, sym, refl, ◌∙◌}
use mathlib.Core.Bool.{false≢true}
use Rattle.words.specs.Pick.{pick}
use Rattle.words.specs.First.{first_of}

-- a test made, and what comes after it
pub tested : {A : Type 0} (x : A) {b t : Bool} {r s s' : A} → r ≡ pick b x s → b ≡ t → s ≡ s' → r ≡ pick t x s'
tested x p e q = rw (← e, ← q) p

-- no test holds
abbrev pub Passed : {A : Type 0} → List (Bool × A) → Type 0
Passed [] = Unit
Passed (t ∷ ts) = (t.0 ≡ false) × Passed ts

-- each answer is none of those that a test b picks out
abbrev pub Others : {A : Type 0} → (A → Bool) → List (Bool × A) → Type 0
Others b [] = Unit
Others b (t ∷ ts) = (b t.1 ≡ false) × Others b ts

pub first-passed : {A : Type 0} (b : A → Bool) (ts : List (Bool × A)) (other : A) → Others b ts → b (first_of ts other) ≡ true → Passed ts
unfolding first_of pick
first-passed b [] other os e = tt
first-passed b ((true, x) ∷ ts) other os e = absurd (false≢true (sym os.0 ∙ e))
first-passed b ((false, x) ∷ ts) other os e = (refl, first-passed b ts other os.1 e)

pub passed_first : {A : Type 0} (ts : List (Bool × A)) (other : A) → Passed ts → first_of ts other ≡ other
unfolding first_of pick
passed_first [] other ps = refl
passed_first (t ∷ ts) other ps = rw ps.0 (passed_first ts other ps.1)
