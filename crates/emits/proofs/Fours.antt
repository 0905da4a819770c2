-- A walk's place is a multiple of 4 at every token.
use mathlib.Core.Path.{◌≡◌}
use mathlib.Core.List.{List}
use Prim.Native.Nat.{ℕ, zero, suc, ◌+◌, ◌-◌, ◌%◌}
use native.Mathlib.Omega.{arith}
use lib.ListN.{length}
use lib.Dec.{eqb, ltb}
use Rattle.words.specs.Bytes.{word_at}
use Rattle.words.proofs.Pick.{pick-cases}
use Rattle.devtree.specs.Tokens.{skip_up_to, skipped, begin_at, begin_named, property_at, property_named, fault_at, token_of, token_at}
use Rattle.devtree.specs.declared.Token.{Token}
use Rattle.devtree.specs.declared.Token.TheVariants.{Begin, Property, EndNode, End, Fault}

-- what follows a token stands at a multiple of 4
abbrev pub Fours : Token → Type 0
Fours (Begin p a n next) = next % 4 ≡ 0
Fours (Property p a n v l next) = next % 4 ≡ 0
Fours (EndNode p next) = next % 4 ≡ 0
Fours (End p next) = next % 4 ≡ 0
Fours (Fault p) = Unit

skip-four : (k : ℕ) (s : List ℕ) (at : ℕ) → at % 4 ≡ 0 → skip_up_to k s at % 4 ≡ 0
unfolding skip_up_to
skip-four zero s at h = h
skip-four (suc k) s at h =
    let rest : skip_up_to k s (at + 4) % 4 ≡ 0 = skip-four k s (at + 4) (omega arith) in
    pick-cases (λ x. x % 4 ≡ 0) (eqb (word_at s at) 4) _ _ (λ e. rest) (λ e. h)

begin-four : (s : List ℕ) (p : ℕ) → p % 4 ≡ 0 → Fours (begin_at s p)
unfolding begin_at begin_named
begin-four s p h = pick-cases Fours _ _ _ (λ e. omega arith) (λ e. tt)

property-four : (s st : List ℕ) (p : ℕ) → p % 4 ≡ 0 → Fours (property_at s st p)
unfolding property_at property_named
property-four s st p h = pick-cases Fours (ltb (length s - p) 12) _ _ (λ e. tt) (λ e. pick-cases Fours _ _ _ (λ f. omega arith) (λ f. tt))

pub token-four : (s st : List ℕ) (at : ℕ) → at % 4 ≡ 0 → Fours (token_at s st at)
unfolding token_at token_of fault_at skipped
token-four s st at h =
    let p : ℕ = skipped s at in
    let k : ℕ = word_at s p in
    let four : p % 4 ≡ 0 = skip-four (length s) s at h in
    pick-cases Fours (eqb k 1) _ _ (λ u. begin-four s p four)
    (λ u. pick-cases Fours (eqb k 2) _ _ (λ v. omega arith)
    (λ v. pick-cases Fours (eqb k 3) _ _ (λ w. property-four s st p four)
    (λ w. pick-cases Fours (eqb k 9) _ _ (λ x. omega arith) (λ x. tt))))
