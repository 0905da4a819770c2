-- Laws of `token_at` and `tokens`.
use mathlib.Core.Path.{◌≡◌, refl, ap, subst}
use mathlib.Core.List.{List, [], ◌∷◌}
use mathlib.Core.Bool.{Bool, true}
use Prim.Native.Nat.{ℕ, zero, suc, ◌+◌, ◌-◌, ◌<◌, ◌≤◌}
use native.Mathlib.Omega.{arith}
use lib.ListN.{length}
use lib.Dec.{eqb, leb, ltb}
use borrow.Author.Tests.{ltb-false, leb-true, ltb-true, eqb-true, eq-eqb, ne_eqb}
use Rattle.words.specs.Pick.{pick, every}
use Rattle.words.specs.Bytes.{word_at, name_length}
use Rattle.words.proofs.Pick.{pick-cases, every-each}
use Rattle.words.proofs.Bytes.{word_in}
use Rattle.words.proofs.Run.{run-law}
use Rattle.devtree.specs.Tokens.{up4, skip_up_to, skipped, begin_at, begin_named, property_at, property_named, fault_at, token_of, token_at, and_then, tokens_body, tokens}
use Rattle.devtree.specs.declared.Token.{Token}
use Rattle.devtree.specs.declared.Token.TheVariants.{Begin, Property, EndNode, End, Fault}

-- ---- no-ops

-- `skip_up_to` with enough steps left to get past every no-op from p on ends at x
abbrev pub Skips : List ℕ → ℕ → ℕ → Type 0
Skips s p x = (k : ℕ) × (length s ≤ p + k) × (skip_up_to k s p ≡ x)

pub skips-more : (s : List ℕ) (p x k : ℕ) → length s ≤ p + k → skip_up_to k s p ≡ x → word_at s p ≡ 4 → Skips s (p + 4) x
unfolding skip_up_to pick
skips-more s p x zero enough is e = let i = word_in s p (λ z. omega arith) in absurd (omega arith)
skips-more s p x (suc k) enough is e = (k, omega arith, simp (eq-eqb _ _ e) at is)

pub skips-other : (s : List ℕ) (p x k : ℕ) → skip_up_to k s p ≡ x → (word_at s p ≡ 4 → ⊥) → p ≡ x
unfolding skip_up_to pick
skips-other s p x zero is e = is
skips-other s p x (suc k) is e = simp (ne_eqb _ _ e) at is

skip-le : (k : ℕ) (s : List ℕ) (at : ℕ) → at ≤ skip_up_to k s at
unfolding skip_up_to
skip-le zero s at = omega arith
skip-le (suc k) s at =
    let more : at + 4 ≤ skip_up_to k s (at + 4) = skip-le k s (at + 4) in
    pick-cases (λ x. at ≤ x) (eqb (word_at s at) 4) _ _ (λ e. omega arith) (λ e. omega arith)

-- ---- what the tests of a token's lengths say

-- the tests of a begin-node token, and of a property token
abbrev pub begin_tests : ℕ → ℕ → Bool
begin_tests n left = every (leb 1 n ∷ leb n 47 ∷ leb (up4 (n + 1)) left ∷ [])

abbrev pub property_tests : ℕ → ℕ → ℕ → ℕ → Bool
property_tests n tail len left = every (leb 1 n ∷ leb n 31 ∷ ltb n tail ∷ leb len (8192 - 20 - (n + 1)) ∷ leb (up4 len) left ∷ [])

pub begin-fits : (n left : ℕ) → begin_tests n left ≡ true → (1 ≤ n) × (n ≤ 47) × (up4 (n + 1) ≤ left)
begin-fits n left e = let t = every-each _ e in (leb-true _ _ t.0, leb-true _ _ t.1.0, leb-true _ _ t.1.1.0)

pub property-fits : (n tail len left : ℕ) → property_tests n tail len left ≡ true → (1 ≤ n) × (n ≤ 31) × (n < tail) × (len ≤ 8192 - 20 - (n + 1)) × (up4 len ≤ left)
property-fits n tail len left e = let t = every-each _ e in (leb-true _ _ t.0, leb-true _ _ t.1.0, ltb-true _ _ t.1.1.0, leb-true _ _ t.1.1.1.0, leb-true _ _ t.1.1.1.1.0)

-- ---- where a token lies

-- a token read from `at` on lies within the block
abbrev pub Within : List ℕ → ℕ → Token → Type 0
Within s at (Begin p a n next) = (at ≤ p) × (a ≡ p + 4) × (a + n < next) × (next ≤ length s)
Within s at (Property p a n v l next) = (at ≤ p) × (v ≡ p + 12) × (v + l ≤ next) × (next ≤ length s)
Within s at (EndNode p next) = (at ≤ p) × (next ≡ p + 4) × (next ≤ length s)
Within s at (End p next) = (at ≤ p) × (next ≡ p + 4) × (next ≤ length s)
Within s at (Fault p) = p ≤ length s

begin-in : (s : List ℕ) (at p n : ℕ) → at ≤ p → p + 4 ≤ length s → Within s at (begin_named p n (length s - (p + 4)))
unfolding begin_named
begin-in s at p n h i =
    pick-cases (Within s at) (begin_tests n (length s - (p + 4))) _ _
    (λ e. let f = every-each _ e in omega (arith, leb-true))
    (λ e. omega arith)

property-in : (s : List ℕ) (at p a n tail l : ℕ) → at ≤ p → p + 12 ≤ length s → Within s at (property_named p a n tail l (length s - (p + 12)))
unfolding property_named
property-in s at p a n tail l h i =
    pick-cases (Within s at) (property_tests n tail l (length s - (p + 12))) _ _
    (λ e. let f = every-each _ e in omega (arith, leb-true))
    (λ e. omega arith)

here_in : (s st : List ℕ) (at p : ℕ) → at ≤ p → Within s at (token_of s st p (word_at s p))
unfolding token_of begin_at property_at fault_at
here_in s st at p h =
    let k : ℕ = word_at s p in
    let here : (m : ℕ) → eqb k (suc m) ≡ true → 4 ≤ length s - p = λ m e. word_in s p (λ z. omega (arith, eqb-true k (suc m) e)) in
    pick-cases (Within s at) (eqb k 1) _ _ (λ u. let r = here 0 u in begin-in s at p (name_length 48 s (p + 4)) h (omega arith))
    (λ u. pick-cases (Within s at) (eqb k 2) _ _ (λ v. let r = here 1 v in omega arith)
    (λ v. pick-cases (Within s at) (eqb k 3) _ _
    (λ w. let r = here 2 w in
    pick-cases (Within s at) (ltb (length s - p) 12) _ _ (λ x. omega arith)
    (λ x. property-in s at p (word_at s (p + 8)) (name_length 32 st (word_at s (p + 8))) (length st - word_at s (p + 8)) (word_at s (p + 4)) h (omega (arith, ltb-false))))
    (λ w. pick-cases (Within s at) (eqb k 9) _ _ (λ x. let r = here 8 x in omega arith) (λ x. omega arith))))

pub token-in : (s st : List ℕ) (at : ℕ) → Within s at (token_at s st at)
unfolding token_at skipped
token-in s st at = here_in s st at (skipped s at) (skip-le (length s) s at)

-- ---- the list of tokens

-- what follows a token matters only from past it on
module _ (s : List ℕ) (at : ℕ) (go go' : ℕ → List Token) (same : (next : ℕ) → length s - next < length s - at → go next ≡ go' next) where
  then_same : (t : Token) → Within s at t → and_then go t ≡ and_then go' t
  unfolding and_then
  then_same (Begin p a n next) w = ap (◌∷◌ (Begin p a n next)) (same next (omega arith))
  then_same (Property p a n v l next) w = ap (◌∷◌ (Property p a n v l next)) (same next (omega arith))
  then_same (EndNode p next) w = ap (◌∷◌ (EndNode p next)) (same next (omega arith))
  then_same (End p next) w = refl
  then_same (Fault p) w = refl

-- the tokens are the next one, and those from past it on
pub tokens-law : (s st : List ℕ) (at : ℕ) → tokens s st at ≡ and_then (tokens s st) (token_at s st at)
unfolding tokens tokens_body
tokens-law s st at =
    run-law [] (λ i. length s - i) (tokens_body s st) (λ go go' i same. then_same s i go go' same (token_at s st i) (token-in s st i)) at

pub tokens-are : (s st : List ℕ) (at : ℕ) (t : Token) → token_at s st at ≡ t → tokens s st at ≡ and_then (tokens s st) t
tokens-are s st at t e = rw (← e) (tokens-law s st at)

pub lies : (s st : List ℕ) (at : ℕ) (t : Token) → token_at s st at ≡ t → Within s at t
lies s st at t e = subst (Within s at) e (token-in s st at)

-- ---- what the names and values of tokens are

-- a name has its length and its NUL, a value its length
abbrev pub Named : List ℕ → List ℕ → Token → Type 0
Named s st (Begin p a n next) = (name_length 48 s a ≡ n) × (1 ≤ n) × (n ≤ 47)
Named s st (Property p a n v l next) = (name_length 32 st a ≡ n) × (1 ≤ n) × (n ≤ 31) × (n < length st - a) × (l ≤ 8192 - 20 - (n + 1))
Named s st (EndNode p next) = Unit
Named s st (End p next) = Unit
Named s st (Fault p) = Unit

begin-named : (s st : List ℕ) (p : ℕ) → Named s st (begin_at s p)
unfolding begin_at begin_named
begin-named s st p =
    let n : ℕ = name_length 48 s (p + 4) in
    pick-cases (Named s st) (every (leb 1 n ∷ leb n 47 ∷ leb (up4 (n + 1)) (length s - (p + 4)) ∷ [])) _ _
    (λ e. let f = every-each _ e in (refl, leb-true _ _ f.0, leb-true _ _ f.1.0))
    (λ e. tt)

property-named : (s st : List ℕ) (p : ℕ) → Named s st (property_at s st p)
unfolding property_at property_named
property-named s st p =
    let len : ℕ = word_at s (p + 4) in
    let a : ℕ = word_at s (p + 8) in
    let n : ℕ = name_length 32 st a in
    pick-cases (Named s st) (ltb (length s - p) 12) _ _ (λ e. tt)
    (λ x. pick-cases (Named s st) (every (leb 1 n ∷ leb n 31 ∷ ltb n (length st - a) ∷ leb len (8192 - 20 - (n + 1)) ∷ leb (up4 len) (length s - (p + 12)) ∷ [])) _ _
    (λ e. let f = every-each _ e in (refl, leb-true _ _ f.0, leb-true _ _ f.1.0, ltb-true _ _ f.1.1.0, leb-true _ _ f.1.1.1.0))
    (λ e. tt))

pub token-named : (s st : List ℕ) (at : ℕ) → Named s st (token_at s st at)
unfolding token_at token_of fault_at
token-named s st at =
    let p : ℕ = skipped s at in
    let k : ℕ = word_at s p in
    pick-cases (Named s st) (eqb k 1) _ _ (λ u. begin-named s st p)
    (λ u. pick-cases (Named s st) (eqb k 2) _ _ (λ v. tt)
    (λ v. pick-cases (Named s st) (eqb k 3) _ _ (λ w. property-named s st p)
    (λ w. pick-cases (Named s st) (eqb k 9) _ _ (λ x. tt) (λ x. tt))))

pub named : (s st : List ℕ) (at : ℕ) (t : Token) → token_at s st at ≡ t → Named s st t
named s st at t e = subst (Named s st) e (token-named s st at)
