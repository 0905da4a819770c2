-- Past a node, by the number of the token that is met.
use mathlib.Core.Path.{◌≡◌, refl, ap, subst}
use mathlib.Core.List.{List}
use mathlib.Core.Bool.{Bool, true, false}
use Prim.Native.Nat.{ℕ, suc, ◌+◌, ◌-◌, ◌<◌, ◌≤◌, min}
use native.Mathlib.Omega.{arith}
use lib.ListN.{length}
use lib.Dec.{eqb, leb, ltb}
use borrow.Author.Tests.{eqb-true, ne_eqb}
use Rattle.std.specs.Prelude.{Option, Some, None, Result, Ok, Err, ok_or}
use Rattle.words.specs.Pick.{pick}
use Rattle.words.specs.Bytes.{word_at}
use Rattle.words.proofs.Pick.{pick-cases}
use Rattle.words.proofs.Bytes.{word_in}
use Rattle.devtree.specs.Tokens.{skipped, begin_at, begin_named, property_at, property_named, fault_at, token_of, and_then, tokens, past, broken}
use Rattle.devtree.specs.declared.Broken.{Broken}
use Rattle.devtree.specs.declared.Token.{Token}
use Rattle.devtree.specs.declared.Token.TheVariants.{Begin, Property, EndNode, End, Fault}
use Rattle.devtree.proofs.Tokens.{Within, tokens-law, token-in}
use Rattle.devtree.proofs.Here.{token-here}
use Rattle.past_node.specs.Past.{past_of, past_node}

-- a token at q with the number k
abbrev Kinded : ℕ → ℕ → Token → Type 0
Kinded q k (Begin p a n next) = (k ≡ 1) × (p ≡ q)
Kinded q k (Property p a n v l next) = k ≡ 3
Kinded q k (EndNode p next) = k ≡ 2
Kinded q k (End p next) = Unit
Kinded q k (Fault p) = Unit

kinded : (s st : List ℕ) (q k : ℕ) → Kinded q k (token_of s st q k)
unfolding token_of begin_at begin_named property_at property_named fault_at
kinded s st q k =
    pick-cases (Kinded q k) (eqb k 1) _ _ (λ e. pick-cases (Kinded q k) _ _ _ (λ _. (eqb-true k 1 e, refl)) (λ _. tt))
    (λ _. pick-cases (Kinded q k) (eqb k 2) _ _ (λ e. eqb-true k 2 e)
    (λ _. pick-cases (Kinded q k) (eqb k 3) _ _
    (λ e. pick-cases (Kinded q k) (ltb (length s - q) 12) _ _ (λ _. tt) (λ _. pick-cases (Kinded q k) _ _ _ (λ _. eqb-true k 3 e) (λ _. tt)))
    (λ _. pick-cases (Kinded q k) (eqb k 9) _ _ (λ _. tt) (λ _. tt))))

-- ---- the offset past a token
module _ (s st : List ℕ) (q k : ℕ) where
  -- where there is none, a fault, which is within the block
  past-none : k ≡ word_at s q → past (token_of s st q k) ≡ None → past_of (token_of s st q k) ≡ Err (broken (min q (length s)))
  unfolding token_of begin_at begin_named property_at property_named fault_at past_of
  past-none w =
      let P : Token → Type 0 = λ t. past t ≡ None → past_of t ≡ Err (broken (min q (length s))) in
      let here : (m : ℕ) → eqb k (suc m) ≡ true → q ≡ min q (length s) = λ m e. let i = word_in s q (λ z. omega (arith, eqb-true k (suc m) e)) in omega arith in
      let at : (m : ℕ) → eqb k (suc m) ≡ true → ◌≡◌ {A = Result ℕ Broken} (Err (broken q)) (Err (broken (min q (length s)))) = λ m e. ap (λ x. Err (broken x)) (here m e) in
      pick-cases P (eqb k 1) _ _ (λ e. pick-cases P _ _ _ (λ _ n. cc) (λ _ n. at 0 e))
      (λ _. pick-cases P (eqb k 2) _ _ (λ e n. cc)
      (λ _. pick-cases P (eqb k 3) _ _
      (λ e. pick-cases P (ltb (length s - q) 12) _ _ (λ _ n. at 2 e) (λ _. pick-cases P _ _ _ (λ _ n. cc) (λ _ n. at 2 e)))
      (λ _. pick-cases P (eqb k 9) _ _ (λ e n. at 8 e) (λ _ n. refl))))

  past-some : (t : Token) (next : ℕ) → past t ≡ Some next → past_of t ≡ Ok next
  unfolding past_of
  past-some (Begin p a n to) next e = let z : to ≡ next = cc in ap Ok z
  past-some (Property p a n v l to) next e = let z : to ≡ next = cc in ap Ok z
  past-some (EndNode p to) next e = let z : to ≡ next = cc in ap Ok z
  past-some (End p to) next e = cc
  past-some (Fault p) next e = cc

  pub past-is : k ≡ word_at s q → (o : Option ℕ) → past (token_of s st q k) ≡ o → past_of (token_of s st q k) ≡ ok_or o (broken (min q (length s)))
  past-is w (Some next) e = past-some _ next e
  past-is w None e = past-none w e

  -- by the number
  pub past-one : k ≡ 1 → past (token_of s st q k) ≡ past (begin_at s q)
  unfolding token_of pick
  past-one e = rw e

  pub past-two : k ≡ 2 → past (token_of s st q k) ≡ Some (q + 4)
  unfolding token_of pick
  past-two e = rw e

  pub past-three : k ≡ 3 → past (token_of s st q k) ≡ past (property_at s st q)
  unfolding token_of pick
  past-three e = rw e

  pub past-other : (k ≡ 1 → ⊥) → (k ≡ 2 → ⊥) → (k ≡ 3 → ⊥) → past (token_of s st q k) ≡ None
  unfolding token_of fault_at pick
  past-other a b c = rw (ne_eqb k 1 a, ne_eqb k 2 b, ne_eqb k 3 c) (go (eqb k 9))
    where
      go : (b : Bool) → past (pick b (End q (q + 4)) (Fault (min q (length s)))) ≡ None
      go true = refl
      go false = refl

-- ---- by the token
module _ (s st : List ℕ) (depth below q k next : ℕ) where
  abbrev after : Token → Result ℕ Broken
  after t = past_node depth below (and_then (tokens s st) t)

  breaks : (t : Token) (b : Broken) → past_of t ≡ Err b → after t ≡ Err b
  unfolding past_of past_node and_then
  breaks (Begin p a n to) b e = cc
  breaks (Property p a n v l to) b e = cc
  breaks (EndNode p to) b e = cc
  breaks (End p to) b e = e
  breaks (Fault p) b e = e

  begins : (t : Token) → Kinded q k t → past_of t ≡ Ok next → k ≡ 1 → after t ≡ pick (leb 8 (depth + below)) (Err (broken q)) (past_node depth (below + 1) (tokens s st next))
  unfolding past_of past_node and_then
  begins (Begin p a n to) w h e = let z : to ≡ next = cc in rw (w.1, z)
  begins (Property p a n v l to) w h e = absurd (omega arith)
  begins (EndNode p to) w h e = absurd (omega arith)
  begins (End p to) w h e = cc
  begins (Fault p) w h e = cc

  ends : (t : Token) → Kinded q k t → past_of t ≡ Ok next → k ≡ 2 → after t ≡ pick (leb below 1) (Ok next) (past_node depth (below - 1) (tokens s st next))
  unfolding past_of past_node and_then
  ends (Begin p a n to) w h e = absurd (omega arith)
  ends (Property p a n v l to) w h e = absurd (omega arith)
  ends (EndNode p to) w h e = let z : to ≡ next = cc in rw z
  ends (End p to) w h e = cc
  ends (Fault p) w h e = cc

  goes_on : (t : Token) → Kinded q k t → past_of t ≡ Ok next → (k ≡ 1 → ⊥) → (k ≡ 2 → ⊥) → after t ≡ past_node depth below (tokens s st next)
  unfolding past_of past_node and_then
  goes_on (Begin p a n to) w h e f = absurd (e w.0)
  goes_on (Property p a n v l to) w h e f = let z : to ≡ next = cc in rw z
  goes_on (EndNode p to) w h e f = absurd (f w)
  goes_on (End p to) w h e f = cc
  goes_on (Fault p) w h e f = cc

past-within : (s : List ℕ) (p next : ℕ) (t : Token) → Within s p t → past_of t ≡ Ok next → (p < next) × (next ≤ length s)
unfolding past_of
past-within s p next (Begin x a n to) w h = let z : to ≡ next = cc in omega arith
past-within s p next (Property x a n v l to) w h = let z : to ≡ next = cc in omega arith
past-within s p next (EndNode x to) w h = let z : to ≡ next = cc in omega arith
past-within s p next (End x to) w h = cc
past-within s p next (Fault x) w h = cc

-- ---- from p on, where the next word that is no no-op stands at q
module _ (s st : List ℕ) (p q k : ℕ) (place : q ≡ skipped s p) (word : k ≡ word_at s q) where
  from-here : (depth below : ℕ) (x : Result ℕ Broken) → past_node depth below (and_then (tokens s st) (token_of s st q k)) ≡ x → past_node depth below (tokens s st p) ≡ x
  from-here depth below x e = rw (tokens-law s st p, token-here s st p q k place word) e

  pub at-fault : (depth below : ℕ) (b : Broken) → past_of (token_of s st q k) ≡ Err b → past_node depth below (tokens s st p) ≡ Err b
  at-fault depth below b e = from-here depth below _ (breaks s st depth below q k 0 (token_of s st q k) b e)

  module _ (next : ℕ) (is : past_of (token_of s st q k) ≡ Ok next) where
    pub at-begin : (depth below : ℕ) → k ≡ 1 → past_node depth below (tokens s st p) ≡ pick (leb 8 (depth + below)) (Err (broken q)) (past_node depth (below + 1) (tokens s st next))
    at-begin depth below e = from-here depth below _ (begins s st depth below q k next (token_of s st q k) (kinded s st q k) is e)

    pub at-end : (depth below : ℕ) → k ≡ 2 → past_node depth below (tokens s st p) ≡ pick (leb below 1) (Ok next) (past_node depth (below - 1) (tokens s st next))
    at-end depth below e = from-here depth below _ (ends s st depth below q k next (token_of s st q k) (kinded s st q k) is e)

    pub at_other : (depth below : ℕ) → (k ≡ 1 → ⊥) → (k ≡ 2 → ⊥) → past_node depth below (tokens s st p) ≡ past_node depth below (tokens s st next)
    at_other depth below e f = from-here depth below _ (goes_on s st depth below q k next (token_of s st q k) (kinded s st q k) is e f)

    pub moves : (p < next) × (next ≤ length s)
    moves = past-within s p next (token_of s st q k) (subst (Within s p) (token-here s st p q k place word) (token-in s st p)) is
