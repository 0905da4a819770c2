-- What the offset past a token says of the scan: that of a token, or of a fault in its place.
use mathlib.Core.Path.{◌≡◌, refl, sym, subst, ◌∙◌}
use mathlib.Core.List.{List}
use mathlib.Core.Bool.{Bool, true, false}
use Prim.Native.Nat.{ℕ, ◌+◌, ◌-◌, ◌≤◌}
use native.Mathlib.Omega.{arith}
use lib.ListN.{length}
use lib.Dec.{eqb, ltb}
use borrow.Author.Tests.{eqb-true}
use Rattle.std.specs.Prelude.{Some, None}
use Rattle.std.specs.Bool.{then_some}
use Rattle.std.proofs.lemmas.Option.{same_Some}
use Rattle.words.specs.Pick.{pick}
use Rattle.words.specs.Bytes.{word_at, name_length, zero_at}
use Rattle.words.proofs.Pick.{pick-cases}
use Rattle.devtree.specs.Tokens.{past, skipped, begin_named, begin_at, property_named, property_at, fault_at, token_of, token_at}
use Rattle.devtree.specs.Check.{clean}
use Rattle.devtree.proofs.Tokens.{begin_tests, property_tests}
use Rattle.devtree.proofs.Here.{begin-past, begin-none, property-past, property-none}
use Rattle.devtree.specs.declared.Token.{Token}
use Rattle.devtree.specs.declared.Token.TheVariants.{Begin, Property, EndNode, End, Fault}
use Rattle.treecheck.specs.Scan.{place_of, strict, strict_at, scan_token, scan_from}
use Rattle.treecheck.proofs.Scan.{after, scan-token}

-- ---- the offset past a token, which its padding decides

past-strict : (s : List ℕ) (t : Token) (next : ℕ) → past t ≡ Some next → past (strict s t) ≡ then_some (clean s t) next
unfolding strict pick
past-strict s t next e = go (clean s t)
  where
    go : (b : Bool) → past (pick b t (Fault (place_of t))) ≡ then_some b next
    go true = e
    go false = refl

-- where the token's bytes are used up to `end`
padded : (s : List ℕ) (t : Token) (next end : ℕ) → past t ≡ Some next → clean s t ≡ zero_at (next - end) s end → end ≤ next
    → past (strict s t) ≡ then_some (zero_at (next - end) s (next - (next - end))) next
padded s t next end e c l =
    let from : next - (next - end) ≡ end = omega arith in
    past-strict s t next e ∙ rw (c, from) refl

past-fault : (s : List ℕ) (at : ℕ) → past (strict s (Fault at)) ≡ None
unfolding strict clean pick
past-fault s at = refl

pub strict-begin : (s : List ℕ) (at n next : ℕ) → n ≡ name_length 48 s (at + 4) → past (begin_at s at) ≡ Some next → at + 4 + n ≤ next
    → past (strict s (begin_at s at)) ≡ then_some (zero_at (next - (at + 4 + n)) s (next - (next - (at + 4 + n)))) next
unfolding clean
strict-begin s at n next e f l = rw (begin-past s at next f, ← e) (padded s (Begin at (at + 4) n next) next (at + 4 + n) refl refl l)

pub no-strict-begin : (s : List ℕ) (at : ℕ) → past (begin_at s at) ≡ None → past (strict s (begin_at s at)) ≡ None
no-strict-begin s at e = rw (begin-none s at e) (past-fault s at)

pub strict-property : (s st : List ℕ) (at len next : ℕ) → len ≡ word_at s (at + 4) → past (property_at s st at) ≡ Some next → at + 12 + len ≤ next
    → past (strict s (property_at s st at)) ≡ then_some (zero_at (next - (at + 12 + len)) s (next - (next - (at + 12 + len)))) next
unfolding clean
strict-property s st at len next e f l = rw (property-past s st at next f, ← e) (padded s (Property at _ _ (at + 12) len next) next (at + 12 + len) refl refl l)

pub no-strict-property : (s st : List ℕ) (at : ℕ) → past (property_at s st at) ≡ None → past (strict s (property_at s st at)) ≡ None
no-strict-property s st at e = rw (property-none s st at e) (past-fault s at)

-- ---- which tokens a word begins

strict-only : (P : Token → Type 0) (s : List ℕ) (t : Token) → P t → P (Fault (place_of t)) → P (strict s t)
unfolding strict
strict-only P s t p q = pick-cases P (clean s t) t (Fault (place_of t)) (λ e. p) (λ e. q)

begin-only : (P : Token → Type 0) (s : List ℕ) (q : ℕ) → ((a n next : ℕ) → P (Begin q a n next)) → P (Fault q) → P (strict s (begin_at s q))
unfolding begin_at begin_named
begin-only P s q f g = pick-cases (λ t. P (strict s t)) (begin_tests (name_length 48 s (q + 4)) (length s - (q + 4))) _ _ (λ e. strict-only P s _ (f _ _ _) g) (λ e. strict-only P s (Fault q) g g)

property-only : (P : Token → Type 0) (s st : List ℕ) (q : ℕ) → ((a n v l next : ℕ) → P (Property q a n v l next)) → P (Fault q) → P (strict s (property_at s st q))
unfolding property_at property_named
property-only P s st q f g =
    pick-cases (λ t. P (strict s t)) (ltb (length s - q) 12) _ _ (λ e. strict-only P s (Fault q) g g)
    (λ e. pick-cases (λ t. P (strict s t)) (property_tests (name_length 32 st (word_at s (q + 8))) (length st - word_at s (q + 8)) (word_at s (q + 4)) (length s - (q + 12))) _ _ (λ h. strict-only P s _ (f _ _ _ _ _) g) (λ h. strict-only P s (Fault q) g g))

-- neither a begin-node nor an end-node token
abbrev NoNode : Token → Type 0
NoNode (Begin p a n next) = ⊥
NoNode (Property p a n v l next) = Unit
NoNode (EndNode p next) = ⊥
NoNode (End p next) = Unit
NoNode (Fault p) = Unit

abbrev pub NoProperty : Token → Type 0
NoProperty (Begin p a n next) = Unit
NoProperty (Property p a n v l next) = ⊥
NoProperty (EndNode p next) = Unit
NoProperty (End p next) = Unit
NoProperty (Fault p) = Unit

-- before a token that is no property it does not matter whether properties may stand; past the properties, one that begins or ends no node ends the scan
same-child : (s st : List ℕ) (left : ℕ) (t : Token) → NoProperty t → after s st left false t ≡ after s st left true t
unfolding scan_token
same-child s st left (Begin p a n next) o = refl
same-child s st left (Property p a n v l next) o = absurd o
same-child s st left (EndNode p next) o = refl
same-child s st left (End p next) o = refl
same-child s st left (Fault p) o = refl

no-child : (s st : List ℕ) (left : ℕ) (t : Token) → NoNode t → after s st left true t ≡ false
unfolding scan_token pick
no-child s st left (Begin p a n next) o = absurd o
no-child s st left (Property p a n v l next) o = refl
no-child s st left (EndNode p next) o = absurd o
no-child s st left (End p next) o = refl
no-child s st left (Fault p) o = refl

pub stuck : (s st : List ℕ) (left : ℕ) (child : Bool) (p q : ℕ) → strict_at s st p ≡ Fault q → scan_from s st left child p ≡ false
unfolding scan_token
stuck s st left child p q e = scan-token s st left child p (Fault q) e

-- ---- the token from p on begins at q, its first word that is no no-op, and that word says which it is

module _ (s st : List ℕ) (p q : ℕ) (here : q ≡ skipped s p) where
  by_word : (k : ℕ) → word_at s q ≡ k → strict_at s st p ≡ strict s (token_of s st q k)
  unfolding strict_at token_at
  by_word k is = rw (← here, is) refl

  pub ended : word_at s q ≡ 2 → strict_at s st p ≡ EndNode q (q + 4)
  unfolding token_of strict clean pick
  ended is = by_word 2 is

  -- by the offset past it, a begin-node token or a fault in its place
  module _ (is : word_at s q ≡ 1) where
    begin-word : strict_at s st p ≡ strict s (begin_at s q)
    unfolding token_of pick
    begin-word = by_word 1 is

    pub begun : (r : ℕ) → past (strict s (begin_at s q)) ≡ Some r → (a : ℕ) × (n : ℕ) × (strict_at s st p ≡ Begin q a n r)
    begun r =
        begin-only (λ t. strict_at s st p ≡ t → past t ≡ Some r → (a : ℕ) × (n : ℕ) × (strict_at s st p ≡ Begin q a n r)) s q
        (λ a n next e f. (a, n, rw (← same_Some next r f) e)) (λ e f. cc) begin-word

    pub not-begun : past (strict s (begin_at s q)) ≡ None → strict_at s st p ≡ Fault q
    not-begun =
        begin-only (λ t. strict_at s st p ≡ t → past t ≡ None → strict_at s st p ≡ Fault q) s q
        (λ a n next e f. cc) (λ e f. e) begin-word

  module _ (is : word_at s q ≡ 3) where
    property-word : strict_at s st p ≡ strict s (property_at s st q)
    unfolding token_of pick
    property-word = by_word 3 is

    pub owned : (r : ℕ) → past (strict s (property_at s st q)) ≡ Some r → (a : ℕ) × (n : ℕ) × (v : ℕ) × (l : ℕ) × (strict_at s st p ≡ Property q a n v l r)
    owned r =
        property-only (λ t. strict_at s st p ≡ t → past t ≡ Some r → (a : ℕ) × (n : ℕ) × (v : ℕ) × (l : ℕ) × (strict_at s st p ≡ Property q a n v l r)) s st q
        (λ a n v l next e f. (a, n, v, l, rw (← same_Some next r f) e)) (λ e f. cc) property-word

    pub not-owned : past (strict s (property_at s st q)) ≡ None → strict_at s st p ≡ Fault q
    not-owned =
        property-only (λ t. strict_at s st p ≡ t → past t ≡ None → strict_at s st p ≡ Fault q) s st q
        (λ a n v l next e f. cc) (λ e f. e) property-word

  by_cases : (P : Token → Type 0) → (word_at s q ≡ 1 → P (strict s (begin_at s q))) → (word_at s q ≡ 2 → P (EndNode q (q + 4))) → (word_at s q ≡ 3 → P (strict s (property_at s st q)))
      → P (End q (q + 4)) → ((u : ℕ) → P (Fault u)) → P (strict_at s st p)
  unfolding token_of fault_at strict clean pick
  by_cases P f g h i j =
      subst P (sym (by_word (word_at s q) refl))
      (pick-cases (λ t. P (strict s t)) (eqb (word_at s q) 1) _ _ (λ e. f (eqb-true _ _ e))
      (λ e. pick-cases (λ t. P (strict s t)) (eqb (word_at s q) 2) _ _ (λ e. g (eqb-true _ _ e))
      (λ e. pick-cases (λ t. P (strict s t)) (eqb (word_at s q) 3) _ _ (λ e. h (eqb-true _ _ e))
      (λ e. pick-cases (λ t. P (strict s t)) (eqb (word_at s q) 9) _ _ (λ e. i) (λ e. j _)))))

  no-property-word : (word_at s q ≡ 3 → ⊥) → NoProperty (strict_at s st p)
  no-property-word z = by_cases NoProperty (λ e. begin-only NoProperty s q (λ a n next. tt) tt) (λ e. tt) (λ e. absurd (z e)) tt (λ u. tt)

  no-node-word : (word_at s q ≡ 1 → ⊥) → (word_at s q ≡ 2 → ⊥) → NoNode (strict_at s st p)
  no-node-word y z = by_cases NoNode (λ e. absurd (y e)) (λ e. absurd (z e)) (λ e. property-only NoNode s st q (λ a n v l next. tt) tt) tt (λ u. tt)

  pub no-property : (left : ℕ) → (word_at s q ≡ 3 → ⊥) → scan_from s st left false p ≡ scan_from s st left true p
  no-property left z = scan-token s st left false p _ refl ∙ same-child s st left (strict_at s st p) (no-property-word z) ∙ sym (scan-token s st left true p _ refl)

  pub no_node : (left : ℕ) → (word_at s q ≡ 1 → ⊥) → (word_at s q ≡ 2 → ⊥) → scan_from s st left true p ≡ false
  no_node left y z = scan-token s st left true p _ refl ∙ no-child s st left (strict_at s st p) (no-node-word y z)

  -- no level is left for a child
  pub too-deep : word_at s q ≡ 1 → (left : ℕ) → left ≡ 0 → scan_from s st left true p ≡ false
  unfolding scan_token pick
  too-deep is left z =
      rw z (scan-token s st 0 true p _ refl ∙ subst (λ t. after s st 0 true t ≡ false) (sym (begin-word is)) (begin-only (λ t. after s st 0 true t ≡ false) s q (λ a n next. refl) refl))
