-- A fault is met at one of the tokens from the walk's place on, and where a token stands.
use mathlib.Core.Path.{◌≡◌, refl}
use mathlib.Core.List.{List, [], ◌∷◌}
use mathlib.Core.Bool.{Bool, true}
use Prim.Native.Nat.{ℕ, zero, suc, ◌+◌, ◌-◌, ◌<◌, min}
use native.Mathlib.Omega.{arith}
use borrow.Author.Tests.{eqb-true, eq-eqb}
use lib.ListN.{length}
use lib.Dec.{eqb, leb}
use Rattle.words.specs.Bytes.{word_at}
use Rattle.words.proofs.Pick.{pick-cases, pick_yes}
use Rattle.words.proofs.Bytes.{word_in}
use Rattle.devtree.specs.Tokens.{skipped, begin_named, begin_at, property_named, property_at, fault_at, token_of, token_at, tokens, and_then}
use Rattle.devtree.specs.declared.Token.{Token}
use Rattle.devtree.specs.declared.Token.TheVariants.{Begin, Property, EndNode, End, Fault}
use Rattle.devtree.proofs.Tokens.{Within, tokens-law, token-in}
use Rattle.std.specs.Prelude.{Some, None, Ok, Err}
use Rattle.sent.specs.Sent.{Ahead, ahead, is_looked_at, after_look, sent_of, next_sent}
use Rattle.faults.specs.Faults.{offset_of}
use Rattle.faults.specs.Laws.{is_offset}

-- x is the offset of one of the tokens
abbrev Of : List Token → ℕ → Type 0
Of ts x = is_offset x ts ≡ true

first : (t : Token) (ts : List Token) → Of (t ∷ ts) (offset_of t)
unfolding is_offset
first t ts = pick_yes _ _ _ (eq-eqb (offset_of t) (offset_of t) refl)

rest : (t : Token) (ts : List Token) (x : ℕ) → Of ts x → Of (t ∷ ts) x
unfolding is_offset
rest t ts x e = pick-cases (λ b. b ≡ true) (eqb x (offset_of t)) _ _ (λ _. refl) (λ _. e)

-- the offset of a fault that is met ahead
abbrev AheadOf : List Token → Ahead → Type 0
AheadOf ts (Ok None) = Unit
AheadOf ts (Ok (Some k)) = Unit
AheadOf ts (Err fault) = Of ts fault.at

rest-ahead : (t : Token) (ts : List Token) (a : Ahead) → AheadOf ts a → AheadOf (t ∷ ts) a
rest-ahead t ts (Ok None) e = tt
rest-ahead t ts (Ok (Some k)) e = tt
rest-ahead t ts (Err fault) e = rest t ts fault.at e

ahead_of : (s st : List ℕ) (ts : List Token) → AheadOf ts (ahead s st ts)
unfolding ahead
ahead_of s st [] = tt
ahead_of s st (Begin p a n next ∷ ts) = tt
ahead_of s st (Property p a n v l next ∷ ts) =
    pick-cases (AheadOf (Property p a n v l next ∷ ts)) _ _ _ (λ _. tt) (λ _. rest-ahead (Property p a n v l next) ts (ahead s st ts) (ahead_of s st ts))
ahead_of s st (EndNode p next ∷ ts) = tt
ahead_of s st (End p next ∷ ts) = first (End p next) ts
ahead_of s st (Fault p ∷ ts) = pick-cases (AheadOf (Fault p ∷ ts)) _ _ _ (λ _. tt) (λ _. first (Fault p) ts)

module _ (unowned : ℕ → Bool) (s st : List ℕ) (depth : ℕ) where
  -- the token that is sent from p on
  abbrev Sent : ℕ → ℕ → Type 0
  Sent below p = Of (tokens s st p) (offset_of (sent_of unowned s st depth below (tokens s st p)))

  look-of : (here other : Token) (a : Ahead) (ts : List Token) → Of ts (offset_of here) → Of ts (offset_of other) → AheadOf ts a → Of ts (offset_of (after_look unowned here other a))
  look-of here other (Ok None) ts e f g = e
  look-of here other (Ok (Some k)) ts e f g = pick-cases (λ t. Of ts (offset_of t)) (unowned k.0) _ _ (λ _. f) (λ _. e)
  look-of here other (Err fault) ts e f g = g

  token-of : (p : ℕ) → ((below next : ℕ) → length s - next < length s - p → Sent below next) → (t : Token) (below : ℕ) → Within s p t → Of (and_then (tokens s st) t) (offset_of (sent_of unowned s st depth below (and_then (tokens s st) t)))
  unfolding sent_of and_then
  token-of p later (Begin q a n next) zero w =
      let t = Begin q a n next in
      let ts = tokens s st next in
      pick-cases (λ x. Of (t ∷ ts) (offset_of x)) (is_looked_at depth) _ _
      (λ _. look-of t (sent_of unowned s st depth 1 ts) (ahead s st ts) (t ∷ ts) (first t ts) (rest t ts _ (later 1 next (omega arith))) (rest-ahead t ts (ahead s st ts) (ahead_of s st ts)))
      (λ _. first t ts)
  token-of p later (Property q a n v l next) zero w = first (Property q a n v l next) (tokens s st next)
  token-of p later (EndNode q next) zero w = first (EndNode q next) (tokens s st next)
  token-of p later (End q next) zero w = first (End q next) []
  token-of p later (Fault q) zero w = first (Fault q) []
  token-of p later (Begin q a n next) (suc below) w =
      let t = Begin q a n next in
      let ts = tokens s st next in
      pick-cases (λ x. Of (t ∷ ts) (offset_of x)) (leb 8 (depth + suc below)) _ _ (λ _. first t ts) (λ _. rest t ts _ (later (suc (suc below)) next (omega arith)))
  token-of p later (Property q a n v l next) (suc below) w = rest (Property q a n v l next) (tokens s st next) _ (later (suc below) next (omega arith))
  token-of p later (EndNode q next) (suc below) w = rest (EndNode q next) (tokens s st next) _ (later below next (omega arith))
  token-of p later (End q next) (suc below) w = first (End q next) []
  token-of p later (Fault q) (suc below) w = first (Fault q) []

  sent-upto : (k below p : ℕ) → length s - p < k → Sent below p
  sent-upto zero below p h = absurd (omega arith)
  sent-upto (suc k) below p h = rw (tokens-law s st p) (token-of p (λ below next l. sent-upto k below next (omega arith)) (token_at s st p) below (token-in s st p))

  pub sent-of : (place : ℕ) → Of (tokens s st place) (offset_of (next_sent unowned s st depth place))
  unfolding next_sent
  sent-of place = sent-upto (suc (length s - place)) 0 place (omega arith)

-- ---- where a token stands

module _ (s st : List ℕ) (p : ℕ) where
  abbrev Stands : Token → Type 0
  Stands t = offset_of t ≡ min p (length s)

  -- whatever becomes of a word that is there
  begin-stands : p ≡ min p (length s) → Stands (begin_at s p)
  unfolding begin_at begin_named
  begin-stands e = pick-cases Stands _ _ _ (λ _. e) (λ _. e)

  property-stands : p ≡ min p (length s) → Stands (property_at s st p)
  unfolding property_at property_named
  property-stands e = pick-cases Stands _ _ _ (λ _. e) (λ _. pick-cases Stands _ _ _ (λ _. e) (λ _. e))

  here-stands : Stands (token_of s st p (word_at s p))
  unfolding token_of fault_at
  here-stands =
      let k : ℕ = word_at s p in
      let there : (m : ℕ) → eqb k (suc m) ≡ true → p ≡ min p (length s) = λ m e. let r = word_in s p (λ z. omega (arith, eqb-true k (suc m) e)) in omega arith in
      pick-cases Stands (eqb k 1) _ _ (λ e. begin-stands (there 0 e))
      (λ _. pick-cases Stands (eqb k 2) _ _ (λ e. there 1 e)
      (λ _. pick-cases Stands (eqb k 3) _ _ (λ e. property-stands (there 2 e))
      (λ _. pick-cases Stands (eqb k 9) _ _ (λ e. there 8 e) (λ _. refl))))

pub token-stands : (s st : List ℕ) (at : ℕ) → offset_of (token_at s st at) ≡ min (skipped s at) (length s)
unfolding token_at
token-stands s st at = here-stands s st (skipped s at)
