-- The token that is sent next is one of the block's, or a fault.
use mathlib.Core.List.{List}
use mathlib.Core.Bool.{Bool}
use Prim.Native.Nat.{ℕ, zero, suc, ◌+◌, ◌-◌, ◌<◌, ◌≤◌}
use native.Mathlib.Omega.{arith}
use lib.ListN.{length}
use lib.Dec.{eqb, leb}
use Rattle.std.specs.Prelude.{Some, None, Ok, Err}
use Rattle.words.specs.Bytes.{part, word_at}
use Rattle.words.proofs.Pick.{pick-cases}
use Rattle.devtree.specs.Tokens.{token_at, tokens, and_then}
use Rattle.devtree.specs.declared.Token.{Token}
use Rattle.devtree.specs.declared.Token.TheVariants.{Begin, Property, EndNode, End, Fault}
use Rattle.devtree.proofs.Tokens.{Within, Named, tokens-law, token-in, token-named}
use Rattle.sent.specs.Sent.{Ahead, names_connector, ahead, is_looked_at, after_look, sent_of, next_sent}

-- P holds at the offset past a token
abbrev pub Past : (ℕ → Type 0) → Token → Type 0
Past P (Begin p a n next) = P next
Past P (Property p a n v l next) = P next
Past P (EndNode p next) = P next
Past P (End p next) = P next
Past P (Fault p) = Unit

-- the offset of a fault that is met ahead lies in the block
abbrev pub AheadIn : List ℕ → Ahead → Type 0
AheadIn s (Ok None) = Unit
AheadIn s (Ok (Some k)) = Unit
AheadIn s (Err fault) = fault.at ≤ length s

module _ (s st : List ℕ) where
  ahead-upto : (k p : ℕ) → length s - p < k → AheadIn s (ahead s st (tokens s st p))
  unfolding ahead and_then
  ahead-upto zero p h = absurd (omega arith)
  ahead-upto (suc k) p h = rw (tokens-law s st p) (go (token_at s st p) (token-in s st p) (λ next l. ahead-upto k next (omega arith)))
    where
      go : (t : Token) → Within s p t → ((next : ℕ) → length s - next < length s - p → AheadIn s (ahead s st (tokens s st next))) → AheadIn s (ahead s st (and_then (tokens s st) t))
      go (Begin q a n next) w later = tt
      go (Property q a n v l next) w later = pick-cases (AheadIn s) (names_connector (part st a n) l) _ _ (λ _. tt) (λ _. later next (omega arith))
      go (EndNode q next) w later = tt
      go (End q next) w later = omega arith
      go (Fault q) w later = pick-cases (AheadIn s) (eqb (word_at s q) 1) _ _ (λ _. tt) (λ _. w)

  pub ahead_in : (p : ℕ) → AheadIn s (ahead s st (tokens s st p))
  ahead_in p = ahead-upto (suc (length s - p)) p (omega arith)

-- the token at a place where P holds, or a fault in the block
pub data Lands (P : ℕ → Type 0) (s st : List ℕ) : Token → Type 0 where
  at : (q : ℕ) → P q → Lands P s st (token_at s st q)
  broken : (p : ℕ) → p ≤ length s → Lands P s st (Fault p)

-- P holds past every token at a place where it holds
module _ (unowned : ℕ → Bool) (s st : List ℕ) (P : ℕ → Type 0) (carries : (q : ℕ) → P q → Past P (token_at s st q)) (depth : ℕ) where
  look-lands : (here other : Token) (a : Ahead) → AheadIn s a → Lands P s st here → Lands P s st other → Lands P s st (after_look unowned here other a)
  look-lands here other (Ok None) i l m = l
  look-lands here other (Ok (Some k)) i l m = pick-cases (Lands P s st) (unowned k.0) _ _ (λ _. m) (λ _. l)
  look-lands here other (Err fault) i l m = broken fault.at i

  -- from past p on
  Later : ℕ → Type 0
  Later p = (below next : ℕ) → length s - next < length s - p → P next → Lands P s st (sent_of unowned s st depth below (tokens s st next))

  token-lands : (p : ℕ) → Later p → (t : Token) (below : ℕ) → Within s p t → Past P t → Lands P s st t → Lands P s st (sent_of unowned s st depth below (and_then (tokens s st) t))
  unfolding Later sent_of and_then
  token-lands p later (Begin q a n next) zero w r l =
      pick-cases (Lands P s st) (is_looked_at depth) _ _
      (λ _. look-lands (Begin q a n next) _ (ahead s st (tokens s st next)) (ahead_in s st next) l (later 1 next (omega arith) r))
      (λ _. l)
  token-lands p later (Property q a n v m next) zero w r l = l
  token-lands p later (EndNode q next) zero w r l = l
  token-lands p later (End q next) zero w r l = l
  token-lands p later (Fault q) zero w r l = l
  token-lands p later (Begin q a n next) (suc below) w r l =
      pick-cases (Lands P s st) (leb 8 (depth + suc below)) _ _ (λ _. broken q (omega arith)) (λ _. later (suc (suc below)) next (omega arith) r)
  token-lands p later (Property q a n v m next) (suc below) w r l = later (suc below) next (omega arith) r
  token-lands p later (EndNode q next) (suc below) w r l = later below next (omega arith) r
  token-lands p later (End q next) (suc below) w r l = broken q (omega arith)
  token-lands p later (Fault q) (suc below) w r l = broken q w

  lands-upto : (k below p : ℕ) → length s - p < k → P p → Lands P s st (sent_of unowned s st depth below (tokens s st p))
  unfolding Later
  lands-upto zero below p h i = absurd (omega arith)
  lands-upto (suc k) below p h i =
      rw (tokens-law s st p) (token-lands p (λ below next l j. lands-upto k below next (omega arith) j) (token_at s st p) below (token-in s st p) (carries p i) (at p i))

  pub sent-lands : (place : ℕ) → P place → Lands P s st (next_sent unowned s st depth place)
  unfolding next_sent
  sent-lands place i = lands-upto (suc (length s - place)) 0 place (omega arith) i

-- ---- so it lies within the block, past the place, and has its name

module _ (unowned : ℕ → Bool) (s st : List ℕ) (depth place : ℕ) where
  onward : (q : ℕ) → place ≤ q → Past (λ x. place ≤ x) (token_at s st q)
  onward q h = go (token_at s st q) (token-in s st q)
    where
      go : (t : Token) → Within s q t → Past (λ x. place ≤ x) t
      go (Begin p a n next) w = omega arith
      go (Property p a n v l next) w = omega arith
      go (EndNode p next) w = omega arith
      go (End p next) w = omega arith
      go (Fault p) w = tt

  lands : Lands (λ x. place ≤ x) s st (next_sent unowned s st depth place)
  lands = sent-lands unowned s st (λ x. place ≤ x) onward depth place (omega arith)

  within : (q : ℕ) → place ≤ q → (t : Token) → Within s q t → Within s place t
  within q h (Begin p a n next) w = omega arith
  within q h (Property p a n v l next) w = omega arith
  within q h (EndNode p next) w = omega arith
  within q h (End p next) w = omega arith
  within q h (Fault p) w = w

  by-landing : (t : Token) → Lands (λ x. place ≤ x) s st t → Within s place t × Named s st t
  by-landing t (at q h) = (within q h (token_at s st q) (token-in s st q), token-named s st q)
  by-landing t (broken p h) = (h, tt)

  pub sent-in : Within s place (next_sent unowned s st depth place)
  sent-in = (by-landing (next_sent unowned s st depth place) lands).0

  pub sent-named : Named s st (next_sent unowned s st depth place)
  sent-named = (by-landing (next_sent unowned s st depth place) lands).1
