-- The token that is sent from a place on is what becomes of the token there, or the one that is sent from further on.
use mathlib.Core.Path.{◌≡◌, refl, ◌∙◌}
use mathlib.Core.List.{List}
use mathlib.Core.Bool.{Bool, true, false}
use Prim.Native.Nat.{ℕ, zero, suc, ◌+◌, ◌-◌, ◌<◌}
use native.Mathlib.Omega.{arith}
use native.Mathlib.Numerals.{add-one, sub-one}
use lib.ListN.{length}
use lib.Dec.{leb}
use Rattle.std.specs.Prelude.{Option, Some, None, Result, Ok, Err}
use borrow.Author.Tests.{lt-leb}
use Rattle.words.specs.Pick.{pick}
use Rattle.words.proofs.Pick.{pick-cases}
use Rattle.devtree.specs.Tokens.{token_at, tokens, and_then}
use Rattle.devtree.specs.declared.Broken.{Broken}
use Rattle.devtree.specs.declared.Token.{Token}
use Rattle.devtree.specs.declared.Token.TheVariants.{Begin, Property, EndNode, End, Fault}
use Rattle.devtree.proofs.Tokens.{Within, tokens-law, token-in}
use Rattle.sent.specs.Sent.{Ahead, ahead, is_looked_at, after_look, sent_of}
use Rattle.past_node.specs.Past.{past_node}
use Rattle.next_sent.specs.Turns.{Turn, past_turn, look_turn, begun, met}

-- the next token stands further on
abbrev pub Onward : List ℕ → ℕ → Turn → Type 0
Onward s p (Ok None) = Unit
Onward s p (Err fault) = Unit
Onward s p (Ok (Some at)) = length s - at < length s - p

module _ (unowned : ℕ → Bool) (s st : List ℕ) (depth : ℕ) where
  -- the token that is sent, by what becomes of the token t
  abbrev pub sends : Token → Turn → Token
  sends t (Ok None) = t
  sends t (Err fault) = Fault fault.at
  sends t (Ok (Some at)) = sent_of unowned s st depth 0 (tokens s st at)

  -- ---- past a node that is left out, with `below` nodes open in it
  abbrev after_past : Result ℕ Broken → Token
  after_past (Ok at) = sent_of unowned s st depth 0 (tokens s st at)
  after_past (Err fault) = Fault fault.at

  -- the token that is sent, and that the node's end stands further on
  abbrev Skips : ℕ → ℕ → Type 0
  Skips below p = (sent_of unowned s st depth (suc below) (tokens s st p) ≡ after_past (past_node depth (suc below) (tokens s st p))) × Onward s p (past_turn (past_node depth (suc below) (tokens s st p)))

  Later : ℕ → Type 0
  Later p = (below next : ℕ) → length s - next < length s - p → Skips below next

  -- what stands further on from past p stands further on from p
  further : (p next : ℕ) (r : Result ℕ Broken) → length s - next < length s - p → Onward s next (past_turn r) → Onward s p (past_turn r)
  unfolding past_turn
  further p next (Ok at) h o = omega arith
  further p next (Err fault) h o = tt

  by-test : (b : Bool) (p : ℕ) (t t' : Token) (r r' : Result ℕ Broken) → (t ≡ after_past r) × Onward s p (past_turn r) → (t' ≡ after_past r') × Onward s p (past_turn r') → (pick b t t' ≡ after_past (pick b r r')) × Onward s p (past_turn (pick b r r'))
  unfolding pick
  by-test true p t t' r r' x y = x
  by-test false p t t' r r' x y = y

  token-skips : (p : ℕ) → Later p → (below : ℕ) (t : Token) → Within s p t
      → (sent_of unowned s st depth (suc below) (and_then (tokens s st) t) ≡ after_past (past_node depth (suc below) (and_then (tokens s st) t))) × Onward s p (past_turn (past_node depth (suc below) (and_then (tokens s st) t)))
  unfolding Later sent_of past_node and_then past_turn pick
  token-skips p later below (Begin at a n next) w =
      let more = later (suc below) next (omega arith) in
      rw add-one (by-test (leb 8 (depth + suc below)) p _ _ _ _ (refl, tt) (more.0, further p next (past_node depth (suc (suc below)) (tokens s st next)) (omega arith) more.1))
  token-skips p later below (Property at a n v l next) w = let more = later below next (omega arith) in (more.0, further p next (past_node depth (suc below) (tokens s st next)) (omega arith) more.1)
  token-skips p later zero (EndNode at next) w = (refl, omega arith)
  token-skips p later (suc below) (EndNode at next) w =
      let more = later below next (omega arith) in
      rw (lt-leb (suc (suc below)) 1 (omega arith), sub-one) (more.0, further p next (past_node depth (suc below) (tokens s st next)) (omega arith) more.1)
  token-skips p later below (End at next) w = (refl, tt)
  token-skips p later below (Fault at) w = (refl, tt)

  skips-upto : (k below p : ℕ) → length s - p < k → Skips below p
  unfolding Later
  skips-upto zero below p h = absurd (omega arith)
  skips-upto (suc k) below p h = rw (tokens-law s st p) (token-skips p (λ below next l. skips-upto k below next (omega arith)) below (token_at s st p) (token-in s st p))

  skips : (p : ℕ) → Skips 0 p
  skips p = skips-upto (suc (length s - p)) 0 p (omega arith)

  -- ---- what becomes of a token
  past-sends : (here : Token) (r : Result ℕ Broken) → after_past r ≡ sends here (past_turn r)
  unfolding past_turn
  past-sends here (Ok at) = refl
  past-sends here (Err fault) = refl

  -- the token that is sent from the begin-node `here` on, by what stands ahead of it
  look-sends : (here : Token) (next : ℕ) (a : Ahead) → after_look unowned here (sent_of unowned s st depth 1 (tokens s st next)) a ≡ sends here (look_turn unowned s st depth next a)
  unfolding look_turn pick
  look-sends here next (Ok None) = refl
  look-sends here next (Ok (Some k)) = go (unowned k.0) ((skips next).0 ∙ past-sends here (past_node depth 1 (tokens s st next)))
    where
      go : (b : Bool) → sent_of unowned s st depth 1 (tokens s st next) ≡ sends here (past_turn (past_node depth 1 (tokens s st next)))
          → pick b (sent_of unowned s st depth 1 (tokens s st next)) here ≡ sends here (pick b (past_turn (past_node depth 1 (tokens s st next))) (Ok None))
      go true e = e
      go false e = refl
  look-sends here next (Err fault) = refl

  begin-sends : (here : Token) (next : ℕ) → pick (is_looked_at depth) (after_look unowned here (sent_of unowned s st depth 1 (tokens s st next)) (ahead s st (tokens s st next))) here ≡ sends here (begun unowned s st depth next)
  unfolding begun pick
  begin-sends here next = go (is_looked_at depth)
    where
      go : (b : Bool) → pick b (after_look unowned here (sent_of unowned s st depth 1 (tokens s st next)) (ahead s st (tokens s st next))) here ≡ sends here (pick b (look_turn unowned s st depth next (ahead s st (tokens s st next))) (Ok None))
      go true = look-sends here next (ahead s st (tokens s st next))
      go false = refl

  pub met-sends : (t : Token) → sent_of unowned s st depth 0 (and_then (tokens s st) t) ≡ sends t (met unowned s st depth t)
  unfolding sent_of and_then met
  met-sends (Begin at a n next) = begin-sends (Begin at a n next) next
  met-sends (Property at a n v l next) = refl
  met-sends (EndNode at next) = refl
  met-sends (End at next) = refl
  met-sends (Fault at) = refl

  looked-on : (p next : ℕ) (a : Ahead) → length s - next < length s - p → Onward s p (look_turn unowned s st depth next a)
  unfolding look_turn
  looked-on p next (Ok None) l = tt
  looked-on p next (Ok (Some k)) l = pick-cases (Onward s p) (unowned k.0) _ _ (λ _. further p next (past_node depth 1 (tokens s st next)) l (skips next).1) (λ _. tt)
  looked-on p next (Err fault) l = tt

  pub met-on : (p : ℕ) (t : Token) → Within s p t → Onward s p (met unowned s st depth t)
  unfolding met begun
  met-on p (Begin at a n next) w = pick-cases (Onward s p) (is_looked_at depth) _ _ (λ _. looked-on p next (ahead s st (tokens s st next)) (omega arith)) (λ _. tt)
  met-on p (Property at a n v l next) w = tt
  met-on p (EndNode at next) w = tt
  met-on p (End at next) w = tt
  met-on p (Fault at) w = tt

-- a token that begins no node is sent
pub met-other : (u : ℕ → Bool) (s st : List ℕ) (depth : ℕ) (t : Token) → ((p a n next : ℕ) → t ≡ Begin p a n next → ⊥) → Ok None ≡ met u s st depth t
unfolding met
met-other u s st depth (Begin p a n next) o = absurd (o p a n next refl)
met-other u s st depth (Property p a n v l next) o = refl
met-other u s st depth (EndNode p next) o = refl
met-other u s st depth (End p next) o = refl
met-other u s st depth (Fault p) o = refl

-- where a look ahead names no connector
pub none-named : {A : Type 0} (o : Option A) → ((k : A) → o ≡ Some k → ⊥) → o ≡ None
none-named (Some k) n = absurd (n k refl)
none-named None n = refl
