-- Every event that is read from blocks has a good name, and a value that fits two pages.
use mathlib.Core.Path.{◌≡◌, refl}
use mathlib.Core.Bool.{Bool, true, false}
use mathlib.Core.List.{List}
use Prim.Native.Nat.{ℕ, zero, suc, ◌+◌, ◌-◌, ◌<◌, ◌≤◌}
use native.Mathlib.Omega.{arith}
use native.Mathlib.Nat.{add-zero}
use lib.ListN.{length, get_or, drop}
use lib.Seq.{get_or-take, get_or-drop}
use lib.Dec.{eqb}
use borrow.Author.Tests.{eqb-false}
use Rattle.words.specs.Pick.{pick}
use Rattle.words.specs.Bytes.{part, name_length}
use Rattle.buffer.proofs.Put.{length_part}
use Rattle.devtree.specs.Tokens.{token_at, tokens, and_then}
use Rattle.devtree.specs.Tree.{events_of, events_from}
use Rattle.devtree.specs.declared.Token.{Token}
use Rattle.devtree.specs.declared.Token.TheVariants.{Begin, Property, EndNode, End, Fault}
use Rattle.devtree.proofs.Tokens.{Within, Named, tokens-law, token-in, token-named}
use Rattle.emits.specs.Good.{GoodName, AllGood}

-- no byte of a name is 0
name-byte : (k : ℕ) (s : List ℕ) (a j : ℕ) → j < name_length k s a → get_or s (a + j) 0 ≡ 0 → ⊥
unfolding name_length pick
name-byte zero s a j h e = omega arith
name-byte (suc k) s a j h e = go (eqb (get_or s a 0) 0) refl j h e (name-byte k s (a + 1))
  where
    go : (b : Bool) → eqb (get_or s a 0) 0 ≡ b → (j : ℕ) → j < pick b 0 (suc (name_length k s (a + 1))) → get_or s (a + j) 0 ≡ 0 → ((i : ℕ) → i < name_length k s (a + 1) → get_or s (a + 1 + i) 0 ≡ 0 → ⊥) → ⊥
    go true f j h e later = omega arith
    go false f zero h e later = eqb-false (get_or s a 0) 0 f (rw add-zero at e)
    go false f (suc i) h e later = let up : a + suc i ≡ a + 1 + i = omega arith in later i (omega arith) (rw up at e)

good-name : (most k : ℕ) (s : List ℕ) (a n : ℕ) → name_length k s a ≡ n → 1 ≤ n → n ≤ most → n ≤ length s - a → GoodName most (part s a n)
unfolding part
good-name most k s a n e h l i =
    let long : length (part s a n) ≡ n = length_part s a n i in
    record {
      some = omega arith;
      few = omega arith;
      bytes =
          λ j g z. name-byte k s a j (omega arith) (rw (get_or-take n (drop a s) j 0 (omega arith), get_or-drop a s j 0) at z);
    }

-- a token's event, before those of what follows
good-then : (s st : List ℕ) (at : ℕ) (go : ℕ → List Token) → ((next : ℕ) → length s - next < length s - at → AllGood (events_of s st (go next))) → (t : Token) → Within s at t → Named s st t → AllGood (events_of s st (and_then go t))
unfolding events_of and_then
good-then s st at go more (Begin p a n next) w m = (good-name 47 48 s a n m.0 m.1 m.2 (omega arith), more next (omega arith))
good-then s st at go more (Property p a n v l next) w m =
    let short : length (part st a n) ≡ n = length_part st a n (omega arith) in
    let long : length (part s v l) ≡ l = length_part s v l (omega arith) in
    ((good-name 31 32 st a n m.0 m.1 m.2 (omega arith), omega arith), more next (omega arith))
good-then s st at go more (EndNode p next) w m = (tt, more next (omega arith))
good-then s st at go more (End p next) w m = tt
good-then s st at go more (Fault p) w m = tt

good-upto : (k : ℕ) (s st : List ℕ) (at : ℕ) → length s - at < k → AllGood (events_of s st (tokens s st at))
good-upto zero s st at h = absurd (omega arith)
good-upto (suc k) s st at h = rw (tokens-law s st at) (good-then s st at (tokens s st) (λ next l. good-upto k s st next (omega arith)) (token_at s st at) (token-in s st at) (token-named s st at))

pub good-events : (s st : List ℕ) (at : ℕ) → AllGood (events_from s st at)
unfolding events_from
good-events s st at = good-upto (suc (length s - at)) s st at (omega arith)
