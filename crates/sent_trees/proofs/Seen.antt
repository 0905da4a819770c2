-- What stands ahead in a node of a tree that passes the check, by its events.
use mathlib.Core.Path.{◌≡◌, refl, sym, ◌∙◌}
use mathlib.Core.List.{List, [], ◌∷◌}
use mathlib.Core.Bool.{Bool, true, false, false≢true}
use Prim.Native.Nat.{ℕ, zero, suc, ◌+◌, ◌-◌, ◌<◌, ◌≤◌}
use native.Mathlib.Omega.{arith}
use native.Mathlib.Nat.{add-zero}
use lib.ListN.{length, get_or, drop}
use lib.Seq.{get_or-take, get_or-drop}
use lib.Dec.{eqb}
use Rattle.std.specs.Prelude.{Some, None, Ok}
use borrow.Author.Tests.{eqb-true}
use Rattle.words.specs.Pick.{pick}
use Rattle.words.specs.Bytes.{part, word_here, word_at}
use Rattle.words.proofs.Pick.{every-each}
use Rattle.words.proofs.Bytes.{word-is}
use Rattle.buffer.proofs.Put.{length_part}
use Rattle.kinds.specs.declared.Index.{Index}
use Rattle.devtree.specs.Tokens.{token_at, tokens, and_then}
use Rattle.devtree.specs.Tree.{events_of}
use Rattle.devtree.specs.Check.{closes}
use Rattle.devtree.specs.Names.{same_name}
use Rattle.devtree.specs.declared.Token.{Token}
use Rattle.devtree.specs.declared.Token.TheVariants.{Begin, Property, EndNode, End, Fault}
use Rattle.devtree.proofs.Tokens.{Within, tokens-law, token-in}
use Rattle.sent.specs.Sent.{Ahead, my_drc_index, names_connector, ahead, after_look}
use Rattle.sent_trees.specs.Cut.{leaves_out}
use Rattle.sent_trees.proofs.Events.{unowned_ahead}

-- the word at the start of four bytes
word_of_part : (s : List ℕ) (v : ℕ) → 4 ≤ length s - v → word_at (part s v 4) 0 ≡ word_at s v
unfolding part
word_of_part s v h =
    let four : length (part s v 4) ≡ 4 = length_part s v 4 h in
    word-is (part s v 4) 0 (omega arith) ∙ same ∙ sym (word-is s v h)
  where
    byte : (i : ℕ) → i < 4 → get_or (part s v 4) i 0 ≡ get_or s (v + i) 0
    byte i l = rw (get_or-take 4 (drop v s) i 0 l, get_or-drop v s i 0)

    same : word_here (part s v 4) 0 ≡ word_here s v
    same = rw (byte 0 (omega arith), byte 1 (omega arith), byte 2 (omega arith), byte 3 (omega arith), add-zero)

-- there is no fault ahead, and the node is left out just if its events say so
pub data Seen (u : ℕ → Bool) : Ahead → Bool → Type 0 where
  nothing : Seen u (Ok None) false
  names : (k : Index) → Seen u (Ok (Some k)) (u k.0)

module _ (u : ℕ → Bool) (s st : List ℕ) where
  Later : ℕ → ℕ → Type 0
  Later depth p = (next : ℕ) → length s - next < length s - p → closes s depth (tokens s st next) ≡ true → Seen u (ahead s st (tokens s st next)) (unowned_ahead u (events_of s st (tokens s st next)))

  property-seen : (name value : List ℕ) (v l : ℕ) (a : Ahead) (b : Bool) → length value ≡ l → (l ≡ 4 → word_at value 0 ≡ word_at s v) → Seen u a b → Seen u (pick (names_connector name l) (Ok
      (Some (record { 0 = word_at s v }))) a) (pick (names_connector name (length value)) (u (word_at value 0)) b)
  unfolding pick names_connector
  property-seen name value v l a b e f r = rw e (go (names_connector name l) refl)
    where
      go : (x : Bool) → names_connector name l ≡ x → Seen u (pick x (Ok (Some (record { 0 = word_at s v }))) a) (pick x (u (word_at value 0)) b)
      go true q = rw (f (eqb-true l 4 (every-each (same_name name my_drc_index ∷ eqb l 4 ∷ []) q).1.0)) (names (record { 0 = word_at s v }))
      go false q = r

  token-seen : (depth p : ℕ) → Later depth p → (t : Token) → Within s p t → closes s depth (and_then (tokens s st) t) ≡ true → Seen u (ahead s st (and_then (tokens s st) t)) (unowned_ahead u (events_of s st (and_then (tokens s st) t)))
  unfolding Later ahead unowned_ahead events_of and_then closes
  token-seen depth p later (Begin q a n next) w c = nothing
  token-seen depth p later (Property q a n v l next) w c =
      let more = later next (omega arith) c in
      property-seen (part st a n) (part s v l) v l _ _ (length_part s v l (omega arith)) (λ e. rw e (word_of_part s v (omega arith))) more
  token-seen depth p later (EndNode q next) w c = nothing
  token-seen depth p later (End q next) w c = absurd (false≢true c)
  token-seen depth p later (Fault q) w c = absurd (false≢true c)

  seen-upto : (k depth p : ℕ) → length s - p < k → closes s depth (tokens s st p) ≡ true → Seen u (ahead s st (tokens s st p)) (unowned_ahead u (events_of s st (tokens s st p)))
  unfolding Later
  seen-upto zero depth p h c = absurd (omega arith)
  seen-upto (suc k) depth p h c =
      rw (tokens-law s st p) (token-seen depth p (λ next l d. seen-upto k depth next (omega arith) d) (token_at s st p) (token-in s st p) (rw (tokens-law s st p) at c))

  -- so the begin-node before is sent, or another token, by the events
  pub look-by-events : (depth p : ℕ) (here other : Token) → closes s depth (tokens s st p) ≡ true → after_look u here other (ahead s st (tokens s st p)) ≡ pick (unowned_ahead u (events_of s st (tokens s st p))) other here
  unfolding pick
  look-by-events depth p here other c = go (seen-upto (suc (length s - p)) depth p (omega arith) c)
    where
      go : {a : Ahead} {b : Bool} → Seen u a b → after_look u here other a ≡ pick b other here
      go nothing = refl
      go (names k) = refl

  -- and it is left out just if they say so
  pub ahead-same : (at depth : ℕ) → closes s depth (tokens s st at) ≡ true → leaves_out u (ahead s st (tokens s st at)) ≡ unowned_ahead u (events_of s st (tokens s st at))
  ahead-same at depth c = go (seen-upto (suc (length s - at)) depth at (omega arith) c)
    where
      go : {a : Ahead} {b : Bool} → Seen u a b → leaves_out u a ≡ b
      go nothing = refl
      go (names k) = refl
