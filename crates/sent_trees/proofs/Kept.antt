-- What the check says of the tokens of a block holds of those that are left of it, and their events are the ones that are sent.
use mathlib.Core.Path.{◌≡◌, refl, sym, ap, ◌∙◌}
use mathlib.Core.List.{List, [], ◌∷◌, ◌++◌, append_assoc, append-nil}
use mathlib.Core.Bool.{Bool, true, false, false≢true}
use mathlib.Core.Logic.{⊎_elim}
use Prim.Native.Nat.{ℕ, zero, suc, ◌+◌, ◌-◌, ◌%◌, ◌<◌, ◌≤◌}
use native.Mathlib.Omega.{arith}
use lib.ListN.{length, drop, length-append, length-drop}
use lib.Seq.{take_all}
use lib.Dec.{leb, ltb}
use borrow.Author.Tests.{eqb-true, eq-eqb, leb-false, lt-leb}
use Rattle.words.specs.Pick.{pick, every}
use Rattle.words.specs.Bytes.{part}
use Rattle.words.proofs.Pick.{both-picks, pick_yes, pick_no, pick-and, pick-unless, pick-either, every-each}
use Rattle.buffer.proofs.Put.{length_part}
use Rattle.devtree.specs.Tokens.{token_at, tokens, and_then}
use Rattle.devtree.specs.Tree.{Event, begin, prop, end, events_of, events_from}
use Rattle.devtree.specs.Check.{last_token, closes, one_root, nested, clean, padded, ordered, well_formed}
use Rattle.devtree.specs.declared.Token.{Token}
use Rattle.devtree.specs.declared.Token.TheVariants.{Begin, Property, EndNode, End, Fault}
use Rattle.devtree.proofs.Tokens.{tokens-law, tokens-are, lies}
use Rattle.sent_trees.specs.Trees.{at_next}
use Rattle.sent_trees.specs.Cut.{cut_from, cut}
use Rattle.sent_trees.proofs.Events.{sent_events}
use Rattle.sent_trees.proofs.Seen.{ahead-same}
use Rattle.sent_trees.proofs.Moved.{NoOps, here, no-ops, no-ops-four, tokens-past, Same, same-placed, same-no-ops, read, begin-there, begin-name, begin-clean, property-there, property-value, property-clean, end-there, last-there}

-- ---- what is left of a block

-- s' has from `to` on no more bytes than s from `at` on, and whole words
pub record Fits (s s' : List ℕ) (at to : ℕ) : Type 0 where
  pub size : length s' + at ≤ length s + to
  pub inside : to ≤ length s'
  pub four : (length s' - to) % 4 ≡ 0

-- s' from `to` on is what is left of s from `at` on: with `depth` nodes open, its tokens are as the check wants them and have these events
pub record Kept (s s' st : List ℕ) (at to depth : ℕ) (child : Bool) (es : List Event) (ts : List Token) : Type 0 where
  pub closed : closes s' depth ts ≡ true
  pub near : nested depth ts ≡ true
  pub zeros : padded s' ts ≡ true
  pub order : ordered child ts ≡ true
  pub events : events_of s' st ts ≡ es
  pub fits : Fits s s' at to

abbrev pub KeptAt : List ℕ → List ℕ → List ℕ → ℕ → ℕ → ℕ → Bool → List Event → Type 0
KeptAt s s' st at to depth child es = Kept s s' st at to depth child es (tokens s' st to)

-- after no-ops
gap-kept : (s s' st : List ℕ) (at to next x depth : ℕ) (child : Bool) (es : List Event) → NoOps s' to x → x + at ≤ next + to → KeptAt s s' st next x depth child es → KeptAt s s' st at to depth child es
gap-kept s s' st at to next x depth child es r h k =
    let f = no-ops-four r in
    rw (tokens-past st r) (record { closed = k.closed; near = k.near; zeros = k.zeros; order = k.order; events = k.events; fits = omega arith })

-- one token more, whose bytes stand in s' at `to`
module _ (s s' st : List ℕ) (at to next : ℕ) (same : Same s at s' to (next - at)) (depth : ℕ) (child : Bool) (es : List Event) where
  abbrev past : ℕ
  past = to + (next - at)

  begin-kept : (p a n : ℕ) → token_at s st at ≡ Begin p a n next → ltb depth 8 ≡ true → clean s (Begin p a n next) ≡ true → KeptAt s s' st next past (depth + 1) false es → KeptAt s s' st at to depth child (begin (part s a n) ∷ es)
  unfolding closes nested padded ordered events_of and_then
  begin-kept p a n e h z k =
      let r = read s st at _ e in
      rw (tokens-are s' st to _ (begin-there s s' st at to next same p a n e))
      (record {
        closed = k.closed;
        near = pick_yes _ _ _ h ∙ k.near;
        zeros = pick_yes _ _ _ (begin-clean s s' st at to next same p a n e ∙ z) ∙ k.zeros;
        order = k.order;
        events = rw (begin-name s s' st at to next same p a n e, k.events);
        fits = omega arith;
      })

  property-kept : (p a n v l : ℕ) → token_at s st at ≡ Property p a n v l next → child ≡ false → clean s (Property p a n v l next) ≡ true → KeptAt s s' st next past depth false es → KeptAt s s' st at to depth child (prop (part st a n) (part s v l) ∷ es)
  unfolding closes nested padded ordered events_of and_then
  property-kept p a n v l e h z k =
      let i = (read s st at _ e).lies in
      let w = (read s st at _ e).words in
      let f = (read s st at _ e).gap in
      rw (tokens-are s' st to _ (property-there s s' st at to next same p a n v l e))
      (record {
        closed = k.closed;
        near = k.near;
        zeros = pick_yes _ _ _ (property-clean s s' st at to next same p a n v l e ∙ z) ∙ k.zeros;
        order = pick_no _ _ _ h ∙ k.order;
        events = rw (property-value s s' st at to next same p a n v l e, k.events);
        fits = omega arith;
      })

  -- by what follows an end-node: other tokens, or the last one
  module _ (p : ℕ) (e : token_at s st at ≡ EndNode p next) where
    end_kept : leb depth 1 ≡ false → KeptAt s s' st next past (depth - 1) true es → KeptAt s s' st at to depth child (end ∷ es)
    unfolding closes nested padded ordered events_of and_then clean pick
    end_kept h k =
        let r = read s st at _ e in
        rw (tokens-are s' st to _ (end-there s s' st at to next same p e))
        (record { closed = rw h k.closed; near = k.near; zeros = k.zeros; order = k.order; events = ap (◌∷◌ end) k.events; fits = omega arith })

    root_kept : (q : ℕ) → leb depth 1 ≡ true → token_at s' st past ≡ End q (length s') → Fits s s' next past → KeptAt s s' st at to depth child (end ∷ [])
    unfolding closes last_token nested padded ordered events_of and_then clean pick
    root_kept q h l g =
        let r = read s st at _ e in
        rw (tokens-are s' st to _ (end-there s s' st at to next same p e), tokens-are s' st past _ l)
        (record { closed = rw h (eq-eqb (length s') (length s') refl); near = refl; zeros = refl; order = refl; events = refl; fits = omega arith })

-- ---- the tokens of a block, one after the other

-- what the check says of tokens of s, with so many nodes open
record Left (s : List ℕ) (nodes : ℕ) (child : Bool) (ts : List Token) : Type 0 where
  closed : closes s nodes ts ≡ true
  near : nested nodes ts ≡ true
  zeros : padded s ts ≡ true
  order : ordered child ts ≡ true

-- past one token
module _ (s : List ℕ) (nodes : ℕ) (child : Bool) (ts : List Token) where
  left-begin : (p a n next : ℕ) → Left s nodes child (Begin p a n next ∷ ts) → Left s (nodes + 1) false ts
  unfolding closes nested padded ordered
  left-begin p a n next l = record { closed = l.closed; near = (pick-and _ _ l.near).1; zeros = (pick-and _ _ l.zeros).1; order = l.order }

  left-property : (p a n v m next : ℕ) → Left s nodes child (Property p a n v m next ∷ ts) → Left s nodes false ts
  unfolding closes nested padded ordered
  left-property p a n v m next l = record { closed = l.closed; near = l.near; zeros = (pick-and _ _ l.zeros).1; order = (pick-unless child _ l.order).1 }

  left_end : (p next : ℕ) → closes s (nodes - 1) ts ≡ true → Left s nodes child (EndNode p next ∷ ts) → Left s (nodes - 1) true ts
  unfolding nested padded ordered clean pick
  left_end p next c l = record { closed = c; near = l.near; zeros = l.zeros; order = l.order }

last-is : (s st : List ℕ) (at : ℕ) → last_token s (tokens s st at) ≡ true → (q : ℕ) × (token_at s st at ≡ End q (length s))
unfolding last_token and_then
last-is s st at e = go (token_at s st at) refl (rw (tokens-law s st at) at e)
  where
    go : (t : Token) → token_at s st at ≡ t → last_token s (and_then (tokens s st) t) ≡ true → (q : ℕ) × (token_at s st at ≡ End q (length s))
    go (Begin p a n next) i l = absurd (false≢true l)
    go (Property p a n v m next) i l = absurd (false≢true l)
    go (EndNode p next) i l = absurd (false≢true l)
    go (End p next) i l = (p, rw (← eqb-true next (length s) l) i)
    go (Fault p) i l = absurd (false≢true l)

module _ (s st : List ℕ) where
  -- what is left of the tokens from `at` on stands after the bytes `pre`
  abbrev Keeps : List (ℕ → Bool) → List ℕ → ℕ → ℕ → ℕ → Bool → List Token → Type 0
  Keeps us pre depth below at child ts = KeptAt s (pre ++ cut_from us s st depth below at ts) st at (length pre) depth child (sent_events us depth below (events_of s st ts))

  -- so from past `at` on. Where no property may stand in s', none may in s
  abbrev Later : ℕ → Type 0
  Later at =
      (us : List (ℕ → Bool)) (pre : List ℕ) (depth below nodes next : ℕ) (before child : Bool)
      → length s - next < length s - at → 1 ≤ depth → nodes ≡ depth + below → (below ≡ 0 → before ≡ false → child ≡ false)
      → Left s nodes before (tokens s st next) → Keeps us pre depth below next child (tokens s st next)

  module _ (at : ℕ) (later : Later at) (us : List (ℕ → Bool)) (pre : List ℕ) (depth : ℕ) (child : Bool) where
    -- after bytes that stay
    after : (us' : List (ℕ → Bool)) (to depth' below nodes next : ℕ) (before child' : Bool)
        → (at ≤ to) × (to ≤ next) × (at < next) × (next ≤ length s) × (1 ≤ depth') × (nodes ≡ depth' + below) → (below ≡ 0 → before ≡ false → child' ≡ false) → Left s nodes before (tokens s st next)
        → KeptAt s (pre ++ (part s at (to - at) ++ cut_from us' s st depth' below next (tokens s st next))) st next (length pre + (to - at)) depth' child' (sent_events us' depth' below (events_of s st (tokens s st next)))
    after us' to depth' below nodes next before child' h f l =
        let bytes : List ℕ = part s at (to - at) in
        rw (append_assoc pre bytes (cut_from us' s st depth' below next (tokens s st next)), length-append pre bytes, length_part s at (to - at) (omega arith))
        at (later us' (pre ++ bytes) depth' below nodes next before child' (omega arith) (omega arith) (omega arith) f l)

    -- a begin-node that is sent
    send-begin : (p a n next : ℕ) (before : Bool) → token_at s st at ≡ Begin p a n next → Left s depth before (Begin p a n next ∷ tokens s st next)
        → KeptAt s (pre ++ (part s at (next - at) ++ cut_from (drop 1 us) s st (depth + 1) 0 next (tokens s st next))) st at (length pre) depth child (begin (part s a n) ∷ sent_events (drop 1 us) (depth + 1) 0 (events_of s st (tokens s st next)))
    unfolding nested padded
    send-begin p a n next before e l =
        let i = lies s st at _ e in
        begin-kept s _ st at (length pre) next (same-placed pre _ s at (next - at) (omega arith)) depth child _ p a n e (pick-and _ _ l.near).0 (pick-and _ _ l.zeros).0
        (after (drop 1 us) next (depth + 1) 0 (depth + 1) next false false (omega arith) (λ z g. g) (left-begin s depth before _ p a n next l))

    module _ (deep : 1 ≤ depth) where
      -- one that is left out: the no-ops before it stay
      cut-begin : (p a n next : ℕ) (before : Bool) → token_at s st at ≡ Begin p a n next → Left s depth before (Begin p a n next ∷ tokens s st next)
          → KeptAt s (pre ++ (part s at (p - at) ++ cut_from us s st depth 1 next (tokens s st next))) st at (length pre) depth child (sent_events us depth 1 (events_of s st (tokens s st next)))
      cut-begin p a n next before e l =
          let r = read s st at _ e in
          let gap : NoOps s at p = rw r.words.0 (no-ops s at) in
          let same = same-placed pre (cut_from us s st depth 1 next (tokens s st next)) s at (p - at) (omega arith) in
          gap-kept s _ st at (length pre) next (length pre + (p - at)) depth child _ (same-no-ops _ (length pre) (p - at) gap (omega arith) same) (omega arith)
          (after us p depth 1 (depth + 1) next false child (omega arith) (λ z. absurd (omega arith)) (left-begin s depth before _ p a n next l))

      -- the root's end-node, after which all bytes stay
      on-root : (p next q : ℕ) → token_at s st at ≡ EndNode p next → leb depth 1 ≡ true → token_at s st next ≡ End q (length s) → KeptAt s (pre ++ (part s at (next - at) ++ drop next s)) st at (length pre) depth child (end ∷ [])
      unfolding part
      on-root p next q e d t =
          let i = lies s st at _ e in
          let r = read s st next _ t in
          let bytes : List ℕ = part s at (next - at) in
          let tail : List ℕ = drop next s in
          let s' : List ℕ = pre ++ (bytes ++ tail) in
          let past : ℕ = length pre + (next - at) in
          let long : length bytes ≡ next - at = length_part s at (next - at) (omega arith) in
          let size : length s' ≡ past + (length s - next) = omega (arith, length-append pre (bytes ++ tail), length-append bytes tail, length-drop next s) in
          let all : part s next (length s - next) ++ [] ≡ tail = append-nil (part s next (length s - next)) ∙ take_all (length s - next) tail (omega (arith, length-drop next s)) in
          let same : Same s next s' past (length s - next) = rw (all, append_assoc pre bytes tail, length-append pre bytes, long) at (same-placed (pre ++ bytes) [] s next (length s - next) (omega arith)) in
          root_kept s s' st at (length pre) next (same-placed pre tail s at (next - at) (omega arith)) depth child [] p e (past + (q - next)) d (rw size (last-there s s' st next past (length s) same q t)) (omega arith)

      -- a token that is in no node that is left out
      abbrev Sends : Token → Type 0
      Sends t = (before : Bool) → (before ≡ false → child ≡ false) → token_at s st at ≡ t → Left s depth before (and_then (tokens s st) t) → Keeps us pre depth 0 at child (and_then (tokens s st) t)

      on-begin : (p a n next : ℕ) → Sends (Begin p a n next)
      unfolding closes cut_from events_of sent_events and_then
      on-begin p a n next before f e l =
          rw (ahead-same (at_next us) s st next (depth + 1) l.closed)
          (both-picks (λ (bytes : List ℕ) (es : List Event). KeptAt s (pre ++ bytes) st at (length pre) depth child es) _ (cut-begin p a n next before e l) (send-begin p a n next before e l))

      on-property : (p a n v m next : ℕ) → Sends (Property p a n v m next)
      unfolding padded ordered cut_from events_of sent_events and_then
      on-property p a n v m next before f e l =
          let i = lies s st at _ e in
          property-kept s _ st at (length pre) next (same-placed pre _ s at (next - at) (omega arith)) depth child _ p a n v m e (f (pick-unless before _ l.order).0) (pick-and _ _ l.zeros).0
          (after (drop 1 us) next depth 0 depth next false false (omega arith) (λ z g. g) (left-property s depth before _ p a n v m next l))

      on-end : (p next : ℕ) → Sends (EndNode p next)
      unfolding closes cut_from events_of sent_events and_then
      on-end p next before f e l =
          let i = lies s st at _ e in
          ⊎_elim
          (λ y. let last = last-is s st next y.1 in rw (tokens-are s st next _ last.1) (on-root p next last.0 e y.0 last.1))
          (λ (y : (leb depth 1 ≡ false) × (closes s (depth - 1) (tokens s st next) ≡ true)).
          let more : 2 ≤ depth = leb-false depth 1 y.0 in
          end_kept s _ st at (length pre) next (same-placed pre _ s at (next - at) (omega arith)) depth child _ p e y.0
          (after (drop 1 us) next (depth - 1) 0 (depth - 1) next true true (omega arith) (λ z g. g) (left_end s depth before _ p next y.1 l)))
          (pick-either (leb depth 1) (last_token s (tokens s st next)) (closes s (depth - 1) (tokens s st next)) l.closed)

      -- past a token of a node that is left out
      skip : (below nodes next : ℕ) (before : Bool) → (at < next) × (next ≤ length s) × (nodes ≡ depth + below) → (below ≡ 0 → before ≡ true) → Left s nodes before (tokens s st next)
          → KeptAt s (pre ++ cut_from us s st depth below next (tokens s st next)) st at (length pre) depth child (sent_events us depth below (events_of s st (tokens s st next)))
      skip below nodes next before h f l =
          gap-kept s _ st at (length pre) next (length pre) depth child _ here (omega arith)
          (later us pre depth below nodes next before child (omega arith) deep (omega arith) (λ z g. absurd (false≢true (sym g ∙ f z))) l)

      on-token : (t : Token) (below nodes : ℕ) (before : Bool) → (below ≡ 0 → before ≡ false → child ≡ false) → nodes ≡ depth + below → token_at s st at ≡ t
          → Left s nodes before (and_then (tokens s st) t) → Keeps us pre depth below at child (and_then (tokens s st) t)
      unfolding closes cut_from events_of sent_events and_then pick
      on-token (Begin p a n next) zero nodes before f d e l = let same : nodes ≡ depth = omega arith in on-begin p a n next before (f refl) e (rw same at l)
      on-token (Property p a n v m next) zero nodes before f d e l = let same : nodes ≡ depth = omega arith in on-property p a n v m next before (f refl) e (rw same at l)
      on-token (EndNode p next) zero nodes before f d e l = let same : nodes ≡ depth = omega arith in on-end p next before (f refl) e (rw same at l)
      on-token (Begin p a n next) (suc below) nodes before f d e l =
          let i = lies s st at _ e in
          skip (suc (suc below)) (nodes + 1) next false (omega arith) (λ z. absurd (omega arith)) (left-begin s nodes before _ p a n next l)
      on-token (Property p a n v m next) (suc below) nodes before f d e l =
          let i = lies s st at _ e in
          skip (suc below) nodes next false (omega arith) (λ z. absurd (omega arith)) (left-property s nodes before _ p a n v m next l)
      on-token (EndNode p next) (suc below) nodes before f d e l =
          let i = lies s st at _ e in
          let more : leb nodes 1 ≡ false = lt-leb nodes 1 (omega arith) in
          skip below (nodes - 1) next true (omega arith) (λ z. refl) (left_end s nodes before _ p next (rw more at l.closed) l)
      on-token (End p next) below nodes before f d e l = absurd (false≢true l.closed)
      on-token (Fault p) below nodes before f d e l = absurd (false≢true l.closed)

  kept-upto : (k : ℕ) (us : List (ℕ → Bool)) (pre : List ℕ) (depth below nodes at : ℕ) (before child : Bool)
      → length s - at < k → 1 ≤ depth → nodes ≡ depth + below → (below ≡ 0 → before ≡ false → child ≡ false)
      → Left s nodes before (tokens s st at) → Keeps us pre depth below at child (tokens s st at)
  kept-upto zero us pre depth below nodes at before child h deep d f l = absurd (omega arith)
  kept-upto (suc k) us pre depth below nodes at before child h deep d f l =
      rw (tokens-law s st at)
      (on-token at (λ us pre depth below nodes next before child less. kept-upto k us pre depth below nodes next before child (omega arith)) us pre depth child deep
      (token_at s st at) below nodes before f d refl (rw (tokens-law s st at) at l))

  kept-later : (at : ℕ) → Later at
  kept-later at us pre depth below nodes next before child less = kept-upto (suc (length s - next)) us pre depth below nodes next before child (omega arith)

-- ---- the whole block

cut-tokens : (us : List (ℕ → Bool)) (s st : List ℕ) (t : Token) → token_at s st 0 ≡ t
    → one_root s (and_then (tokens s st) t) ≡ true → nested 0 (and_then (tokens s st) t) ≡ true → padded s (and_then (tokens s st) t) ≡ true → ordered false (and_then (tokens s st) t) ≡ true
    → Keeps s st us [] 0 0 0 false (and_then (tokens s st) t)
unfolding one_root closes nested padded ordered cut_from events_of sent_events and_then every pick
cut-tokens us s st (Begin p a n next) e r near zeros order =
    let l : Left s 0 false (Begin p a n next ∷ tokens s st next) = record { closed = r; near = near; zeros = zeros; order = order } in
    send-begin s st 0 (kept-later s st 0) us [] 0 false p a n next false e l
cut-tokens us s st (Property p a n v l next) e r near zeros order = absurd (false≢true r)
cut-tokens us s st (EndNode p next) e r near zeros order = absurd (false≢true r)
cut-tokens us s st (End p next) e r near zeros order = absurd (false≢true r)
cut-tokens us s st (Fault p) e r near zeros order = absurd (false≢true r)

pub cut-kept : (us : List (ℕ → Bool)) (s st : List ℕ) → well_formed s st ≡ true → KeptAt s (cut us s st) st 0 0 0 false (sent_events us 0 0 (events_from s st 0))
unfolding well_formed cut events_from
cut-kept us s st e =
    let law = tokens-law s st 0 in
    let f = every-each _ e in
    rw law (cut-tokens us s st (token_at s st 0) refl (rw law at f.1.1.1.0) (rw law at f.1.1.1.1.0) (rw law at f.1.1.1.1.1.0) (rw law at f.1.1.1.1.1.1.0))
