-- The next token that is sent in a walk of a tree that passes the check: no fault is met, and what is skipped on the way to it are the events that are not sent.
use mathlib.Core.Path.{◌≡◌, refl, sym, ◌∙◌}
use mathlib.Core.List.{List, [], ◌∷◌}
use mathlib.Core.Bool.{Bool, true, false, false≢true}
use Prim.Native.Nat.{ℕ, zero, suc, ◌+◌, ◌-◌, ◌<◌, ◌≤◌, ◌%◌}
use native.Mathlib.Omega.{arith}
use lib.ListN.{length, drop}
use lib.Dec.{leb, ltb}
use borrow.Author.Tests.{leb-true, ltb-true, lt-leb, lt-ltb}
use Rattle.words.specs.Pick.{pick, every}
use Rattle.words.specs.Bytes.{part}
use Rattle.words.proofs.Pick.{pick-and, pick-unless, pick_no}
use Rattle.devtree.specs.Tokens.{token_at, tokens, and_then}
use Rattle.devtree.specs.Tree.{Event, begin, prop, end, events_of, events_from}
use Rattle.devtree.specs.Check.{closes, one_root, nested, ordered}
use Rattle.devtree.specs.declared.Token.{Token}
use Rattle.devtree.specs.declared.Token.TheVariants.{Begin, Property, EndNode, End, Fault}
use Rattle.devtree.proofs.Tokens.{Within, tokens-law, token-in}
use Rattle.sent.specs.Sent.{is_looked_at, sent_of, next_sent}
use Rattle.sent_trees.specs.Trees.{at_next}
use Rattle.sent_trees.proofs.Events.{unowned_ahead, sent_events}
use Rattle.emits.proofs.Fours.{Fours, token-four}
use Rattle.sent_trees.proofs.Seen.{look-by-events}

-- tokens that close the `depth` nodes that are open; where none is open, they are a tree
pub record Rest (s : List ℕ) (depth : ℕ) (ts : List Token) : Type 0 where
  pub root : depth ≡ 0 → one_root s ts ≡ true
  pub closed : closes s depth ts ≡ true
  pub near : nested depth ts ≡ true

-- what follows an end-node may as well follow anything else
pub order-any : (b : Bool) (ts : List Token) → ordered b ts ≡ true → ordered false ts ≡ true
unfolding ordered pick
order-any b [] o = refl
order-any b (Begin p a n next ∷ ts) o = o
order-any b (Property p a n v l next ∷ ts) o = (pick-unless b _ o).1
order-any b (EndNode p next ∷ ts) o = o
order-any b (End p next ∷ ts) o = o
order-any b (Fault p ∷ ts) o = o

module _ (s st : List ℕ) where
  -- what is sent once the token t is taken, with `depth` nodes open before
  abbrev pub OnceTaken : List (ℕ → Bool) → ℕ → Token → List Event
  OnceTaken us depth (Begin p a n next) = begin (part s a n) ∷ sent_events us (depth + 1) 0 (events_from s st next)
  OnceTaken us depth (Property p a n v l next) = prop (part st a n) (part s v l) ∷ sent_events us depth 0 (events_from s st next)
  OnceTaken us depth (EndNode p next) = end ∷ sent_events us (depth - 1) 0 (events_from s st next)
  OnceTaken us depth (End p next) = []
  OnceTaken us depth (Fault p) = []

  -- a property that is sent stands at p itself, where nothing was skipped
  abbrev pub Direct : ℕ → ℕ → Bool → Token → Type 0
  Direct p below child (Begin q a n next) = Unit
  Direct p below child (Property q a n v l next) = (below ≡ 0) × (child ≡ false) × (token_at s st p ≡ Property q a n v l next)
  Direct p below child (EndNode q next) = Unit
  Direct p below child (End q next) = Unit
  Direct p below child (Fault q) = Unit

  -- t is the first token that is sent from p on, with `depth` nodes open that are sent, and in them `below` that are not; `child` says that an end-node stands just before p
  pub record Landed (u : ℕ → Bool) (p depth below : ℕ) (child : Bool) (t : Token) : Type 0 where
    pub place : ℕ
    pub is : token_at s st place ≡ t
    pub four : place % 4 ≡ 0
    pub onward : p ≤ place
    pub rest : Rest s depth (and_then (tokens s st) t)
    pub after : Bool
    pub order : ordered after (and_then (tokens s st) t) ≡ true
    pub events : (us : List (ℕ → Bool)) → at_next us ≡ u → sent_events us depth below (events_from s st p) ≡ OnceTaken (drop 1 us) depth t
    pub direct : Direct p below child t

  -- a token that is skipped, before the first that is sent: no property is sent just after it
  direct-never : (p next below below' : ℕ) (child child' : Bool) (t : Token) → (below' ≡ 0 → child' ≡ true) → Direct next below' child' t → Direct p below child t
  direct-never p next below below' child child' (Begin q a n to) h d = tt
  direct-never p next below below' child child' (Property q a n v l to) h d = absurd (false≢true (sym d.1 ∙ h d.0))
  direct-never p next below below' child child' (EndNode q to) h d = tt
  direct-never p next below below' child child' (End q to) h d = tt
  direct-never p next below below' child child' (Fault q) h d = tt

  module _ (u : ℕ → Bool) (depth : ℕ) where
    skipped : {next below' : ℕ} {child' : Bool} {t : Token} (p below : ℕ) (child : Bool) → Landed u next depth below' child' t → p ≤ next → (below' ≡ 0 → child' ≡ true)
        → ((us : List (ℕ → Bool)) → at_next us ≡ u → sent_events us depth below (events_from s st p) ≡ sent_events us depth below' (events_from s st next))
        → Landed u p depth below child t
    skipped {next} {below'} {child'} {t} p below child l h never same =
        record {
          place = l.place;
          is = l.is;
          four = l.four;
          onward = omega (arith, l.onward);
          rest = l.rest;
          after = l.after;
          order = l.order;
          events = λ us q. same us q ∙ l.events us q;
          direct = direct-never p next below below' child child' t never l.direct;
        }

    -- the token at p is sent
    module _ (p : ℕ) (child : Bool) (t : Token) (is : token_at s st p ≡ t) (four : p % 4 ≡ 0) (rest : Rest s depth (and_then (tokens s st) t)) (order : ordered child (and_then (tokens s st) t) ≡ true) where
      itself : ((us : List (ℕ → Bool)) → at_next us ≡ u → sent_events us depth 0 (events_from s st p) ≡ OnceTaken (drop 1 us) depth t) → Direct p 0 child t → Landed u p depth 0 child t
      itself e d = record { place = p; is = is; four = four; onward = omega arith; rest = rest; after = child; order = order; events = e; direct = d }

    -- from past p on, with d nodes open in all
    Later : ℕ → Type 0
    Later p = (below next d : ℕ) (child : Bool) → length s - next < length s - p → next % 4 ≡ 0 → d ≡ depth + below → (1 ≤ below → 1 ≤ depth) → Rest s d (tokens s st next)
        → ordered child (tokens s st next) ≡ true → Landed u next depth below child (sent_of u s st depth below (tokens s st next))

    module _ (p : ℕ) (later : Later p) (child : Bool) (four : p % 4 ≡ 0) where
      -- what is to be shown of the token t at p
      abbrev At : ℕ → Token → Type 0
      At below t = (d : ℕ) → d ≡ depth + below → (1 ≤ below → 1 ≤ depth) → token_at s st p ≡ t → Within s p t → Fours t
          → events_from s st p ≡ events_of s st (and_then (tokens s st) t) → Rest s d (and_then (tokens s st) t) → ordered child (and_then (tokens s st) t) ≡ true
          → Landed u p depth below child (sent_of u s st depth below (and_then (tokens s st) t))

      -- the begin-node of a node that is left out, or is sent
      module _ (q a n next : ℕ) (is : token_at s st p ≡ Begin q a n next) (w : Within s p (Begin q a n next)) (f : next % 4 ≡ 0) (few : depth < 8) (rest : Rest s depth
          (Begin q a n next ∷ tokens s st next)) (order : ordered child (Begin q a n next ∷ tokens s st next) ≡ true) (ev : events_from s st p ≡ begin (part s a n) ∷ events_from s st next) where
        by-look : (x : Bool) → leb 1 depth ≡ x → (y : Bool) → unowned_ahead u (events_from s st next) ≡ y → Landed u p depth 0 child (pick (is_looked_at depth) (pick y (sent_of u s st depth 1 (tokens s st next)) (Begin q a n next)) (Begin q a n next))
        unfolding Later and_then closes nested ordered sent_events every pick
        by-look false e y h =
            rw e
            (itself p child (Begin q a n next) is four rest order
            (λ us g. rw (ev, e)) tt)
        by-look true e false h =
            rw (e, lt-ltb depth 8 few)
            (itself p child (Begin q a n next) is four rest order
            (λ us g. rw (ev, e, g, h)) tt)
        by-look true e true h =
            rw (e, lt-ltb depth 8 few)
            (skipped p 0 child
            (later 1 next (depth + 1) false (omega arith) f refl (λ _. leb-true 1 depth e)
            (record { root = λ z. absurd (omega arith); closed = rest.closed; near = (pick-and (ltb depth 8) _ rest.near).1 }) order)
            (omega arith) (λ z. absurd (omega arith))
            (λ us g. rw (ev, e, g, h)))

      on-begin : (q a n next : ℕ) → At 0 (Begin q a n next)
      unfolding Later sent_of and_then closes nested ordered events_of events_from
      on-begin q a n next d o deep is w f ev r g =
          let z = pick-and (ltb d 8) _ r.near in
          let y = ltb-true d 8 z.0 in
          let same : d ≡ depth = omega arith in
          rw (look-by-events u s st (d + 1) next (Begin q a n next) (sent_of u s st depth 1 (tokens s st next)) r.closed)
          (by-look q a n next is w f (omega arith) (rw same at r) g ev (leb 1 depth) refl (unowned_ahead u (events_from s st next)) refl)

      on-property : (q a n v l next : ℕ) → At 0 (Property q a n v l next)
      unfolding sent_of and_then ordered events_of events_from sent_events
      on-property q a n v l next d o deep is w f ev r g =
          let same : d ≡ depth = omega arith in
          itself p child (Property q a n v l next) is four (rw same at r) g (λ us _. rw ev) (refl, (pick-unless child _ g).0, is)

      on-end : (q next : ℕ) → At 0 (EndNode q next)
      unfolding sent_of and_then ordered events_of events_from sent_events
      on-end q next d o deep is w f ev r g =
          let same : d ≡ depth = omega arith in
          itself p child (EndNode q next) is four (rw same at r) g (λ us _. rw ev) tt

      -- a token of a node that is left out
      in-begin : (below q a n next : ℕ) → At (suc below) (Begin q a n next)
      unfolding Later sent_of and_then closes nested ordered events_of events_from sent_events pick
      in-begin below q a n next d o deep is w f ev r g =
          let z = pick-and (ltb d 8) _ r.near in
          let y = ltb-true d 8 z.0 in
          rw (lt-leb 8 (depth + suc below) (omega arith))
          (skipped p (suc below) child
          (later (suc (suc below)) next (d + 1) false (omega arith) f (omega arith) (λ _. deep (omega arith)) (record { root = λ x. absurd (omega arith); closed = r.closed; near = z.1 }) g)
          (omega arith) (λ x. absurd (omega arith)) (λ us _. rw ev))

      in-property : (below q a n v l next : ℕ) → At (suc below) (Property q a n v l next)
      unfolding Later sent_of and_then closes nested ordered events_of events_from sent_events
      in-property below q a n v l next d o deep is w f ev r g =
          skipped p (suc below) child
          (later (suc below) next d false (omega arith) f o deep (record { root = λ x. absurd (omega arith); closed = r.closed; near = r.near }) (pick-unless child _ g).1)
          (omega arith) (λ x. absurd (omega arith)) (λ us _. rw ev)

      in_end : (below q next : ℕ) → At (suc below) (EndNode q next)
      unfolding Later sent_of and_then closes nested ordered events_of events_from sent_events
      in_end below q next d o deep is w f ev r g =
          let h : 1 ≤ depth = deep (omega arith) in
          let inner : closes s (d - 1) (tokens s st next) ≡ true = sym (pick_no _ _ _ (lt-leb d 1 (omega arith))) ∙ r.closed in
          skipped p (suc below) child
          (later below next (d - 1) true (omega arith) f (omega arith) (λ _. h) (record { root = λ x. absurd (omega arith); closed = inner; near = r.near }) g)
          (omega arith) (λ _. refl) (λ us _. rw ev)

      at-token : (below : ℕ) (t : Token) → At below t
      unfolding and_then closes
      at-token zero (Begin q a n next) = on-begin q a n next
      at-token zero (Property q a n v l next) = on-property q a n v l next
      at-token zero (EndNode q next) = on-end q next
      at-token zero (End q next) = λ d o deep is w f ev r g. absurd (false≢true r.closed)
      at-token zero (Fault q) = λ d o deep is w f ev r g. absurd (false≢true r.closed)
      at-token (suc below) (Begin q a n next) = in-begin below q a n next
      at-token (suc below) (Property q a n v l next) = in-property below q a n v l next
      at-token (suc below) (EndNode q next) = in_end below q next
      at-token (suc below) (End q next) = λ d o deep is w f ev r g. absurd (false≢true r.closed)
      at-token (suc below) (Fault q) = λ d o deep is w f ev r g. absurd (false≢true r.closed)

    lands-upto : (k p : ℕ) → length s - p < k → (below d : ℕ) (child : Bool) → p % 4 ≡ 0 → d ≡ depth + below → (1 ≤ below → 1 ≤ depth) → Rest s d (tokens s st p)
        → ordered child (tokens s st p) ≡ true → Landed u p depth below child (sent_of u s st depth below (tokens s st p))
    unfolding Later events_from
    lands-upto zero p h below d child f o deep r g = absurd (omega arith)
    lands-upto (suc k) p h below d child f o deep r g =
        rw (tokens-law s st p)
        (at-token p (λ below next d child l. lands-upto k next (omega arith) below d child) child f below (token_at s st p) d o deep refl (token-in s st p) (token-four s st p f) (rw
        (tokens-law s st p)) (rw (tokens-law s st p) at r) (rw (tokens-law s st p) at g))

    pub lands : (p : ℕ) → p % 4 ≡ 0 → Rest s depth (tokens s st p) → ordered false (tokens s st p) ≡ true → Landed u p depth 0 false (next_sent u s st depth p)
    unfolding next_sent
    lands p f r g = lands-upto (suc (length s - p)) p (omega arith) 0 depth false f (omega arith) (λ z. absurd (omega arith)) r g
