-- What the loop over a node's properties learns: the names ahead, and the scan.
use mathlib.Core.Path.{◌≡◌, refl, sym, subst, ◌∙◌, ap}
use mathlib.Core.List.{List, [], ◌∷◌, ◌++◌, append-nil}
use mathlib.Core.Bool.{Bool, true, false}
use Prim.Native.Nat.{ℕ, zero, suc, ◌+◌, ◌-◌, ◌<◌, ◌≤◌}
use native.Mathlib.Omega.{arith}
use lib.ListN.{length}
use lib.Dec.{eqb, ltb}
use lib.Seq.{append_snoc}
use Rattle.std.specs.Prelude.{Some, None}
use borrow.Author.Tests.{eqb-true}
use Rattle.words.specs.Pick.{pick, every}
use Rattle.words.specs.Bytes.{part, word_at, name_length}
use Rattle.words.proofs.Pick.{pick-cases}
use Rattle.words.proofs.Bytes.{name-inside}
use Rattle.devtree.specs.Tokens.{past, skipped, begin_named, begin_at, property_named, property_at, token_of, token_at, and_then, tokens, fault_at}
use Rattle.devtree.specs.Tree.{Event, prop, events_of, events_from}
use Rattle.devtree.specs.Names.{among, distinct}
use Rattle.devtree.proofs.Tokens.{tokens-are, named, begin_tests, property_tests}
use Rattle.devtree.specs.declared.Token.{Token}
use Rattle.devtree.specs.declared.Token.TheVariants.{Begin, Property, EndNode, End, Fault}
use Rattle.name_order.specs.Order.{name_at, listed, HasName}
use Rattle.name_order.proofs.Names.{distinct-left, distinct-twin}
use Rattle.treecheck.specs.Scan.{strict, strict_at, scan_token, scan_from}
use Rattle.treecheck.specs.Lists.{props_ahead, kids_ahead, apart, node_from, PastProps, PropsFrom}
use Rattle.treecheck.proofs.Scan.{lies, scan-token}
use Rattle.treecheck.proofs.Past.{NoProperty, owned}
use Rattle.treecheck.proofs.Events.{own-token, prop-events}
use Rattle.treecheck.proofs.Twins.{none-listed}

-- ---- a property token

pub record Owned (s st : List ℕ) (p q name n next : ℕ) : Type 0 where
  pub at : ℕ
  pub size : ℕ
  pub token : strict_at s st p ≡ Property q name n at size next
  pub long : name_length 48 st name ≡ n
  pub has : HasName st name
  pub from : p ≤ q
  pub past : q + 12 ≤ next
  pub inside : next ≤ length s

-- the name of a property token stands where its third word says
abbrev NameWord : List ℕ → ℕ → Token → Type 0
NameWord s q (Begin p a n next) = Unit
NameWord s q (Property p a n v l next) = a ≡ word_at s (q + 8)
NameWord s q (EndNode p next) = Unit
NameWord s q (End p next) = Unit
NameWord s q (Fault p) = Unit

name-word : (s st : List ℕ) (q : ℕ) → NameWord s q (property_at s st q)
unfolding property_at property_named
name-word s st q =
    pick-cases (NameWord s q) (ltb (length s - q) 12) _ _ (λ e. tt)
    (λ e. pick-cases (NameWord s q) (property_tests (name_length 32 st (word_at s (q + 8))) (length st - word_at s (q + 8)) (word_at s (q + 4)) (length s - (q + 12))) _ _ (λ f. refl) (λ f. tt))

-- a token that is no property ends the properties ahead
none_ahead : (s st : List ℕ) (t : Token) → NoProperty t → props_ahead (events_of s st (and_then (tokens s st) t)) ≡ []
unfolding events_of and_then props_ahead
none_ahead s st (Begin p a n next) o = refl
none_ahead s st (Property p a n v l next) o = absurd o
none_ahead s st (EndNode p next) o = refl
none_ahead s st (End p next) o = refl
none_ahead s st (Fault p) o = refl

begin-none : (s : List ℕ) (q : ℕ) → NoProperty (begin_at s q)
unfolding begin_at begin_named
begin-none s q = pick-cases NoProperty (begin_tests (name_length 48 s (q + 4)) (length s - (q + 4))) _ _ (λ e. tt) (λ e. tt)

module _ (s st : List ℕ) (p q : ℕ) (here : q ≡ skipped s p) where
  property-here : word_at s q ≡ 3 → token_at s st p ≡ property_at s st q
  unfolding token_at token_of pick
  property-here is = rw (← here, is) refl

  pub owns : (r name n : ℕ) → word_at s q ≡ 3 → past (strict s (property_at s st q)) ≡ Some r → name ≡ word_at s (q + 8) → n ≡ name_length 32 st name → Owned s st p q name n r
  owns r name n is ends nm nl =
      let o = owned s st p q here is r ends in
      let t = o.4 in
      let own = own-token s st p _ tt t in
      let word : o.0 ≡ word_at s (q + 8) = subst (NameWord s q) (sym (property-here is) ∙ own) (name-word s st q) in
      let f = named s st p _ own in
      let same : o.0 ≡ name = word ∙ sym nm in
      let size : o.1 ≡ n = sym f.0 ∙ ap (name_length 32 st) same ∙ sym nl in
      let short : n ≤ 31 = rw size at f.2 in
      let long : name_length 48 st name ≡ n = name-inside 32 16 st name (omega arith) ∙ sym nl in
      let room : n < length st - name = rw (size, same) at f.3 in
      let w = lies s st p _ t in
      record { at = o.2; size = o.3; token = rw (same, size) at t; long = long; has = record { short = omega arith; inside = omega arith }; from = w.0; past = omega arith; inside = w.3 }

  -- a word that begins no property
  no-property-here : (word_at s q ≡ 3 → ⊥) → NoProperty (token_at s st p)
  unfolding token_at token_of fault_at
  no-property-here z =
      rw (← here)
      (pick-cases NoProperty (eqb (word_at s q) 1) _ _ (λ e. begin-none s q)
      (λ e. pick-cases NoProperty (eqb (word_at s q) 2) _ _ (λ f. tt)
      (λ f. pick-cases NoProperty (eqb (word_at s q) 3) _ _ (λ g. absurd (z (eqb-true _ _ g)))
      (λ g. pick-cases NoProperty (eqb (word_at s q) 9) _ _ (λ h. tt) (λ h. tt)))))

  pub no-props : (word_at s q ≡ 3 → ⊥) → props_ahead (events_from s st p) ≡ []
  unfolding events_from
  no-props z = rw (tokens-are s st p _ refl) (none_ahead s st (token_at s st p) (no-property-here z))

-- ---- the state of the loop

pub neither : (b : Bool) → pick b false false ≡ false
unfolding pick
neither true = refl
neither false = refl

pub props-tests : (s p k a : Bool) → every (s ∷ p ∷ k ∷ a ∷ []) ≡ every (pick p s false ∷ k ∷ a ∷ [])
unfolding every pick
props-tests true true k a = refl
props-tests true false k a = refl
props-tests false true k a = refl
props-tests false false k a = refl

-- where the names of the properties have twins, or the scan fails, no node goes on
no-props-node : (s st : List ℕ) (left at : ℕ) → pick (distinct (props_ahead (events_from s st at))) (scan_from s st left false at) false ≡ false → node_from s st left at ≡ false
unfolding node_from every pick
no-props-node s st left at e =
    let es : List Event = events_from s st at in
    props-tests (scan_from s st left false at) (distinct (props_ahead es)) (distinct (kids_ahead 0 es)) (apart es) ∙ rw e refl

-- the names from `base` to `top` are those of the properties from `at` to `p`
pub record Going (s st names : List ℕ) (at base p top : ℕ) : Type 0 where
  pub scan : (left : ℕ) → pick (distinct (props_ahead (events_from s st at))) (scan_from s st left false at) false
      ≡ pick (distinct (listed st names base (top - base) ++ props_ahead (events_from s st p))) (scan_from s st left false p) false
  pub kids : (depth : ℕ) → kids_ahead depth (events_from s st at) ≡ kids_ahead depth (events_from s st p)
  pub rest : apart (events_from s st at) ≡ apart (events_from s st p)

pub going_start : (s st names : List ℕ) (at base : ℕ) → Going s st names at base at base
going_start s st names at base = record { scan = λ left. rw (none-listed st names base) refl; kids = λ depth. refl; rest = refl }

prop-kids : (n v : List ℕ) (depth : ℕ) (es : List Event) → kids_ahead depth (prop n v ∷ es) ≡ kids_ahead depth es
unfolding kids_ahead
prop-kids n v zero es = refl
prop-kids n v (suc depth) es = refl

module _ (s st names : List ℕ) (at base p top : ℕ) (going : Going s st names at base p top) (later : at ≤ p) (inside : p ≤ length s) where
  -- no property follows
  pub going-ends : (q : ℕ) → q ≡ skipped s p → (word_at s q ≡ 3 → ⊥) → ((left : ℕ) → scan_from s st left false p ≡ scan_from s st left true p) → distinct (listed st names base (top - base)) ≡ true → PastProps s st at p
  unfolding pick
  going-ends q here z other e = record {
    later = later;
    inside = inside;
    scan = λ left. going.scan left ∙ rw (no-props s st p q here z, append-nil (listed st names base (top - base)), e) (other left);
    kids = going.kids;
    rest = going.rest;
  }

  -- the names met so far have twins
  pub going-twins : distinct (listed st names base (top - base)) ≡ false → PropsFrom s st at None
  unfolding pick
  going-twins e left = no-props-node s st left at (going.scan left ∙ rw (distinct-left (listed st names base (top - base)) (props_ahead (events_from s st p)) e) refl)

  -- the next token is a fault
  pub going-stuck : ((left : ℕ) → scan_from s st left false p ≡ false) → PropsFrom s st at None
  going-stuck f left = no-props-node s st left at (going.scan left ∙ rw (f left) (neither _))

  module _ (q name n next : ℕ) (o : Owned s st p q name n next) where
    taken : (left : ℕ) → scan_from s st left false p ≡ scan_from s st left false next
    unfolding scan_token pick
    taken left = scan-token s st left false p _ o.token

    event : events_from s st p ≡ prop (name_at st name) (part s o.at o.size) ∷ events_from s st next
    event = rw o.long (prop-events s st p q name n o.at o.size next o.token)

    -- the next property has a twin
    pub going-twin : among (name_at st name) (listed st names base (top - base)) ≡ true → PropsFrom s st at None
    unfolding props_ahead pick
    going-twin e left = no-props-node s st left at (going.scan left ∙ rw (event, distinct-twin (listed st names base (top - base)) (props_ahead (events_from s st next)) (name_at st name) e) refl)

    -- the next property is one of the list
    pub going_on : (names' : List ℕ) → base ≤ top → listed st names' base (top + 1 - base) ≡ listed st names base (top - base) ++ (name_at st name ∷ []) → Going s st names' at base next (top + 1)
    unfolding props_ahead apart
    going_on names' h e = record {
      scan = λ left. going.scan left ∙ rw (event, taken left, e, append_snoc (listed st names base (top - base)) (name_at st name) (props_ahead (events_from s st next))) refl;
      kids = λ depth. going.kids depth ∙ rw event (prop-kids _ _ depth _);
      rest = going.rest ∙ rw event refl;
    }
