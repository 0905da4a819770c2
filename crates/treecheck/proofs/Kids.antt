-- What the loop over a node's children learns: the names ahead, and the scan.
use mathlib.Core.Path.{◌≡◌, refl, sym, subst, ◌∙◌, ap}
use mathlib.Core.List.{List, [], ◌∷◌, ◌++◌, append-nil}
use mathlib.Core.Bool.{Bool, true, false}
use Prim.Native.Nat.{ℕ, suc, ◌+◌, ◌-◌, ◌≤◌}
use native.Mathlib.Omega.{arith}
use lib.ListN.{length}
use lib.Seq.{append_snoc}
use Rattle.std.specs.Prelude.{Option, Some, None}
use borrow.Author.Tests.{ne_eqb}
use Rattle.words.specs.Pick.{pick, every}
use Rattle.words.specs.Bytes.{word_at, name_length}
use Rattle.words.proofs.Pick.{pick-cases, pick_same}
use Rattle.devtree.specs.Tokens.{up4, past, skipped, begin_named, begin_at, token_of, token_at, tokens}
use Rattle.devtree.specs.Check.{last_token}
use Rattle.devtree.proofs.Tree as devtree-tree
use Rattle.devtree.specs.Tree.{begin, end, events_of, events_from}
use Rattle.devtree.specs.Names.{among, distinct}
use Rattle.devtree.proofs.Tokens.{named, begin_tests}
use Rattle.devtree.specs.declared.Token.{Token}
use Rattle.devtree.specs.declared.Token.TheVariants.{Begin, Property, EndNode, End, Fault}
use Rattle.name_order.specs.Order.{name_at, listed, HasName}
use Rattle.name_order.proofs.Names.{distinct-twin}
use Rattle.treecheck.specs.Scan.{strict, strict_at, scan_token, scan_from, resume}
use Rattle.treecheck.specs.Lists.{kids_ahead, apart, node_from, children_from, resumed, Closed, PastProps, Kept}
use Rattle.treecheck.proofs.Scan.{lies, scan-token, resume-next}
use Rattle.treecheck.proofs.Past.{begun}
use Rattle.treecheck.proofs.Events.{own-token, begin-events, end-events}
use Rattle.treecheck.proofs.Twins.{none-listed}
use Rattle.treecheck.proofs.Props.{neither, props-tests}

-- ---- a begin-node token

pub record Opened (s st : List ℕ) (p q n next : ℕ) : Type 0 where
  pub token : strict_at s st p ≡ Begin q (q + 4) n next
  pub long : name_length 48 s (q + 4) ≡ n
  pub has : HasName s (q + 4)
  pub from : p ≤ q
  pub past : q + 8 ≤ next
  pub inside : next ≤ length s

abbrev NameSpace : ℕ → Token → Type 0
NameSpace q (Begin p a n next) = next ≡ q + 4 + up4 (n + 1)
NameSpace q (Property p a n v l next) = Unit
NameSpace q (EndNode p next) = Unit
NameSpace q (End p next) = Unit
NameSpace q (Fault p) = Unit

name-space : (s : List ℕ) (q : ℕ) → NameSpace q (begin_at s q)
unfolding begin_at begin_named
name-space s q = pick-cases (NameSpace q) (begin_tests (name_length 48 s (q + 4)) (length s - (q + 4))) _ _ (λ e. refl) (λ e. tt)

module _ (s st : List ℕ) (p q : ℕ) (here : q ≡ skipped s p) where
  begin-here : word_at s q ≡ 1 → token_at s st p ≡ begin_at s q
  unfolding token_at token_of pick
  begin-here is = rw (← here, is) refl

  pub opens : (r n : ℕ) → word_at s q ≡ 1 → past (strict s (begin_at s q)) ≡ Some r → n ≡ name_length 48 s (q + 4) → Opened s st p q n r
  opens r n is ends nl =
      let o = begun s st p q here is r ends in
      let t = o.2 in
      let own = own-token s st p _ tt t in
      let space : r ≡ q + 4 + up4 (o.1 + 1) = subst (NameSpace q) (sym (begin-here is) ∙ own) (name-space s q) in
      let f = named s st p _ own in
      let w = lies s st p _ t in
      let same : o.0 ≡ q + 4 = w.1 in
      let size : o.1 ≡ n = sym f.0 ∙ ap (name_length 48 s) same ∙ sym nl in
      let short : n ≤ 47 = rw size at f.2 in
      record { token = rw (same, size) at t; long = sym nl; has = record { short = omega arith; inside = omega arith }; from = w.0; past = omega arith; inside = w.3 }

-- ---- the tests in another order

node-tests : (s d a b c : Bool) → every (s ∷ d ∷ every (a ∷ b ∷ c ∷ []) ∷ []) ≡ pick d (every (s ∷ a ∷ b ∷ c ∷ [])) false
unfolding every pick
node-tests false d a b c = sym (neither d)
node-tests true false a b c = refl
node-tests true true false b c = refl
node-tests true true true false c = refl
node-tests true true true true false = refl
node-tests true true true true true = refl

row-tests : (d s a : Bool) → pick d (pick s a false) false ≡ every (s ∷ d ∷ a ∷ [])
unfolding every pick
row-tests true true true = refl
row-tests true true false = refl
row-tests true false a = refl
row-tests false true a = refl
row-tests false false a = refl

-- ---- the state of the loop

-- the names from `base` to `top` are those of the children from `at` to `p`
pub record Row (s st names : List ℕ) (left at base p top : ℕ) : Type 0 where
  pub scan : children_from s st left [] at ≡ children_from s st left (listed s names base (top - base)) p
  pub kids : (depth : ℕ) → kids_ahead (suc depth) (events_from s st at) ≡ kids_ahead (suc depth) (events_from s st p)

pub row-start : (s st names : List ℕ) (left at base : ℕ) → Row s st names left at base at base
row-start s st names left at base = record { scan = rw (none-listed s names base) refl; kids = λ depth. refl }

module _ (s st names : List ℕ) (left at base p top : ℕ) (row : Row s st names left at base p top) where
  abbrev list : List (List ℕ)
  list = listed s names base (top - base)

  -- the scan fails here
  pub row-stuck : scan_from s st left true p ≡ false → children_from s st left [] at ≡ false
  unfolding children_from every pick
  row-stuck e = row.scan ∙ rw e refl

  module _ (q : ℕ) (e : strict_at s st p ≡ EndNode q (q + 4)) where
    event : events_from s st p ≡ end ∷ events_from s st (q + 4)
    event = end-events s st p q (q + 4) e

    pub row_ends : distinct list ≡ true → children_from s st left [] at ≡ resumed s st left (Some (q + 4))
    unfolding children_from resumed resume scan_token kids_ahead apart every pick
    row_ends d = row.scan ∙ rw (event, append-nil list, d, scan-token s st left true p _ e) (ap (λ b. pick (resume s st left (Some (q + 4))) b false) (pick_same _))

    pub row-twins : distinct list ≡ false → children_from s st left [] at ≡ false
    unfolding children_from kids_ahead every pick
    row-twins d = row.scan ∙ rw (event, append-nil list, d) (neither (scan_from s st left true p))

    pub row-closed : Closed s st at (Some (q + 4))
    unfolding kids_ahead
    row-closed depth = row.kids depth ∙ rw event refl

  module _ (q n next : ℕ) (o : Opened s st p q n next) where
    begins : events_from s st p ≡ begin (name_at s (q + 4)) ∷ events_from s st next
    begins = rw o.long (begin-events s st p q (q + 4) n next o.token)

    entered : (left ≡ 0 → ⊥) → scan_from s st left true p ≡ scan_from s st (left - 1) false next
    unfolding scan_token pick
    entered z = scan-token s st left true p _ o.token ∙ simp (ne_eqb left 0 z)

    -- the next child has a twin
    pub row-twin : among (name_at s (q + 4)) list ≡ true → children_from s st left [] at ≡ false
    unfolding children_from kids_ahead every pick
    row-twin d = row.scan ∙ rw (begins, distinct-twin list (kids_ahead 1 (events_from s st next)) (name_at s (q + 4)) d) (neither (scan_from s st left true p))

    -- the next child is a node
    opened : (left ≡ 0 → ⊥) → children_from s st left [] at ≡ pick (distinct (list ++ (name_at s (q + 4) ∷ kids_ahead 1 (events_from s st next)))) (node_from s st (left - 1) next) false
    unfolding children_from node_from kids_ahead apart
    opened z = row.scan ∙ rw (begins, entered z) (node-tests (scan_from s st (left - 1) false next) _ _ _ _)

    pub row-bad : (left ≡ 0 → ⊥) → (r : Option ℕ) → r ≡ None → node_from s st (left - 1) next ≡ resumed s st (left - 1) r → children_from s st left [] at ≡ false
    unfolding resumed
    row-bad z r b e = opened z ∙ rw (e, b) (neither _)

    deeper : (depth : ℕ) → kids_ahead (suc depth) (events_from s st p) ≡ kids_ahead (suc (suc depth)) (events_from s st next)
    unfolding kids_ahead
    deeper depth = rw begins refl

    -- and its end is behind it
    module _ (names' : List ℕ) (past : ℕ) (e : listed s names' base (top + 1 - base) ≡ list ++ (name_at s (q + 4) ∷ [])) (f : node_from s st (left - 1) next ≡ resumed s st (left - 1) (Some past)) (c : Closed s st next (Some past)) where
      on : left ≤ 7 → (left ≡ 0 → ⊥) → pick (distinct (list ++ (name_at s (q + 4) ∷ kids_ahead 1 (events_from s st next)))) (node_from s st (left - 1) next) false ≡ children_from s st left (listed s names' base (top + 1 - base)) past
      unfolding children_from resumed
      on l z = rw (f, resume-next s st left past l z, c 0, e, append_snoc list (name_at s (q + 4)) (kids_ahead 0 (events_from s st past))) (row-tests _ _ _)

      pub row_on : left ≤ 7 → (left ≡ 0 → ⊥) → Row s st names' left at base past (top + 1)
      row_on l z = record { scan = opened z ∙ on l z; kids = λ depth. row.kids depth ∙ deeper depth ∙ c (suc depth) }

-- ---- a node is its properties and its children

pub props-node : (s st : List ℕ) (left at p : ℕ) → PastProps s st at p → node_from s st left at ≡ children_from s st left [] p
unfolding node_from children_from
props-node s st left at p f = props-tests (scan_from s st left false at) _ _ _ ∙ rw (f.scan left, f.kids 0, f.rest) refl

pub props-closed : (s st : List ℕ) (at p : ℕ) (r : Option ℕ) → PastProps s st at p → Closed s st p r → Closed s st at r
props-closed s st at p (Some next) f c = λ depth. f.kids (suc depth) ∙ c depth
props-closed s st at p None f c = tt

pub kept-both : (base at p : ℕ) (names names₁ names₂ marks marks₁ marks₂ : List ℕ) → at ≤ p → Kept base at names names₁ marks marks₁ → Kept base p names₁ names₂ marks₁ marks₂ → Kept base at names names₂ marks marks₂
kept-both base at p names names₁ names₂ marks marks₁ marks₂ h k l = record {
  below = λ i m. l.below i m ∙ k.below i m;
  raised = λ least i m g. l.raised least i (omega arith) (k.raised least i m g);
}

-- behind the root the last token says nothing
pub root-closed : (s st : List ℕ) (at : ℕ) → resumed s st 7 (Some at) ≡ last_token s (tokens s st at)
unfolding resumed resume events_from apart pick
root-closed s st at = go (last_token s (tokens s st at)) refl
  where
    go : (b : Bool) → last_token s (tokens s st at) ≡ b → pick (last_token s (tokens s st at)) (apart (events_of s st (tokens s st at))) false ≡ last_token s (tokens s st at)
    go true e = rw (e, devtree-tree.ended s st (tokens s st at) e) refl
    go false e = rw e refl
