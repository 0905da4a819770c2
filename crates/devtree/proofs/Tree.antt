-- The tree of a block that passes the check has just the block's events.
use mathlib.Core.Path.{◌≡◌, refl, ap, sym, ◌∙◌}
use mathlib.Core.List.{List, [], ◌∷◌, ◌++◌, append_assoc, append-nil}
use mathlib.Core.Bool.{Bool, true, false, false≢true}
use mathlib.Core.Logic.{⊎_elim}
use Prim.Native.Nat.{ℕ, suc, ◌+◌, ◌-◌, ◌≤◌}
use native.Mathlib.Omega.{arith}
use lib.ListN.{length}
use lib.Dec.{leb}
use borrow.Author.Tests.{leb-true, leb-false}
use Rattle.words.proofs.Pick.{pick-either, pick-unless, every-each}
use Rattle.devtree.specs.Tokens.{tokens}
use Rattle.devtree.specs.Tree.{Event, begin, prop, end, events_of, events_from, node, Body, empty_body, with_prop, with_node, bodies, innermost, tree_of, tree, prop_events, flatten}
use Rattle.devtree.specs.Check.{last_token, closes, one_root, ordered, well_formed, passes}
use Rattle.devtree.specs.declared.Token.{Token}
use Rattle.devtree.specs.declared.Token.TheVariants.{Begin, Property, EndNode, End, Fault}

abbrev body_events : Body → List Event
body_events b = prop_events b.props ++ flatten b.nodes

-- the events of the bodies around the innermost one
abbrev around : List Body → List Event
around [] = []
around (b ∷ bs) = end ∷ (body_events b ++ around bs)

-- no body has properties
abbrev Bare : List Body → Type 0
Bare [] = Unit
Bare (b ∷ bs) = (b.props ≡ []) × Bare bs

-- events that close `depth` nodes leave as many bodies around the innermost one; those have no properties, nor has the innermost after a child
record Open (depth : ℕ) (child : Bool) (es : List Event) : Type 0 where
  top : Body
  below : List Body
  are : bodies es ≡ top ∷ below
  deep : length below ≡ depth
  bare : Bare below
  first : child ≡ true → top.props ≡ []
  same : body_events top ++ around below ≡ es

open-end : (depth : ℕ) (child : Bool) (es : List Event) (below : List Body) → bodies es ≡ below → suc (length below) ≡ suc depth → Bare below → around below ≡ end ∷ es → Open depth child (end ∷ es)
unfolding bodies prop_events flatten
open-end depth child es below a d b s =
    record {
      top = empty_body;
      below = below;
      are = ap (◌∷◌ empty_body) a;
      deep = omega arith;
      bare = b;
      first = λ _. refl;
      same = s;
    }

open-prop : (depth : ℕ) (child : Bool) (n v : List ℕ) (es : List Event) → (child ≡ true → ⊥) → Open depth false es → Open depth child (prop n v ∷ es)
unfolding bodies with_prop prop_events
open-prop depth child n v es h o =
    record {
      top = record { props = record { name = n; value = v } ∷ o.top.props; nodes = o.top.nodes };
      below = o.below;
      are = rw o.are;
      deep = o.deep;
      bare = o.bare;
      first = λ e. absurd (h e);
      same = ap (◌∷◌ (prop n v)) o.same;
    }

open-begin : (depth : ℕ) (child : Bool) (n : List ℕ) (es : List Event) (t : Body) (bs : List Body) → bodies es ≡ t ∷ bs → length bs ≡ depth + 1 → Bare bs → body_events t ++ around bs ≡ es → Open depth child (begin n ∷ es)
unfolding bodies with_node prop_events flatten
open-begin depth child n es t [] a d b s = absurd (omega arith)
open-begin depth child n es t (c ∷ bs) a d b s =
    record {
      top = record { props = c.props; nodes = node n t.props t.nodes c.nodes };
      below = bs;
      are = rw a;
      deep = omega arith;
      bare = b.1;
      first = λ _. b.0;
      same = rw (← s, b.0) (simp append_assoc);
    }

bodies-none : bodies [] ≡ empty_body ∷ []
unfolding bodies
bodies-none = refl

around-none : around (empty_body ∷ []) ≡ end ∷ []
unfolding prop_events flatten
around-none = refl

pub ended : (s st : List ℕ) (ts : List Token) → last_token s ts ≡ true → events_of s st ts ≡ []
unfolding last_token events_of
ended s st [] e = absurd (false≢true e)
ended s st (Begin at a n next ∷ ts) e = absurd (false≢true e)
ended s st (Property at a n v l next ∷ ts) e = absurd (false≢true e)
ended s st (EndNode at next ∷ ts) e = absurd (false≢true e)
ended s st (End at next ∷ []) e = refl
ended s st (End at next ∷ (t ∷ ts)) e = absurd (false≢true e)
ended s st (Fault at ∷ ts) e = absurd (false≢true e)

opened : (s st : List ℕ) (depth : ℕ) (child : Bool) (ts : List Token) → 1 ≤ depth → closes s depth ts ≡ true → ordered child ts ≡ true → Open depth child (events_of s st ts)
unfolding closes ordered events_of
opened s st depth child [] h c o = absurd (false≢true c)
opened s st depth child (Begin at a n next ∷ ts) h c o =
    let r = opened s st (depth + 1) false ts (omega arith) c o in
    open-begin depth child _ _ r.top r.below r.are r.deep r.bare r.same
opened s st depth child (Property at a n v l next ∷ ts) h c o =
    let p = pick-unless child _ o in
    open-prop depth child _ _ _ (λ e. false≢true (sym p.0 ∙ e)) (opened s st depth false ts h c p.1)
opened s st depth child (EndNode at next ∷ ts) h c o =
    let more = opened s st (depth - 1) true ts in
    ⊎_elim
    (λ w. rw (ended s st ts w.1) (open-end depth child [] (empty_body ∷ []) bodies-none (omega (arith, leb-true)) (refl, tt) around-none))
    (λ w. let r = more (omega (arith, leb-false)) w.1 o in
    open-end depth child _ (r.top ∷ r.below) r.are (omega arith) (r.first refl, r.bare) (ap (◌∷◌ end) r.same))
    (pick-either (leb depth 1) _ _ c)
opened s st depth child (End at next ∷ ts) h c o = absurd (false≢true c)
opened s st depth child (Fault at ∷ ts) h c o = absurd (false≢true c)

-- one body without properties is left
alone : (es : List Event) (b : Body) (bs : List Body) → bodies es ≡ b ∷ bs → length bs ≡ 0 → b.props ≡ [] → body_events b ++ around bs ≡ es → flatten (tree_of es) ≡ es
unfolding tree_of innermost prop_events
alone es b [] a d p s = rw a (sym (append-nil (flatten b.nodes)) ∙ (rw p at s))
alone es b (c ∷ bs) a d p s = absurd (omega arith)

-- a tree of one root: the events are those of the tree
root-flat : (s st : List ℕ) (ts : List Token) → one_root s ts ≡ true → ordered false ts ≡ true → flatten (tree_of (events_of s st ts)) ≡ events_of s st ts
unfolding one_root ordered events_of tree_of innermost
root-flat s st [] r o = absurd (false≢true r)
root-flat s st (Begin at a n next ∷ ts) r o =
    let q = opened s st 1 false ts (omega arith) r o in
    let w = open-begin 0 true _ _ q.top q.below q.are q.deep q.bare q.same in
    alone _ w.top w.below w.are w.deep (w.first refl) w.same
root-flat s st (Property at a n v l next ∷ ts) r o = absurd (false≢true r)
root-flat s st (EndNode at next ∷ ts) r o = absurd (false≢true r)
root-flat s st (End at next ∷ ts) r o = absurd (false≢true r)
root-flat s st (Fault at ∷ ts) r o = absurd (false≢true r)

-- what passes the check is well formed
pub passes-formed : (s st : List ℕ) → passes s st ≡ true → well_formed s st ≡ true
unfolding passes
passes-formed s st e = (every-each _ e).0

-- the tree that well-formed blocks mean has the block's events and no others
pub formed-flat : (s st : List ℕ) → well_formed s st ≡ true → flatten (tree s st) ≡ events_from s st 0
unfolding well_formed tree events_from
formed-flat s st e =
    let f = every-each _ e in
    root-flat s st (tokens s st 0) f.1.1.1.0 f.1.1.1.1.1.1.0

-- so has the tree of blocks that pass the check
pub tree-flat : (s st : List ℕ) → passes s st ≡ true → flatten (tree s st) ≡ events_from s st 0
tree-flat s st e = formed-flat s st (passes-formed s st e)
