-- Two trees in step: what the next token of each says, and what is left to compare after it.
use mathlib.Core.Path.{◌≡◌, refl, subst, ◌∙◌}
use mathlib.Core.List.{List}
use mathlib.Core.Bool.{Bool, false}
use Prim.Native.Nat.{ℕ, ◌+◌, ◌-◌, ◌≤◌}
use native.Mathlib.Omega.{arith}
use lib.Dec.{eqb}
use Rattle.std.specs.Prelude.{Option, Some, None, is_some}
use borrow.Author.Tests.{ne_eqb}
use Rattle.words.specs.Pick.{pick}
use Rattle.words.specs.Bytes.{part}
use Rattle.words.proofs.Pick.{pick-cases, pick_yes, pick_no}
use Rattle.devtree.specs.Tokens.{token_at, and_then, tokens}
use Rattle.devtree.specs.Tree.{events_of, events_from}
use Rattle.devtree.proofs.Tokens.{Within, token-in, tokens-law}
use Rattle.devtree.specs.declared.Token.{Token}
use Rattle.devtree.specs.declared.Token.TheVariants.{Begin, Property, EndNode, End, Fault}
use Rattle.treecheck.specs.Scan.{Between}
use Rattle.same_trees.specs.Same.{same_bytes}
use Rattle.token_pairs.specs.Pairs.{open_pair, equal_pair, close_pair, pair_of, pair_at}
use Rattle.token_pairs.specs.declared.Places.{Places}
use Rattle.token_pairs.specs.declared.Pair.{Pair}
use Rattle.token_pairs.specs.declared.Pair.TheVariants.{Open, Equal, Close, Unlike}
use Rattle.treecompare.specs.Lockstep.{in_step, in_step_from, resume, roots_of}

-- the first tree's place moves forward, within its block
abbrev pub Ahead : List ℕ → ℕ → Pair → Type 0
Ahead s at (Open p) = Between s at p.a
Ahead s at (Equal p) = Between s at p.a
Ahead s at (Close p) = Between s at p.a
Ahead s at Unlike = Unit

module _ (s st s' st' : List ℕ) where
  -- what is left to compare after a pair, inside nodes in which `left` levels may be nested
  abbrev pub after : ℕ → Pair → Bool
  after left (Open p) = pick (eqb left 0) false (in_step_from s st s' st' (left - 1) p)
  after left (Equal p) = in_step_from s st s' st' left p
  after left (Close p) = resume s st s' st' left (Some p)
  after left Unlike = false

  -- what holds of the pair of two tokens: what is left to compare after it, and where the place moves
  abbrev Tokens : ℕ → Token → Token → Pair → Type 0
  Tokens at t t' r =
      ((left : ℕ) → in_step left (events_of s st (and_then (tokens s st) t)) (events_of s' st' (and_then (tokens s' st') t')) ≡ after left r)
      × Ahead s at r

  tokens-paired : (at : ℕ) (t t' : Token) → Within s at t → Tokens at t t' (pair_of s st t s' st' t')
  unfolding pair_of open_pair equal_pair close_pair in_step in_step_from resume events_of events_from and_then
  tokens-paired at (Begin p a n next) (Begin p' a' n' next') w =
      pick-cases (Tokens at (Begin p a n next) (Begin p' a' n' next')) (same_bytes (part s a n) (part s' a' n')) _ _
      (λ e. (λ left. pick_yes _ _ _ e, record { more = omega arith; inside = omega arith }))
      (λ e. (λ left. pick_no _ _ _ e, tt))
  tokens-paired at (Begin p a n next) (Property p' a' n' v' l' next') w = (λ left. refl, tt)
  tokens-paired at (Begin p a n next) (EndNode p' next') w = (λ left. refl, tt)
  tokens-paired at (Begin p a n next) (End p' next') w = (λ left. refl, tt)
  tokens-paired at (Begin p a n next) (Fault p') w = (λ left. refl, tt)
  tokens-paired at (Property p a n v l next) (Begin p' a' n' next') w = (λ left. refl, tt)
  tokens-paired at (Property p a n v l next) (Property p' a' n' v' l' next') w =
      pick-cases (Tokens at (Property p a n v l next) (Property p' a' n' v' l' next')) (same_bytes (part st a n) (part st' a' n')) _ _
      (λ e. pick-cases (Tokens at (Property p a n v l next) (Property p' a' n' v' l' next')) (same_bytes (part s v l) (part s' v' l')) _ _
      (λ f. (λ left. pick_yes _ _ _ e ∙ pick_yes _ _ _ f, record { more = omega arith; inside = omega arith }))
      (λ f. (λ left. pick_yes _ _ _ e ∙ pick_no _ _ _ f, tt)))
      (λ e. (λ left. pick_no _ _ _ e, tt))
  tokens-paired at (Property p a n v l next) (EndNode p' next') w = (λ left. refl, tt)
  tokens-paired at (Property p a n v l next) (End p' next') w = (λ left. refl, tt)
  tokens-paired at (Property p a n v l next) (Fault p') w = (λ left. refl, tt)
  tokens-paired at (EndNode p next) (Begin p' a' n' next') w = (λ left. refl, tt)
  tokens-paired at (EndNode p next) (Property p' a' n' v' l' next') w = (λ left. refl, tt)
  tokens-paired at (EndNode p next) (EndNode p' next') w = (λ left. refl, record { more = omega arith; inside = omega arith })
  tokens-paired at (EndNode p next) (End p' next') w = (λ left. refl, tt)
  tokens-paired at (EndNode p next) (Fault p') w = (λ left. refl, tt)
  tokens-paired at (End p next) t' w = (λ left. refl, tt)
  tokens-paired at (Fault p) t' w = (λ left. refl, tt)

  pub paired : (p : Places) (r : Pair) → pair_at s st s' st' p ≡ r → ((left : ℕ) → in_step_from s st s' st' left p ≡ after left r) × Ahead s p.a r
  unfolding pair_at in_step_from events_from
  paired p r e =
      let t : Token = token_at s st p.a in
      let t' : Token = token_at s' st' p.b in
      let w = subst (Tokens p.a t t') e (tokens-paired p.a t t' (token-in s st p.a)) in
      (λ left. rw (tokens-law s st p.a, tokens-law s' st' p.b) (w.0 left), w.1)

  -- ---- two nodes that are closed, or differ

  pub resume-some : (left : ℕ) (r : Option Places) (p : Places) → r ≡ Some p → left ≤ 7 → (left ≡ 0 → ⊥) → resume s st s' st' (left - 1) r ≡ in_step_from s st s' st' left p
  unfolding resume
  resume-some left r p e h i =
      let up : left - 1 + 1 ≡ left = omega arith in
      rw e (pick_no _ _ _ (ne_eqb (left - 1) 7 (λ z. omega arith)) ∙ rw up)

  pub resume-root : (r : Option Places) → resume s st s' st' 7 r ≡ is_some r
  unfolding resume pick
  resume-root (Some p) = refl
  resume-root None = refl

  pub resume-none : (left : ℕ) (r : Option Places) → r ≡ None → resume s st s' st' left r ≡ false
  unfolding resume
  resume-none left r e = rw e

  -- roots by other pairs
  pub roots-other : (r : Pair) → ((p : Places) → r ≡ Open p → ⊥) → roots_of s st s' st' r ≡ false
  unfolding roots_of
  roots-other (Open p) o = absurd (o p refl)
  roots-other (Equal p) o = refl
  roots-other (Close p) o = refl
  roots-other Unlike o = refl
