-- The roots of two blocks that pass the check are in step exactly where the two trees are the same.
use mathlib.Core.Path.{◌≡◌, refl, ap, ap₂, sym, subst, ◌∙◌}
use mathlib.Core.List.{List, [], ◌∷◌}
use mathlib.Core.Bool.{Bool, true, false, false≢true}
use mathlib.Core.Logic.{◌⊎◌, inl, inr, ⊎_elim}
use Prim.Native.Nat.{ℕ, ◌+◌, ◌-◌, ◌<◌, ◌≤◌}
use native.Mathlib.Omega.{arith}
use lib.Dec.{eqb, leb, ltb}
use borrow.Author.Tests.{eq-eqb, ne_eqb, eqb-true, eqb-false, leb-true, leb-false, ltb-true}
use Rattle.words.specs.Pick.{pick}
use Rattle.words.specs.Bytes.{part}
use Rattle.words.proofs.Pick.{pick-and, pick-either, pick-unless, pick_yes, pick_no, pick-cases, every-each}
use Rattle.devtree.specs.Tokens.{token_at, and_then, tokens}
use Rattle.devtree.specs.Tree.{Event, begin, prop, end, events_of, events_from, tree_of, tree, flatten}
use Rattle.devtree.specs.Check.{closes, one_root, nested, well_formed, passes}
use Rattle.devtree.proofs.Tokens.{tokens-law, tokens-are}
use Rattle.devtree.proofs.Tree.{ended, passes-formed, tree-flat}
use Rattle.devtree.specs.declared.Token.{Token}
use Rattle.devtree.specs.declared.Token.TheVariants.{Begin, Property, EndNode, End, Fault}
use Rattle.same_trees.specs.Same.{same_bytes, same}
use Rattle.token_pairs.specs.Pairs.{places, open_pair, pair_of, pair_at}
use Rattle.treecompare.specs.Lockstep.{in_step, in_step_from, roots_of, same_roots}
use Rattle.same_trees.proofs.Same.{bytes-equal, bytes-self, same-equal, equal-same}

-- ---- the events of nodes that are closed

-- inside nodes in which `left` levels may be nested: events that close them all, and end there
abbrev Closing : ℕ → List Event → Type 0
Closing left [] = ⊥
Closing left (begin n ∷ es) = (1 ≤ left) × Closing (left - 1) es
Closing left (prop n v ∷ es) = Closing left es
Closing left (end ∷ es) = ((left ≡ 7) × (es ≡ [])) ⊎ ((left < 7) × Closing (left + 1) es)

closing : (s st : List ℕ) (depth left : ℕ) (ts : List Token) → 1 ≤ depth → depth + left ≡ 8 → closes s depth ts ≡ true → nested depth ts ≡ true → Closing left (events_of s st ts)
unfolding closes nested events_of
closing s st depth left [] h d c n = absurd (false≢true c)
closing s st depth left (Begin at a m next ∷ ts) h d c n =
    let w = pick-and (ltb depth 8) _ n in
    (omega (arith, ltb-true), closing s st (depth + 1) (left - 1) ts (omega arith) (omega (arith, ltb-true)) c w.1)
closing s st depth left (Property at a m v l next ∷ ts) h d c n = closing s st depth left ts h d c n
closing s st depth left (EndNode at next ∷ ts) h d c n =
    let more = closing s st (depth - 1) (left + 1) ts in
    ⊎_elim (λ w. inl (omega (arith, leb-true), ended s st ts w.1))
    (λ w. inr (omega (arith, leb-false), more (omega (arith, leb-false)) (omega (arith, leb-false)) w.1 n))
    (pick-either (leb depth 1) _ _ c)
closing s st depth left (End at next ∷ ts) h d c n = absurd (false≢true c)
closing s st depth left (Fault at ∷ ts) h d c n = absurd (false≢true c)

closing-last : (left : ℕ) (es : List Event) → Closing left (end ∷ es) → left ≡ 7 → es ≡ []
closing-last left es c e = ⊎_elim (λ w. w.1) (λ w. absurd (omega arith)) c

closing-more : (left : ℕ) (es : List Event) → Closing left (end ∷ es) → (left ≡ 7 → ⊥) → Closing (left + 1) es
closing-more left es c e = ⊎_elim (λ w. absurd (e w.0)) (λ w. w.1) c

-- in step exactly where the events are equal
step-equal : (left : ℕ) (es es' : List Event) → Closing left es → Closing left es' → in_step left es es' ≡ true → es ≡ es'
unfolding in_step
step-equal left [] es' c c' e = absurd c
step-equal left (begin n ∷ es) [] c c' e = absurd c'
step-equal left (begin n ∷ es) (begin n' ∷ es') c c' e =
    let w = pick-and (same_bytes n n') _ e in
    let v = pick-unless (eqb left 0) _ w.1 in
    ap₂ (λ m l. begin m ∷ l) (bytes-equal n n' w.0) (step-equal (left - 1) es es' c.1 c'.1 v.1)
step-equal left (begin n ∷ es) (prop n' v' ∷ es') c c' e = absurd (false≢true e)
step-equal left (begin n ∷ es) (end ∷ es') c c' e = absurd (false≢true e)
step-equal left (prop n v ∷ es) [] c c' e = absurd c'
step-equal left (prop n v ∷ es) (begin n' ∷ es') c c' e = absurd (false≢true e)
step-equal left (prop n v ∷ es) (prop n' v' ∷ es') c c' e =
    let w = pick-and (same_bytes n n') _ e in
    let u = pick-and (same_bytes v v') _ w.1 in
    let names = bytes-equal n n' w.0 in
    let values = bytes-equal v v' u.0 in
    let rest = step-equal left es es' c c' u.1 in
    cc
step-equal left (prop n v ∷ es) (end ∷ es') c c' e = absurd (false≢true e)
step-equal left (end ∷ es) [] c c' e = absurd c'
step-equal left (end ∷ es) (begin n' ∷ es') c c' e = absurd (false≢true e)
step-equal left (end ∷ es) (prop n' v' ∷ es') c c' e = absurd (false≢true e)
step-equal left (end ∷ es) (end ∷ es') c c' e =
    let more = step-equal (left + 1) es es' in
    ap (◌∷◌ end)
    (⊎_elim (λ w. let h = eqb-true left 7 w.0 in closing-last left es c h ∙ sym (closing-last left es' c' h))
    (λ w. let h = eqb-false left 7 w.0 in more (closing-more left es c h) (closing-more left es' c' h) w.1)
    (pick-either (eqb left 7) _ _ e))

step-self : (left : ℕ) (es : List Event) → Closing left es → in_step left es es ≡ true
unfolding in_step pick
step-self left [] c = absurd c
step-self left (begin n ∷ es) c = rw (bytes-self n, ne_eqb left 0 (λ z. omega arith)) (step-self (left - 1) es c.1)
step-self left (prop n v ∷ es) c = rw (bytes-self n, bytes-self v) (step-self left es c)
step-self left (end ∷ es) c =
    let more = step-self (left + 1) es in
    ⊎_elim (λ w. rw (eq-eqb left 7 w.0)) (λ w. rw (ne_eqb left 7 (λ z. omega arith)) (more w.1)) c

-- ---- two roots

-- a block that passes the check begins with its root
record Root (s st : List ℕ) : Type 0 where
  at : ℕ
  name : ℕ
  size : ℕ
  next : ℕ
  token : token_at s st 0 ≡ Begin at name size next
  closed : Closing 7 (events_from s st next)

root-of : (s st : List ℕ) (t : Token) → token_at s st 0 ≡ t → one_root s (and_then (tokens s st) t) ≡ true → nested 0 (and_then (tokens s st) t) ≡ true → Root s st
unfolding one_root nested and_then events_from
root-of s st (Begin at a n next) e o d =
    let w = pick-and (ltb 0 8) _ d in
    record {
      at = at;
      name = a;
      size = n;
      next = next;
      token = e;
      closed = closing s st 1 7 (tokens s st next) (omega arith) refl o w.1;
    }
root-of s st (Property at a n v l next) e o d = absurd (false≢true o)
root-of s st (EndNode at next) e o d = absurd (false≢true o)
root-of s st (End at next) e o d = absurd (false≢true o)
root-of s st (Fault at) e o d = absurd (false≢true o)

root : (s st : List ℕ) → passes s st ≡ true → Root s st
unfolding well_formed
root s st e =
    let f = every-each _ (passes-formed s st e) in
    root-of s st (token_at s st 0) refl (rw tokens-law at f.1.1.1.0) (rw tokens-law at f.1.1.1.1.0)

root-events : (s st : List ℕ) (r : Root s st) → events_from s st 0 ≡ begin (part s r.name r.size) ∷ events_from s st r.next
unfolding events_from events_of and_then
root-events s st r = rw (tokens-are s st 0 _ r.token)

both_ways : (b c : Bool) → (b ≡ true → c ≡ true) → (c ≡ true → b ≡ true) → b ≡ c
both_ways true c f g = sym (f refl)
both_ways false true f g = g refl
both_ways false false f g = refl

-- two roots are in step where their names are the same and what follows is in step
roots-step : (s st s' st' : List ℕ) (r : Root s st) (r' : Root s' st') → same_roots s st s' st' ≡ pick (same_bytes (part s r.name r.size) (part s' r'.name r'.size)) (in_step_from s st s' st' 7 (places r.next r'.next)) false
unfolding same_roots roots_of pair_at pair_of open_pair
roots-step s st s' st' r r' =
    let names : Bool = same_bytes (part s r.name r.size) (part s' r'.name r'.size) in
    rw (r.token, r'.token)
    (pick-cases (λ q. roots_of s st s' st' q ≡ pick names (in_step_from s st s' st' 7 (places r.next r'.next)) false) names _ _
    (λ e. sym (pick_yes names _ _ e))
    (λ e. sym (pick_no names _ _ e)))

module _ (s st s' st' : List ℕ) (p : passes s st ≡ true) (p' : passes s' st' ≡ true) where
  roots-equal : (r : Root s st) (r' : Root s' st') → same_roots s st s' st' ≡ true → tree s st ≡ tree s' st'
  unfolding tree in_step_from
  roots-equal r r' e =
      let w = pick-and _ _ (sym (roots-step s st s' st' r r') ∙ e) in
      let names = bytes-equal _ _ w.0 in
      let rest = step-equal 7 _ _ r.closed r'.closed w.1 in
      ap tree_of (root-events s st r ∙ ap₂ (λ n es. begin n ∷ es) names rest ∙ sym (root-events s' st' r'))

  equal-roots : (r : Root s st) (r' : Root s' st') → tree s st ≡ tree s' st' → same_roots s st s' st' ≡ true
  unfolding in_step_from
  equal-roots r r' e =
      let n : List ℕ = part s r.name r.size in
      let es : List Event = events_from s st r.next in
      let all = sym (root-events s st r) ∙ sym (tree-flat s st p) ∙ ap flatten e ∙ tree-flat s' st' p' ∙ root-events s' st' r' in
      let names : n ≡ part s' r'.name r'.size = cc in
      let rest : es ≡ events_from s' st' r'.next = cc in
      roots-step s st s' st' r r'
      ∙ pick_yes _ _ _ (subst (λ m. same_bytes n m ≡ true) names (bytes-self n))
      ∙ subst (λ l. in_step 7 es l ≡ true) rest (step-self 7 es r.closed)

  pub roots-same : same_roots s st s' st' ≡ same (tree s st) (tree s' st')
  roots-same =
      let r = root s st p in
      let r' = root s' st' p' in
      both_ways _ _ (λ e. equal-same _ _ (roots-equal r r' e)) (λ e. equal-roots r r' (same-equal _ _ e))
