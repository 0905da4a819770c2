-- How many replies there are of each sort, and how many events a tree has.
use mathlib.Core.Path.{◌≡◌, refl, ap, sym, ◌∙◌}
use mathlib.Core.List.{List, [], ◌∷◌}
use mathlib.Core.Bool.{true, false, false≢true}
use Prim.Native.Nat.{ℕ, suc, ◌+◌, ◌*◌, ◌<◌, ◌≤◌}
use native.Mathlib.Omega.{arith}
use borrow.Author.Tests.{eqb-true}
use lib.Dec.{eqb}
use lib.ListN.{length, length-append}
use Rattle.words.specs.Pick.{pick, every}
use Rattle.words.proofs.Pick.{pick-cases, every-each}
use Rattle.devtree.specs.Tree.{Event, Nodes, nil, node, flatten}
use Rattle.sent_trees.proofs.Events.{length-props}
use Rattle.states.specs.declared.Page.{Page}
use Rattle.states.specs.declared.Page.TheVariants.{None, Asked, Taken}
use Rattle.guards.specs.Guards.{page_after}
use Rattle.emits.specs.Run.{Reply, formed, is_complete, until_zero, two_next, two_after_five, consumes, asks, count}
use Rattle.emits.specs.Emits.{Emits, stopped, child, property, more, parent, last, nodes, properties}

pub flat-length : (t : Nodes) → length (flatten t) ≡ 2 * nodes t + properties t
unfolding flatten nodes properties
flat-length nil = refl
flat-length (node n ps kids rest) =
    let a = flat-length kids in
    let b = flat-length rest in
    simp (length-append, length-props) (omega arith)

-- ---- the last reply is a 0
pub until-later : (y : Reply) (ys : List Reply) → is_complete y.status ≡ false → until_zero (y ∷ ys) ≡ until_zero ys
unfolding until_zero
until-later y [] e = e
until-later y (z ∷ ys) e = refl

until_none : until_zero [] ≡ false
unfolding until_zero
until_none = refl

until_one : (y : Reply) → until_zero (y ∷ []) ≡ is_complete y.status
unfolding until_zero
until_one y = refl

-- ---- each reply of 0 to 4 tells an event, and every other is a 5
pub no-others : {depth : ℕ} {page : Page} {es : List Event} {areas : List (List ℕ)} {rs : List Reply} → Emits depth page es areas rs → length rs ≡ count consumes rs + count asks rs
unfolding count pick
no-others (stopped l) = refl
no-others (child f d m) = let a = no-others m in omega arith
no-others (property f d n m) = let a = no-others m in omega arith
no-others (more f d o n m) = let a = no-others m in omega arith
no-others (parent f d m) = let a = no-others m in omega arith
no-others (last f) = refl

-- where the 0 came each event was told
pub whole : {depth : ℕ} {page : Page} {es : List Event} {areas : List (List ℕ)} {rs : List Reply} → Emits depth page es areas rs → until_zero rs ≡ true → count consumes rs ≡ length es
unfolding count pick
whole (stopped l) z = absurd (false≢true (sym until_none ∙ z))
whole (child {rs} f d m) z = let a = whole m (sym (until-later _ rs refl) ∙ z) in omega arith
whole (property {rs} f d n m) z = let a = whole m (sym (until-later _ rs refl) ∙ z) in omega arith
whole (more {rs} f d o n m) z = let a = whole m (sym (until-later _ rs refl) ∙ z) in omega arith
whole (parent {rs} f d m) z = let a = whole m (sym (until-later _ rs refl) ∙ z) in omega arith
whole (last f) z = refl

-- where it did not come each call had its reply, and an event is left
pub unfinished : {depth : ℕ} {page : Page} {es : List Event} {areas : List (List ℕ)} {rs : List Reply} → Emits depth page es areas rs → until_zero rs ≡ false → (count consumes rs < length es) × (length rs ≡ length areas)
unfolding count pick
unfinished (stopped l) z = (omega arith, refl)
unfinished (child {rs} f d m) z = let a = unfinished m (sym (until-later _ rs refl) ∙ z) in (omega arith, omega arith)
unfinished (property {rs} f d n m) z = let a = unfinished m (sym (until-later _ rs refl) ∙ z) in (omega arith, omega arith)
unfinished (more {rs} f d o n m) z = let a = unfinished m (sym (until-later _ rs refl) ∙ z) in (omega arith, omega arith)
unfinished (parent {rs} f d m) z = let a = unfinished m (sym (until-later _ rs refl) ∙ z) in (omega arith, omega arith)
unfinished (last f) z = absurd (false≢true (sym z ∙ until_one _))

-- ---- how often the second page is asked for, if every call after a 5 lends two pages
abbrev asks_left : Page → ℕ
asks_left None = 1
asks_left Asked = 0
asks_left Taken = 0

-- while it is asked for, the next call lends two
abbrev Obliging : Page → List (List ℕ) → Type 0
Obliging None areas = Unit
Obliging Asked areas = two_next areas ≡ true
Obliging Taken areas = Unit

obliging-after : (n : ℕ) (areas : List (List ℕ)) → Obliging (page_after n) areas
obliging-after n areas = pick-cases (λ q. Obliging q areas) (eqb n 8192) Taken None (λ _. tt) (λ _. tt)

-- a reply of 0 to 4 leaves no more askings than before
asks-after : (page : Page) (a : List ℕ) (areas : List (List ℕ)) → formed page (length a) ≡ true → Obliging page (a ∷ areas) → asks_left (page_after (length a)) ≤ asks_left page
asks-after None a areas f o = pick-cases (λ q. asks_left q ≤ 1) (eqb (length a) 8192) Taken None (λ _. omega arith) (λ _. omega arith)
asks-after Asked a areas f o = pick-cases (λ q. asks_left q ≤ 0) (eqb (length a) 8192) Taken None (λ _. omega arith) (λ e. absurd (false≢true (sym e ∙ o)))
asks-after Taken a areas f o = pick-cases (λ q. asks_left q ≤ 0) (eqb (length a) 8192) Taken None (λ _. omega arith) (λ e. absurd (false≢true (sym e ∙ f)))

-- a 5 is given once
asks-once : (page : Page) (a : List ℕ) (areas : List (List ℕ)) → formed page (length a) ≡ true → length a ≡ 4096 → Obliging page (a ∷ areas) → 1 ≤ asks_left page
asks-once None a areas f e o = omega arith
asks-once Asked a areas f e o = absurd (omega (arith, eqb-true (length a) 8192 o))
asks-once Taken a areas f e o = absurd (omega (arith, eqb-true (length a) 8192 f))

pub asked : {depth : ℕ} {page : Page} {es : List Event} {areas : List (List ℕ)} {rs : List Reply} → Emits depth page es areas rs → two_after_five areas rs ≡ true → Obliging page areas → count asks rs ≤ asks_left page
unfolding count pick two_after_five
asked (stopped l) z o = omega arith
asked (child {page} {a} {areas} f d m) z o = let n = asked m (every-each _ z).1.0 (obliging-after (length a) areas) in let k = asks-after page a areas f o in omega arith
asked (property {page} {a} {areas} f d r m) z o = let n = asked m (every-each _ z).1.0 (obliging-after (length a) areas) in let k = asks-after page a areas f o in omega arith
asked (more {page} {a} {areas} f d e r m) z o = let w = every-each _ z in let n = asked m w.1.0 w.0 in let k = asks-once page a areas f e o in omega arith
asked (parent {page} {a} {areas} f d m) z o = let n = asked m (every-each _ z).1.0 (obliging-after (length a) areas) in let k = asks-after page a areas f o in omega arith
asked (last f) z o = omega arith
