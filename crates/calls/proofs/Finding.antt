-- A look-up, and what a call makes of what it finds.
use mathlib.Core.Path.{◌≡◌, refl, ap, sym, ◌∙◌}
use mathlib.Core.Bool.{Bool, true, false}
use mathlib.Core.List.{List}
use Prim.Native.Nat.{ℕ}
use lib.Dec.{eqb}
use Rattle.words.specs.Pick.{pick}
use Rattle.connector.specs.declared.Connector.{Connector}
use Rattle.table.specs.Model.{Model}
use Rattle.std.specs.Prelude.{Option, Some, None}
use Rattle.calls.specs.Calls.{Answer, Answered, at_index, own_at}

-- what the code's look-up answers
abbrev pub Row : Type 0
Row = Option (ℕ × Connector)

abbrev pub row : ℕ → Connector → Row
row i c = Some (i, c)

module _ {A : Type 0} (found : ℕ → Connector → A) (none : A) where
  -- what is made of an answer
  abbrev pub on_lookup : Row → A
  on_lookup (Some x) = found x.0 x.1
  on_lookup None = none

  either : (b : Bool) (i : ℕ) (c : Connector) → pick b (found i c) none ≡ on_lookup (pick b (Some (i, c)) None)
  unfolding pick
  either true i c = refl
  either false i c = refl

module _ {A : Type 0} (m : Model) (k : ℕ) (found : ℕ → Connector → A) (none : A) where
  at-lookup : at_index m k found none ≡ on_lookup found none (at_index m k row None)
  unfolding at_index
  at-lookup = either found none _ _ _

  -- by the answer l of the code's look-up, which is l'
  pub looked-up : (l : Row) {l' : Row} → l ≡ at_index m k row None → l ≡ l' → at_index m k found none ≡ on_lookup found none l'
  looked-up l e f = at-lookup ∙ ap (on_lookup found none) (sym e ∙ f)

module _ {A : Type 0} (m : Model) (p k : ℕ) (found : ℕ → Connector → A) (none : A) where
  own-part : (l : Row) → on_lookup (λ i c. pick (eqb c.partition p) (found i c) none) none l ≡ on_lookup found none (on_lookup (λ i c. pick (eqb c.partition p) (Some (i, c)) None) None l)
  own-part (Some x) = either found none (eqb x.1.partition p) x.0 x.1
  own-part None = refl

  own-lookup : own_at m p k found none ≡ on_lookup found none (own_at m p k row None)
  unfolding own_at
  own-lookup =
      at-lookup m k (λ i c. pick (eqb c.partition p) (found i c) none) none
      ∙ own-part (at_index m k row None)
      ∙ ap (on_lookup found none) (sym (at-lookup m k (λ i c. pick (eqb c.partition p) (Some (i, c)) None) None))

  -- the partition's own connector, by the answer of the look-up by index
  pub own-by : (l : Row) {l' : Row} → l ≡ at_index m k row None → l ≡ l' → own_at m p k found none ≡ on_lookup (λ i c. pick (eqb c.partition p) (found i c) none) none l'
  unfolding own_at
  own-by l e f = looked-up m k (λ i c. pick (eqb c.partition p) (found i c) none) none l e f

  pub looked-up-own : (l : Row) {l' : Row} → l ≡ own_at m p k row None → l ≡ l' → own_at m p k found none ≡ on_lookup found none l'
  looked-up-own l e f = own-lookup ∙ ap (on_lookup found none) (sym e ∙ f)

-- a call's answer is what is made of the look-up's
module _ {S : Type 0} (t t' : List ℕ) (s : S) (m : Model) (k : ℕ) (found : ℕ → Connector → Answer S) (none : Answer S) where
  pub answered-at : (l : Row) {l' : Row} → l ≡ at_index m k row None → l ≡ l' → Answered t t' s (on_lookup found none l') → Answered t t' s (at_index m k found none)
  answered-at l e f w = rw (looked-up m k found none l e f) w

  pub answered-own : (p : ℕ) (l : Row) {l' : Row} → l ≡ own_at m p k row None → l ≡ l' → Answered t t' s (on_lookup found none l') → Answered t t' s (own_at m p k found none)
  answered-own p l e f w = rw (looked-up-own m p k found none l e f) w
