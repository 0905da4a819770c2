-- A connector at the table that stands as a record alone: its state and its walk are the record's. Which rows may be written meanwhile.
use Prim.Native.Nat.{ℕ, zero, suc, ◌<◌}
use mathlib.Core.Path.{◌≡◌, refl, ap, ◌∙◌}
use mathlib.Core.Logic.{dite, ◌≢◌}
use mathlib.Core.List.{List, [], ◌∷◌, ◌++◌}
use mathlib.Core.Bool.{Bool, true, false}
use native.Mathlib.Decide.{ℕ_discrete}
use native.Mathlib.Omega.{arith}
use lib.Dec.{eqb}
use lib.ListN.{get_or, set, length, length-set, length-append, get_or-append}
use lib.Seq.{get_or-set_same, get_or-set_other}
use Rattle.words.specs.Pick.{pick}
use Rattle.states.specs.declared.State.{State}
use Rattle.states.specs.declared.State.TheVariants.{Unusable, Available, Unisolated, Configured}
use Rattle.connector.specs.declared.Connector.{Connector}
use Rattle.table.specs.Model.{position, has_index, blank_connector}
use Rattle.walk.proofs.Same.{Alike}

-- ---- the place of the first that passes
module _ {A : Type 0} (q : A → Bool) where
  -- one that passes just if the one before it did, in its place
  pub position-set : (d : A) (xs : List A) (i : ℕ) (v : A) → q v ≡ q (get_or xs i d) → position q (set xs i v) ≡ position q xs
  unfolding position
  position-set d [] i v e = refl
  position-set d (x ∷ xs) zero v e = rw e
  position-set d (x ∷ xs) (suc i) v e = rw (position-set d xs i v e)

  -- more at the end, where one passes already
  pub position-append : (xs ys : List A) → position q xs < length xs → position q (xs ++ ys) ≡ position q xs
  unfolding position pick
  position-append [] ys h = absurd (omega arith)
  position-append (x ∷ xs) ys h = go (q x) h (position-append xs ys)
    where
      go : (b : Bool) → pick b 0 (suc (position q xs)) < suc (length xs) → (position q xs < length xs → position q (xs ++ ys) ≡ position q xs) → pick b 0 (suc (position q (xs ++ ys))) ≡ pick b 0 (suc (position q xs))
      go true h f = refl
      go false h f = ap suc (f (omega arith))

-- Unisolated or Configured: only isolate leads from there
abbrev pub begun : State → Bool
begun Unusable = false
begun Available = false
begun Unisolated = true
begun Configured = true

abbrev pub first : ℕ → List Connector → ℕ
first k xs = position (has_index k) xs

abbrev pub row : List Connector → ℕ → Connector
row xs i = get_or xs i blank_connector

pub as-itself : (c : Connector) → Alike c c
as-itself c = record { state = refl; walk = refl }

pub alike_then : {c d v : Connector} → Alike c d → Alike d v → Alike c v
alike_then a b = record { state = b.state ∙ a.state; walk = b.walk ∙ a.walk }

-- the first connector with index k is partition p's, and stands as the record c
pub record Stands (p k : ℕ) (c : Connector) (xs : List Connector) : Type 0 where
  pub there : first k xs < length xs
  pub own : (row xs (first k xs)).partition ≡ p
  pub begins : begun c.state ≡ true
  pub alike : Alike c (row xs (first k xs))

module _ (p k : ℕ) (c : Connector) (xs : List Connector) (h : Stands p k c xs) where
  as_before : (ys : List Connector) → first k ys < length ys → row ys (first k ys) ≡ row xs (first k xs) → Stands p k c ys
  as_before ys there e = record { there = there; own = rw e h.own; begins = h.begins; alike = rw e h.alike }

  -- a row is written whose index and partition stay
  module _ (i : ℕ) (v : Connector) (index : v.index.0 ≡ (row xs i).index.0) (partition : v.partition ≡ (row xs i).partition) where
    still-first : first k (set xs i v) ≡ first k xs
    still-first = position-set (has_index k) blank_connector xs i v (ap (λ n. eqb n k) index)

    still-there : first k (set xs i v) < length (set xs i v)
    still-there = omega (arith, still-first, length-set xs i v, h.there)

    -- the connector's own
    pub own_row : i ≡ first k xs → (c' : Connector) → begun c'.state ≡ true → Alike c' v → Stands p k c' (set xs i v)
    own_row e c' b a =
        let here : row (set xs i v) (first k (set xs i v)) ≡ v = rw (still-first, ← e) (get_or-set_same xs i v blank_connector (rw e h.there)) in
        record { there = still-there; own = rw here (partition ∙ rw e h.own); begins = b; alike = rw here a }

    -- another
    other_row : i ≢ first k xs → Stands p k c (set xs i v)
    other_row n = as_before (set xs i v) still-there (rw still-first (get_or-set_other xs i (first k xs) v blank_connector (λ e. n (cc))))

    -- any, if the connector's own stays alike
    pub any-row : (i ≡ first k xs → Alike (row xs i) v) → Stands p k c (set xs i v)
    any-row f =
        dite (ℕ_discrete i (first k xs)) (λ (e : i ≡ first k xs). own_row e c h.begins (alike_then (rw e h.alike) (f e))) other_row

  -- rows are added at the end
  pub more_rows : (ys : List Connector) → Stands p k c (xs ++ ys)
  more_rows ys =
      let place : first k (xs ++ ys) ≡ first k xs = position-append (has_index k) xs ys h.there in
      as_before (xs ++ ys) (omega (arith, place, length-append xs ys, h.there)) (rw place (get_or-append xs ys blank_connector (first k xs) h.there))
