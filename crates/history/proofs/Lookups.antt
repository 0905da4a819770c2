-- How calls look up a connector, and what a status makes of the book.
use Prim.Native.Nat.{ℕ, zero, suc, ◌<◌}
use mathlib.Core.Path.{◌≡◌, refl, ap, sym, ◌∙◌}
use mathlib.Core.Logic.{◌≢◌}
use mathlib.Core.List.{List, [], ◌∷◌, map}
use mathlib.Core.Bool.{Bool, true, false}
use borrow.Author.Tests.{ltb-true, ltb-false, eqb-true, eqb-false}
use lib.Dec.{eqb, ltb}
use lib.IntN.{ℤ, pos, negsuc}
use lib.ListN.{get_or, length}
use Rattle.words.specs.Pick.{pick}
use Rattle.words.proofs.Pick.{pick-cases}
use Rattle.connector.specs.declared.Connector.{Connector}
use Rattle.states.specs.States.{is_configured}
use Rattle.table.specs.Model.{Model, blank_connector, position, has_index, Edit, edits}
use Rattle.calls.specs.Calls.{at_index, configured_at}
use Rattle.history.specs.Calls.{Call, answer}
use Rattle.history.specs.Book.{Entry, Book, booked, entered, fed}
use Rattle.history.specs.Holds.{connector, entry_of}
use Rattle.history.proofs.Lists.{position-passes, position-none, any_none}
use Rattle.history.proofs.Kept.{Sound, within, by_index}

-- connector i is the first with index k
pub record Found (m : Model) (k i : ℕ) : Type 0 where
  pub place : i ≡ position (has_index k) m.connectors
  pub there : i < length m.connectors
  pub index : (connector m i).index.0 ≡ k

pub at-index : {A : Type 0} (m : Model) (P : A → Type 0) (k : ℕ) (found : ℕ → Connector → A) (none : A) → ((i : ℕ) → Found m k i → P (found i (connector m i))) → (((y : ℕ) → y < length m.connectors → (connector m y).index.0 ≢ k) → P none) → P (at_index m k found none)
unfolding at_index
at-index m P k found none f g =
    let i : ℕ = position (has_index k) m.connectors in
    pick-cases P (ltb i (length m.connectors)) (found i (connector m i)) none
    (λ e.
    let h : i < length m.connectors = ltb-true i (length m.connectors) e in
    f i (record { place = refl; there = h; index = eqb-true (connector m i).index.0 k (position-passes blank_connector (has_index k) m.connectors h) }))
    (λ e. g (λ y h. eqb-false (connector m y).index.0 k (any_none blank_connector (has_index k) m.connectors (position-none (has_index k) m.connectors (ltb-false i (length m.connectors) e)) y h)))

pub configured-at : (m : Model) (b : Book) → Sound m b → (y : ℕ) → (connector m y).index.0 ≢ 0 → configured_at m (connector m y).index.0 ≡ is_configured (connector m y).state
unfolding configured_at
configured-at m b ok y n =
    at-index m (λ t. t ≡ is_configured (connector m y).state) (connector m y).index.0 _ _
    (λ i f. ap (λ x. is_configured (connector m x).state) (by_index m b ok i y f.there f.index))
    (λ g. absurd (g y (within m (λ c. c.index.0) refl y n) refl))

-- what the book has for an index is so of the first connector with it
pub booked-at : {A : Type 0} (f : Entry → A) (none : A) → f (entry_of blank_connector) ≡ none → (k : ℕ) (xs : List Connector) → booked f none k (map entry_of xs) ≡ f (entry_of (get_or xs (position (has_index k) xs) blank_connector))
unfolding booked position pick
booked-at f none b k [] = sym b
booked-at f none b k (x ∷ xs) = go (eqb x.index.0 k) (booked-at f none b k xs)
  where
    go : (t : Bool) → booked f none k (map entry_of xs) ≡ f (entry_of (get_or xs (position (has_index k) xs) blank_connector)) → pick t (f (entry_of x)) (booked f none k (map entry_of xs)) ≡ f (entry_of (get_or (x ∷ xs) (pick t 0 (suc (position (has_index k) xs))) blank_connector))
    go true e = refl
    go false e = e

-- the first connector with a connector's index is that connector
pub place_of : (m : Model) (b : Book) → Sound m b → (y : ℕ) → y < length m.connectors → position (has_index (connector m y).index.0) m.connectors ≡ y
place_of m b ok y h =
    at-index {A = Unit} m (λ _. position (has_index (connector m y).index.0) m.connectors ≡ y) (connector m y).index.0 (λ _ _. tt) tt
    (λ i f. sym f.place ∙ by_index m b ok i y f.there f.index)
    (λ g. absurd (g y h refl))

-- what is so for status 0, and what for any other
abbrev pub on : {A : Type 0} → ℤ → A → A → A
on (pos zero) a b = a
on (pos (suc n)) a b = b
on (negsuc n) a b = b

pub fed-on : (b : Book) (c : Call) (s : ℤ) → fed b c s ≡ on s (entered b c) b
unfolding fed
fed-on b c (pos zero) = refl
fed-on b c (pos (suc n)) = refl
fed-on b c (negsuc n) = refl

-- what a call leaves keeps the invariant
abbrev pub Keeps : Model → Book → Call → Type 0
Keeps m b c = let a = answer m c in Sound (edits m a.edits) (fed b c a.status)

-- what the edits leave is sound, where the book is b' for status 0 and else b
abbrev pub Leaves : Model → Book → ℤ → List Edit → Book → Type 0
Leaves m b s es b' = Sound (edits m es) (on s b' b)
