-- Laws of answers: the refusal whose test holds first, and what a conversion leaves.
use mathlib.Core.Path.{◌≡◌, refl, ap, sym, ◌∙◌}
use mathlib.Core.Bool.{Bool, true, false}
use mathlib.Core.List.{List, [], ◌∷◌, ◌++◌}
use Prim.Native.Nat.{ℕ, ◌+◌, ◌*◌, ◌<◌, ◌≤◌}
use lib.Dec.{eqb, ltb}
use lib.ListN.{length}
use lib.Seq.{sets}
use borrow.Author.Tests.{eqb-false, ltb-true, ltb-false}
use Rattle.words.specs.Pick.{pick}
use Rattle.words.specs.First.{first_of}
use Rattle.words.proofs.Pick.{pick_yes, pick_no}
use Rattle.words.proofs.First.{Passed}
use Rattle.std.specs.Prelude.{Result, Ok, Err, ⊤}
use Rattle.buffer.specs.Put.{bytes32, put}
use Rattle.memory_lists.specs.declared.Refusal.{Refusal}
use Rattle.memory_lists.specs.declared.Refusal.TheVariants.{ZeroSize, WrongSize, NoRoom}
use Rattle.memory_lists.specs.Lists.{list_count, wrong_size}
use Rattle.memory_lists.specs.Converted.{converted, conversion, counted, begun}

-- the tests before it do not hold, and it does
pub first_taken : {A : Type 0} (ps ts : List (Bool × A)) {b : Bool} {x : A} (other : A) → Passed ps → b ≡ true → first_of (ps ++ ((b, x) ∷ ts)) other ≡ x
unfolding first_of
first_taken [] ts other p e = pick_yes _ _ _ e
first_taken (q ∷ ps) ts other p e = pick_no _ _ _ p.0 ∙ first_taken ps ts other p.1 e

module _ (list out : List ℕ) (written : ℕ) {answer : Result ⊤ Refusal} where
  pub refused : (e : Refusal) → answer ≡ Err e → converted (Err e) out written ≡ conversion answer list out written
  unfolding conversion
  refused e h = rw h (sym (pick_no _ _ _ refl))

  pub finished : (out' : List ℕ) (n : ℕ) → answer ≡ Ok tt → out' ≡ sets out 0 list → n ≡ length list → converted (Ok tt) out' n ≡ conversion answer list out written
  unfolding conversion
  finished out' n e f g = rw (e, f, g) (sym (pick_yes _ _ _ refl))

-- ---- the refusals that both conversions begin with

-- those of them that hold are a conversion's answer, whatever it looks for after them
pub first_refused : (size : ℕ) (s : List ℕ) (e : Refusal) (more : List (Bool × Result ⊤ Refusal)) (other : Result ⊤ Refusal) → counted size s ≡ Err e
    → first_of ((eqb size 0, Err ZeroSize) ∷ (wrong_size s, Err WrongSize) ∷ more) other ≡ Err e
unfolding counted first_of pick
first_refused size s e more other = from (eqb size 0) (wrong_size s)
  where
    from : (b w : Bool) → first_of ((b, Err ZeroSize) ∷ (w, Err WrongSize) ∷ []) (Ok (list_count s)) ≡ Err e → first_of ((b, Err ZeroSize) ∷ (w, Err WrongSize) ∷ more) other ≡ Err e
    from true w h = cc
    from false true h = cc
    from false false h = cc

module _ (size : ℕ) (s : List ℕ) where
  -- what is known where neither of them holds
  pub record Counted (n : ℕ) : Type 0 where
    pub some : size ≡ 0 → ⊥
    pub right : wrong_size s ≡ false
    pub count : n ≡ list_count s

  pub first_passed : (n : ℕ) → counted size s ≡ Ok n → Counted n
  unfolding counted first_of pick
  first_passed n = from (eqb size 0) (wrong_size s) refl refl
    where
      from : (b w : Bool) → eqb size 0 ≡ b → wrong_size s ≡ w → first_of ((b, Err ZeroSize) ∷ (w, Err WrongSize) ∷ []) (Ok (list_count s)) ≡ Ok n → Counted n
      from true w e f h = absurd (cc)
      from false true e f h = absurd (cc)
      from false false e f h = record { some = eqb-false size 0 e; right = f; count = cc }

-- ---- a list begun in a buffer

module _ (n : ℕ) (out out' : List ℕ) (r : Result ℕ Refusal) where
  abbrev from : Result ℕ Refusal × List ℕ → Type 0
  from p = ◌≡◌ {A = Result ℕ Refusal × List ℕ} (r, out') p

  answer : {p : Result ℕ Refusal × List ℕ} → from p → r ≡ p.0
  answer h = ap (λ (q : Result ℕ Refusal × List ℕ). q.0) h

  buffer : {p : Result ℕ Refusal × List ℕ} → from p → out' ≡ p.1
  buffer h = ap (λ (q : Result ℕ Refusal × List ℕ). q.1) h

  -- there was no room for it
  pub record NotBegun (e : Refusal) : Type 0 where
    pub refusal : e ≡ NoRoom
    pub room : length out < 4 + 24 * n
    pub same : out' ≡ out

  pub none-begun : (e : Refusal) → from (begun n out) → r ≡ Err e → NotBegun e
  unfolding begun pick
  none-begun e = test (ltb (length out) (4 + 24 * n)) refl
    where
      test : (b : Bool) → ltb (length out) (4 + 24 * n) ≡ b → from (pick b (Err NoRoom, out) (Ok (4 + 24 * n), put out 0 (bytes32 n))) → r ≡ Err e → NotBegun e
      test true f h g = let k : r ≡ Err NoRoom = answer h in record { refusal = cc; room = ltb-true (length out) (4 + 24 * n) f; same = buffer h }
      test false f h g = let k : r ≡ Ok (4 + 24 * n) = answer h in absurd (cc)

  pub record Begun (m : ℕ) : Type 0 where
    pub bytes : m ≡ 4 + 24 * n
    pub room : 4 + 24 * n ≤ length out
    pub list : out' ≡ put out 0 (bytes32 n)

  pub list-begun : (m : ℕ) → from (begun n out) → r ≡ Ok m → Begun m
  unfolding begun pick
  list-begun m = test (ltb (length out) (4 + 24 * n)) refl
    where
      test : (b : Bool) → ltb (length out) (4 + 24 * n) ≡ b → from (pick b (Err NoRoom, out) (Ok (4 + 24 * n), put out 0 (bytes32 n))) → r ≡ Ok m → Begun m
      test true f h g = let k : r ≡ Err NoRoom = answer h in absurd (cc)
      test false f h g = let k : r ≡ Ok (4 + 24 * n) = answer h in record { bytes = cc; room = ltb-false (length out) (4 + 24 * n) f; list = buffer h }
