-- Demand 3: what holds after any list of calls from a fresh table. Assumes nothing.
use Prim.Native.Nat.{ℕ, zero, suc, ◌+◌, ◌<◌}
use mathlib.Core.Path.{◌≡◌, refl, ap, sym, ◌∙◌}
use mathlib.Core.Logic.{◌≢◌}
use mathlib.Core.List.{List, [], ◌∷◌}
use mathlib.Core.Bool.{Bool, true, false, false≢true}
use native.Mathlib.Omega.{arith}
use lib.IntN.{ℤ, pos, negsuc}
use lib.ListN.{get_or, length, length-map, length-replicate, get_or-map}
use Rattle.words.specs.Pick.{pick}
use Rattle.states.specs.declared.State.{State}
use Rattle.states.specs.declared.State.TheVariants.{Unusable, Available, Unisolated, Configured}
use Rattle.states.specs.States.{in_use}
use Rattle.table.specs.Layout.{word_count}
use Rattle.table.specs.Model.{Model, blank_line, table_of, edits}
use Rattle.table.proofs.Refine.{refine, refine-fresh}
use Rattle.kinds.specs.Kinds.{known}
use Rattle.pool.specs.Pool.{how_many, free_count}
use Rattle.calls.specs.Calls.{configured_at}
use Rattle.history.specs.Calls.{Call, platform, partition, set_indicator, get_sensor, configure, answer, fresh_words, words_after, run}
use Rattle.history.specs.Book.{Book, empty_book, entered, fed, standing, booked_wanted}
use Rattle.history.specs.Holds.{model, connector, line, book_from, book, Holds, History, Apart}
use Rattle.history.proofs.Lists.{pick-eq, pick-ne}
use Rattle.history.proofs.Kept.{Sound, by-line, line-within, within}
use Rattle.history.proofs.Lookups.{configured-at, booked-at, place_of, on, fed-on, Keeps}
use Rattle.history.proofs.Orders.{indicator-kept}
use Rattle.history.proofs.Platform.{platform-kept}
use Rattle.history.proofs.Steps.{configure-kept}
use Rattle.history.proofs.Apart.{apart}

-- ---- one call
on_same : {A : Type 0} (s : ℤ) (a : A) → on s a a ≡ a
on_same (pos zero) a = refl
on_same (pos (suc n)) a = refl
on_same (negsuc n) a = refl

kept : (m : Model) (b : Book) → Sound m b → (c : Call) → Keeps m b c
unfolding entered
kept m b ok (platform c) = platform-kept m b ok c
kept m b ok (partition p (set_indicator token k value)) = indicator-kept m b ok p token k value
kept m b ok (partition p (get_sensor token k)) = rw (fed-on, on_same) ok
kept m b ok (partition p (configure area s st)) = configure-kept m b ok p area s st

-- ---- any list of calls: the words t mean a table that agrees with the book b
pub record Reached (t : List ℕ) (b : Book) : Type 0 where
  pub words : length t ≡ word_count
  pub sound : Sound (table_of t) b

-- the words that a call leaves mean the edited model, and are as many
module _ (t : List ℕ) (n : length t ≡ word_count) (c : Call) where
  pub means : table_of (words_after t c) ≡ edits (table_of t) (answer (table_of t) c).edits
  unfolding words_after
  means = (refine t (answer (table_of t) c).edits n).0

  pub words-after : length (words_after t c) ≡ word_count
  unfolding words_after
  words-after = (refine t (answer (table_of t) c).edits n).1

module _ (t : List ℕ) (b : Book) (r : Reached t b) (c : Call) where
  one_more : Reached (words_after t c) (fed b c (answer (table_of t) c).status)
  one_more = record { words = words-after t r.words c; sound = rw (means t r.words c) (kept (table_of t) b r.sound c) }

  -- a partition's call leaves the others alone
  pub others : Apart (table_of t) (table_of (words_after t c)) c
  others = rw (means t r.words c) (apart (table_of t) b r.sound c)

pub reaches : (t : List ℕ) (b : Book) → Reached t b → (cs : List Call) → Reached (run t cs) (book_from t b cs)
unfolding run book_from
reaches t b r [] = r
reaches t b r (c ∷ cs) = reaches (words_after t c) _ (one_more t b r c) cs

pub fresh : Reached fresh_words empty_book
unfolding how_many free_count pick
fresh =
    record {
      words = length-replicate {A = ℕ} word_count 0;
      sound =
          rw refine-fresh
          (record {
            fair =
                record {
                  single = λ x y n e. absurd (n refl);
                  kinded = λ x n. absurd (n refl);
                  stands = λ x j e. absurd (omega arith);
                  named = λ j n. absurd (n refl);
                  below = λ x n. absurd (n refl);
                };
            seen = λ x h. absurd (omega arith);
            unwanted = λ x e. refl;
            states = refl;
            places = refl;
            kinds = refl;
            count = λ kind. none (known kind);
          });
    }
  where
    none : (t : Bool) → 0 ≡ pick t 0 0 + 0
    none true = refl
    none false = refl

-- ---- the record's fields
in_use_lem : (s : State) → (in_use s ≡ true → ⊥) → s ≡ Unusable
in_use_lem Unusable n = refl
in_use_lem Available n = absurd (n refl)
in_use_lem Unisolated n = absurd (n refl)
in_use_lem Configured n = absurd (n refl)

-- the number of the resource that stands at k
standing-none : (k n : ℕ) (ps : List ℕ) → ((y : ℕ) → y < length ps → get_or ps y 0 ≢ k) → standing k n ps ≡ 0
unfolding standing
standing-none k n [] h = refl
standing-none k n (p ∷ ps) h = pick-ne p k n (standing k (suc n) ps) (h 0 (omega arith)) ∙ standing-none k (suc n) ps (λ y l. h (suc y) (omega arith))

standing-at : (k n : ℕ) (ps : List ℕ) (j : ℕ) → j < length ps → get_or ps j 0 ≡ k → ((y : ℕ) → y < j → get_or ps y 0 ≢ k) → standing k n ps ≡ n + j
unfolding standing
standing-at k n [] j l e h = absurd (omega arith)
standing-at k n (p ∷ ps) zero l e h = pick-eq p k n (standing k (suc n) ps) e ∙ omega arith
standing-at k n (p ∷ ps) (suc j) l e h =
    pick-ne p k n (standing k (suc n) ps) (h 0 (omega arith))
    ∙ omega (arith, standing-at k (suc n) ps j (omega arith) e (λ y q. h (suc y) (omega arith)))

module _ (m : Model) (b : Book) (ok : Sound m b) where
  size : length b.places ≡ length m.ledger
  size = rw (← ok.places) (length-map m.ledger (λ l. l.at))

  at : (j : ℕ) → get_or b.places j 0 ≡ (line m j).at
  at j = rw (← ok.places) (get_or-map (λ l. l.at) m.ledger j blank_line)

  resource : (i : ℕ) → i < length m.connectors → (r : ℕ) → (connector m i).resource.0 ≡ r → r ≡ standing (connector m i).index.0 1 b.places
  resource i h zero e =
      sym (standing-none (connector m i).index.0 1 b.places (λ y l z. omega (arith, by-line m b ok i y h (sym (at y) ∙ z))))
  resource i h (suc j) e =
      let there = line-within m b ok i j e in
      omega (arith, standing-at (connector m i).index.0 1 b.places j (rw size there) (at j ∙ (ok.fair.stands i j e).1) (λ y l z. omega (arith, by-line m b ok i y h (sym (at y) ∙ z))))

  booked-wanted : (i : ℕ) → i < length m.connectors → (connector m i).wanted ≡ booked_wanted (connector m i).index.0 b.entries
  booked-wanted i h = rw (← ok.states, booked-at (λ e. e.wanted) false refl (connector m i).index.0 m.connectors, place_of m b ok i h)

  once : (i i' r : ℕ) → (connector m i).resource.0 ≡ r → r ≢ 0 → r ≡ (connector m i').resource.0 → i ≡ i'
  once i i' zero e n q = absurd (n refl)
  once i i' (suc j) e n q =
      let s = ok.fair.stands i j e in
      ok.fair.single i i' s.0 (sym s.1 ∙ (ok.fair.stands i' j (sym q)).1)

  slot-unusable : (i : ℕ) → (connector m i).parent.0 ≢ 0 → configured_at m (connector m i).parent.0 ≡ false → (connector m i).state ≡ Unusable
  slot-unusable i n e =
      let v = ok.fair.below i n in
      in_use_lem (connector m i).state
      (λ u. false≢true (sym e ∙ ap (configured_at m) (sym v.1.index) ∙ configured-at m b ok v.0 (λ z. n (sym v.1.index ∙ z)) ∙ v.1.configured u))

-- what words that are reached mean holds
pub holds : (t : List ℕ) (b : Book) → Reached t b → Holds (table_of t) b
holds t b r =
    let m = table_of t in
    let ok = r.sound in
    record {
      named = λ i j hi hj. ((λ e. (ok.fair.stands i j e).1), by-line m b ok i j hi);
      lined = λ i j hi e. line-within m b ok i j e;
      seated = λ j hj n. let v = ok.fair.named j n in (v.0, within m (λ c. c.index.0) refl v.0 (λ z. n (v.1 ∙ z)), v.1);
      once = λ i i' hi hi' n e. once m b ok i i' (connector m i).resource.0 refl n e;
      states = ok.states;
      places = ok.places;
      kinds = ok.kinds;
      resources = λ i h. resource m b ok i h (connector m i).resource.0 refl;
      wanted = booked-wanted m b ok;
      unwanted = λ i h. ok.unwanted i;
      conserved = ok.count;
      slots = λ i h k n e. slot-unusable m b ok i n e;
    }

pub history : (cs : List Call) → History cs
unfolding model book
history cs =
    record {
      holds = holds _ _ (reaches fresh_words empty_book fresh cs);
      apart = λ before c rest e. others (run fresh_words before) _ (reaches fresh_words empty_book fresh before) c;
    }
