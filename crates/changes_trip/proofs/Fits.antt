-- As many as fit: they have room, and where more remain they are at least 509; the calls have all changes.
use mathlib.Core.Path.{◌≡◌, refl, ap, sym, ◌∙◌}
use mathlib.Core.Bool.{Bool, true, false, false≢true}
use mathlib.Core.List.{List, [], ◌∷◌, ◌++◌, append-nil, flatten}
use Prim.Native.Nat.{ℕ, zero, suc, ◌+◌, ◌*◌, ◌<◌, ◌≤◌}
use native.Mathlib.Omega.{arith}
use lib.Dec.{ltb, leb}
use lib.ListN.{length, take, drop, length-append, length-take, length-drop, take-append-drop}
use lib.Seq.{take_all}
use borrow.Author.Tests.{le-leb, leb-true, ltb-true, ltb-false, lt-ltb, le-ltb}
use Rattle.words.specs.Pick.{pick}
use Rattle.words.proofs.Pick.{pick_yes, pick_no, both-cases}
use Rattle.words.proofs.Run.{Falls, run-law}
use Rattle.node_changes.specs.Changes.{Change, delete, update, add, of_kind, in_order}
use Rattle.node_changes.specs.Lists.{operation, operations}
use Rattle.node_changes.proofs.Changes.{kinds-most}
use Rattle.node_changes.proofs.Windows.{of-kind}
use Rattle.changes_writer.specs.Writer.{list_words, highest, fitting, reported}
use Rattle.changes_writer.specs.Plan.{list_size}
use Rattle.changes_writer.proofs.Room.{size_none, size-some, size-most}
use Rattle.changes_writer.proofs.Bytes.{operation-long}
use Rattle.changes_trip.specs.Trip.{call_lists_from, call_lists}

-- ---- the highest number that passes

module _ (p : ℕ → Bool) where
  highest-most : (n : ℕ) → highest p n ≤ n
  unfolding highest pick
  highest-most zero = omega arith
  highest-most (suc n) = test (p (suc n)) (highest-most n)
    where
      test : (b : Bool) → highest p n ≤ n → pick b (suc n) (highest p n) ≤ suc n
      test true h = omega arith
      test false h = omega arith

  highest-passes : p 0 ≡ true → (n : ℕ) → p (highest p n) ≡ true
  unfolding highest pick
  highest-passes z zero = z
  highest-passes z (suc n) = test (p (suc n)) refl (highest-passes z n)
    where
      test : (b : Bool) → p (suc n) ≡ b → p (highest p n) ≡ true → p (pick b (suc n) (highest p n)) ≡ true
      test true e h = e
      test false e h = h

  highest-least : (n m : ℕ) → m ≤ n → p m ≡ true → m ≤ highest p n
  unfolding highest pick
  highest-least zero m l e = l
  highest-least (suc n) m l e = test (p (suc n)) refl (highest-least n m)
    where
      test : (b : Bool) → p (suc n) ≡ b → (m ≤ n → p m ≡ true → m ≤ highest p n) → m ≤ pick b (suc n) (highest p n)
      test true f h = l
      test false f h = at (ltb n m) refl
        where
          at : (b : Bool) → ltb n m ≡ b → m ≤ highest p n
          at true g = let s : m ≡ suc n = omega (arith, ltb-true n m g) in absurd (false≢true (sym f ∙ (rw s at e)))
          at false g = h (ltb-false n m g) e

-- ---- how many fit

size-twice : (n : ℕ) → list_size n 1 ≤ 2 * n
size-twice zero = omega (arith, size_none 1)
size-twice (suc n) = omega (arith, size-some (suc n) 1 (omega arith))

size-adds : (n : ℕ) → list_size n 2 ≤ 1 + 2 * n
size-adds zero = omega (arith, size_none 2)
size-adds (suc n) = omega (arith, size-some (suc n) 2 (omega arith))

lists-most : (cs : List Change) → length (operations cs) ≤ 1 + 2 * length cs
unfolding operations pick
lists-most cs =
    let d = of_kind delete cs in
    let u = of_kind update cs in
    let a = of_kind add cs in
    omega (
      arith,
      length-append (operation delete d) (operation update u ++ operation add a),
      length-append (operation update u) (operation add a),
      operation-long delete d (of-kind delete cs),
      operation-long update u (of-kind update cs),
      operation-long add a (of-kind add cs),
      size-twice (length d),
      size-twice (length u),
      size-adds (length a),
      kinds-most cs,
    )

module _ (cs : List Change) where
  abbrev has_room : ℕ → Bool
  has_room k = leb (length (operations (take k cs))) list_words

  pub fitting-most : fitting cs ≤ length cs
  unfolding fitting
  fitting-most = highest-most has_room (length cs)

  pub reported-long : length (reported cs) ≡ fitting cs
  reported-long = length-take (fitting cs) cs ∙ omega (arith, fitting-most)

  pub reported-room : length (operations (reported cs)) ≤ list_words
  unfolding fitting
  reported-room = leb-true _ _ (highest-passes has_room (le-leb (length (operations (take 0 cs))) list_words (omega (arith, lists-most (take 0 cs)))) (length cs))

  -- a number of changes that fits in any case
  fits-any : (m : ℕ) → m ≤ length cs → m ≤ 509 → m ≤ fitting cs
  unfolding fitting
  fits-any m l few = highest-least has_room (length cs) m l (le-leb (length (operations (take m cs))) list_words (omega (arith, lists-most (take m cs), length-take m cs)))

  pub fitting-some : fitting cs < length cs → 509 ≤ fitting cs
  fitting-some more = test (ltb (length cs) 509) refl
    where
      test : (b : Bool) → ltb (length cs) 509 ≡ b → 509 ≤ fitting cs
      test true e = let h = ltb-true (length cs) 509 e in absurd (omega (arith, fits-any (length cs) (omega arith) (omega arith)))
      test false e = fits-any 509 (ltb-false (length cs) 509 e) (omega arith)

-- ---- the changes of each call

falls : Falls {I = List Change} {R = List (List Change)} length call_lists_from
unfolding call_lists_from
falls go go' cs same =
    ap (λ (r : List (List Change)). reported cs ∷ r)
    (both-cases ◌≡◌ (ltb (fitting cs) (length cs))
    (λ e. let h = ltb-true (fitting cs) (length cs) e in same (drop (fitting cs) cs) (omega (arith, length-drop (fitting cs) cs, fitting-some cs h)))
    (λ e. refl))

pub lists-of-step : (cs : List Change) → call_lists cs ≡ call_lists_from call_lists cs
unfolding call_lists
lists-of-step cs = run-law [] length call_lists_from falls cs

module _ (cs : List Change) where
  pub lists-of-more : fitting cs < length cs → call_lists cs ≡ reported cs ∷ call_lists (drop (fitting cs) cs)
  unfolding call_lists_from
  lists-of-more h = lists-of-step cs ∙ ap (λ (r : List (List Change)). reported cs ∷ r) (pick_yes _ _ _ (lt-ltb (fitting cs) (length cs) h))

  pub lists-of-last : length cs ≤ fitting cs → call_lists cs ≡ reported cs ∷ []
  unfolding call_lists_from
  lists-of-last h = lists-of-step cs ∙ ap (λ (r : List (List Change)). reported cs ∷ r) (pick_no _ _ _ (le-ltb (fitting cs) (length cs) h))

-- together they are all changes; and how many they are
pub lists-of-all : (k : ℕ) (cs : List Change) → length cs < k → flatten (call_lists cs) ≡ cs
unfolding flatten
lists-of-all zero cs h = absurd (omega arith)
lists-of-all (suc k) cs h = test (ltb (fitting cs) (length cs)) refl (lists-of-all k)
  where
    test : (b : Bool) → ltb (fitting cs) (length cs) ≡ b → ((ds : List Change) → length ds < k → flatten (call_lists ds) ≡ ds) → flatten (call_lists cs) ≡ cs
    test true e ih =
        let l = ltb-true (fitting cs) (length cs) e in
        rw (lists-of-more cs l, ih (drop (fitting cs) cs) (omega (arith, length-drop (fitting cs) cs, fitting-some cs l))) (take-append-drop (fitting cs) cs)
    test false e ih = let l = ltb-false (fitting cs) (length cs) e in rw (lists-of-last cs l) (append-nil (reported cs) ∙ take_all (fitting cs) cs l)

pub lists-of-few : (k : ℕ) (cs : List Change) → length cs < k → 509 * length (call_lists cs) ≤ 509 + length cs
lists-of-few zero cs h = absurd (omega arith)
lists-of-few (suc k) cs h = test (ltb (fitting cs) (length cs)) refl (lists-of-few k)
  where
    test : (b : Bool) → ltb (fitting cs) (length cs) ≡ b → ((ds : List Change) → length ds < k → 509 * length (call_lists ds) ≤ 509 + length ds) → 509 * length (call_lists cs) ≤ 509 + length cs
    test true e ih =
        let l = ltb-true (fitting cs) (length cs) e in
        let s = fitting-some cs l in
        let d = length-drop (fitting cs) cs in
        let r = ih (drop (fitting cs) cs) (omega arith) in
        rw (lists-of-more cs l) (omega arith)
    test false e ih = rw (lists-of-last cs (ltb-false (fitting cs) (length cs) e)) (omega arith)

-- an area has at most 1,018 changes
few-enough : (d u a : ℕ) → list_size d 1 + (list_size u 1 + list_size a 2) ≤ list_words → d + u + a ≤ 1018
few-enough zero zero zero h = omega arith
few-enough zero zero (suc a) h = omega (arith, size-some (suc a) 2 (omega arith))
few-enough zero (suc u) a h = omega (arith, size-some (suc u) 1 (omega arith), size-most a 2)
few-enough (suc d) u a h = omega (arith, size-some (suc d) 1 (omega arith), size-most u 1, size-most a 2)

pub few-changes : (cs : List Change) → in_order cs ≡ cs → length (operations cs) ≤ list_words → length cs ≤ 1018
unfolding in_order operations pick
few-changes cs ordered room =
    let d = of_kind delete cs in
    let u = of_kind update cs in
    let a = of_kind add cs in
    let sizes : length (operation delete d ++ (operation update u ++ operation add a)) ≡ list_size (length d) 1 + (list_size (length u) 1 + list_size (length a) 2) =
    length-append (operation delete d) (operation update u ++ operation add a)
    ∙ rw (length-append (operation update u) (operation add a), operation-long delete d (of-kind delete cs), operation-long update u (of-kind update cs), operation-long add a (of-kind add cs))
    in
    omega (arith, few-enough (length d) (length u) (length a) (rw sizes at room), ap length ordered, length-append d (u ++ a), length-append u a)
