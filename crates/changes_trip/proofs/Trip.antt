-- All calls together give every change once, in order.
use mathlib.Core.Path.{◌≡◌, refl, ap, sym, ◌∙◌}
use mathlib.Core.Bool.{Bool, true, false}
use mathlib.Core.List.{List, [], ◌∷◌, ◌++◌, map, map-append, flat_map, flatten}
use Rattle.std.specs.Prelude.{Ok}
use Prim.Native.Nat.{ℕ, zero, suc, ◌+◌, ◌*◌, ◌<◌, ◌≤◌}
use native.Mathlib.Omega.{arith}
use lib.Dec.{eqb, ltb}
use lib.ListN.{length, take, drop, length-append, length-drop, length-map}
use lib.Seq.{sets, drop-drop}
use borrow.Author.Tests.{eq-eqb, le-leb, leb-true, eqb-true, lt-ltb, le-ltb, ltb-true, ltb-false}
use Rattle.words.specs.Pick.{pick}
use Rattle.words.specs.Bytes.{part, zero_at}
use Rattle.words.proofs.Pick.{pick_yes, pick_no, pick-and, every-each, each-every}
use Rattle.rebuild.proofs.Blocks.{holds-between, holds-written, part_held}
use Rattle.node_changes.specs.Changes.{Change, delete, update, add, changes_in, is_kind, all_kinds, of_kind, in_order}
use Rattle.node_changes.specs.Lists.{area_bytes}
use Rattle.node_changes.proofs.Changes.{as_of, kinds-one, kind_count, all_kinds_lem}
use Rattle.node_changes.proofs.Windows.{window-ordered}
use Rattle.changes_writer.specs.declared.Updating.TheVariants.{Done, More}
use Rattle.changes_writer.specs.Writer.{change_limit, migration, state_in, is_sound, accepts, fitting, reported, area_words, bytes_of, UpdatesLeft, updates_left, report, remaining, update_nodes}
use Rattle.changes_reader.specs.Reader.{change_words}
use Rattle.changes_reader.proofs.Reader.{words_long, words_append}
use Rattle.changes_trip.specs.Trip.{as_read, call_lists, call_lists_of, first_bytes, calls_from, calls, read_all, ReadAs, Answers, CallByCall, accepts_list, count_of, AllChanges}
use Rattle.changes_trip.proofs.Fits.{fitting-some, reported-long, reported-room, few-changes, lists-of-more, lists-of-last, lists-of-all, lists-of-few}
use Rattle.changes_trip.proofs.Back.{holds-word, report-read, left-state, left-head}

-- ---- an area with a state variable and twelve zero bytes

module _ (s : ℕ) (rest : List ℕ) (l : 16 + length rest ≡ area_bytes) where
  abbrev lent : List ℕ
  lent = first_bytes s ++ rest

  lent-long : length lent ≡ area_bytes
  unfolding flat_map
  lent-long = omega arith

  lent-state : state_in lent ≡ s
  lent-state = holds-word lent 0 s (0 ∷ 0 ∷ 0 ∷ []) (holds-between [] (first_bytes s) rest)

  lent-zeros : zero_at 12 lent 4 ≡ true
  unfolding flat_map zero_at pick
  lent-zeros = refl

-- ---- the areas read, one after the other

take-written : (d ws : List ℕ) → length ws ≤ length d → take (length ws) (sets d 0 ws) ≡ ws
unfolding part
take-written d ws h = part_held (sets d 0 ws) 0 ws (holds-written d 0 ws (omega arith))

abbrev AllSmall : List (List Change) → Type 0
AllSmall [] = Unit
AllSmall (cs ∷ more) = (length cs ≤ 1018) × AllSmall more

no_words : [] ≡ change_words []
unfolding change_words flat_map
no_words = refl

read-all : (out : List ℕ) → 3054 ≤ length out → (s : ℕ) (ps : List (List Change)) (ls : List UpdatesLeft) → CallByCall s ps ls → AllSmall ps → read_all out ls ≡ change_words (map as_read (flatten ps))
unfolding read_all flatten
read-all out room s [] [] c h = no_words
read-all out room s [] (l ∷ ls) c h = absurd c
read-all out room s (cs ∷ ps) [] c h = absurd c
read-all out room s (cs ∷ ps) (l ∷ ls) c h =
    let long : length (change_words (map as_read cs)) ≡ 3 * length cs = words_long (map as_read cs) ∙ ap (λ (n : ℕ). 3 * n) (length-map cs as_read) in
    let here : take (3 * length cs) (sets out 0 (change_words (map as_read cs))) ≡ change_words (map as_read cs) = rw long at (take-written out (change_words (map as_read cs)) (omega (arith, h.0))) in
    rw (c.0 out (omega (arith, h.0)), read-all out room (s + length cs) ps ls c.2 h.1, map-append as_read cs (flatten ps), words_append (map as_read cs) (map as_read (flatten ps)))
    (ap (λ (ws : List ℕ). ws ++ change_words (map as_read (flatten ps))) here)

-- ---- each change once

count-both : (p : Change → Bool) (xs ys : List Change) → count_of p (xs ++ ys) ≡ count_of p xs + count_of p ys
unfolding count_of
count-both p [] ys = omega arith
count-both p (x ∷ xs) ys = omega (arith, count-both p xs ys)

count-kind : (p : Change → Bool) (c : Change) (cs : List Change) (kind : ℕ) → count_of p (of_kind kind (c ∷ cs)) ≡ as_of c.kind (pick (p c) 1 0) kind + count_of p (of_kind kind cs)
unfolding of_kind count_of pick
count-kind p c cs kind = test (eqb c.kind kind)
  where
    test : (b : Bool) → count_of p (pick b (c ∷ of_kind kind cs) (of_kind kind cs)) ≡ pick b (pick (p c) 1 0) 0 + count_of p (of_kind kind cs)
    test true = refl
    test false = omega arith

counts : (p : Change → Bool) (cs : List Change) → all_kinds cs ≡ true → count_of p (of_kind delete cs) + count_of p (of_kind update cs) + count_of p (of_kind add cs) ≡ count_of p cs
unfolding all_kinds count_of of_kind
counts p [] known = refl
counts p (c ∷ cs) known =
    let k = pick-and (is_kind c.kind) (all_kinds cs) known in
    let one = kinds-one c.kind (pick (p c) 1 0) ∙ pick_yes _ _ _ k.0 in
    omega (arith, count-kind p c cs delete, count-kind p c cs update, count-kind p c cs add, one, counts p cs k.1)

count-once : (p : Change → Bool) (cs : List Change) → all_kinds cs ≡ true → count_of p (in_order cs) ≡ count_of p cs
unfolding in_order
count-once p cs known = omega (arith, count-both p (of_kind delete cs) (of_kind update cs ++ of_kind add cs), count-both p (of_kind update cs) (of_kind add cs), counts p cs known)

-- ---- one call

module _ (ws : List ℕ) (ok : accepts_list ws ≡ true) where
  abbrev cs : List Change
  cs = changes_in ws

  abbrev all : List Change
  all = in_order cs

  order-long : length all ≡ length cs
  unfolding accepts_list in_order
  order-long =
      let e = eqb-true (kind_count cs) (length cs) (sym (all_kinds_lem cs) ∙ (every-each _ ok).1.0) in
      omega (arith, length-append (of_kind delete cs) (of_kind update cs ++ of_kind add cs), length-append (of_kind update cs) (of_kind add cs))

  module _ (s : ℕ) (rest : List ℕ) (l : 16 + length rest ≡ area_bytes) (few : s ≤ length all) where
    abbrev area : List ℕ
    area = first_bytes s ++ rest

    abbrev to-come : List Change
    to-come = remaining s ws

    call-is : update_nodes migration ws area ≡ report s to-come area
    unfolding update_nodes accepts is_sound accepts_list
    call-is =
        let e = lent-state s rest l in
        let o = every-each _ ok in
        let t : is_sound migration ws area ≡ true = each-every _ (refl, (le-leb (state_in area) (length cs) (omega (arith, order-long)), (o.0, (lent-zeros s rest l, (eq-eqb _ _ (lent-long s rest l), (o.1.1.0, tt)))))) in
        pick_yes _ _ _ (pick_yes _ _ _ t ∙ o.1.0) ∙ rw e

    module _ (more : fitting to-come < length to-come) where
      call-more : update_nodes migration ws area ≡ updates_left (Ok More) (sets area 0 (bytes_of (area_words (s + fitting to-come) (reported to-come))))
      unfolding report
      call-more = call-is ∙ pick_yes _ _ _ (lt-ltb _ _ more)

    module _ (done : length to-come ≤ fitting to-come) where
      call-done : update_nodes migration ws area ≡ updates_left (Ok Done) (sets area 0 (bytes_of (area_words 0 (reported to-come))))
      unfolding report
      call-done = call-is ∙ pick_no _ _ _ (le-ltb _ _ done)

    call-read : (state : ℕ) → ReadAs (reported to-come) (sets area 0 (bytes_of (area_words state (reported to-come))))
    call-read state = report-read area state (reported to-come) (window-ordered s (fitting to-come) cs) (lent-long s rest l) (reported-room to-come)

  every-kind : all_kinds cs ≡ true
  unfolding accepts_list
  every-kind = (every-each _ ok).1.0

  within-limit : length cs ≤ change_limit
  unfolding accepts_list
  within-limit = leb-true _ _ (every-each _ ok).0

  -- ---- all calls

  module _ (others : ℕ → List ℕ) (long : (i : ℕ) → 16 + length (others i) ≡ area_bytes) where
    calls-more : (k i : ℕ) (first a : List ℕ) → update_nodes migration ws (first ++ others i) ≡ updates_left (Ok More) a → calls_from (suc k) ws others i first ≡ updates_left (Ok More) a ∷ calls_from k ws others (suc i) (take 16 a)
    unfolding calls_from pick
    calls-more k i first a e = rw e

    calls-done : (k i : ℕ) (first a : List ℕ) → update_nodes migration ws (first ++ others i) ≡ updates_left (Ok Done) a → calls_from (suc k) ws others i first ≡ updates_left (Ok Done) a ∷ []
    unfolding calls_from pick
    calls-done k i first a e = rw e

    -- there is another call
    answers-more : (s : ℕ) (ds : List Change) (ps : List (List Change)) (a : List ℕ) → 0 < length ps → take 16 a ≡ first_bytes (s + length ds) → 509 ≤ length ds → Answers s ds ps (updates_left (Ok More) a)
    answers-more s ds [] a some f h = absurd (omega arith)
    answers-more s ds (p ∷ ps) a some f h = (refl, f, h)

    some-call : (ds : List Change) → 0 < length (call_lists ds)
    some-call ds = test (ltb (fitting ds) (length ds)) refl
      where
        test : (b : Bool) → ltb (fitting ds) (length ds) ≡ b → 0 < length (call_lists ds)
        test true e = rw (lists-of-more ds (ltb-true _ _ e)) (omega arith)
        test false e = rw (lists-of-last ds (ltb-false _ _ e)) (omega arith)

    abbrev Calls : ℕ → ℕ → ℕ → Type 0
    Calls k i s = CallByCall s (call_lists (remaining s ws)) (calls_from k ws others i (first_bytes s))

    all-calls : (k i s : ℕ) → s ≤ length all → length (call_lists (remaining s ws)) ≤ k → Calls k i s
    all-calls zero i s few enough = absurd (omega (arith, some-call (remaining s ws)))
    all-calls (suc k) i s few enough = test (ltb (fitting (remaining s ws)) (length (remaining s ws))) refl (all-calls k)
      where
        test : (b : Bool) → ltb (fitting (remaining s ws)) (length (remaining s ws)) ≡ b → ((i s : ℕ) → s ≤ length all → length (call_lists (remaining s ws)) ≤ k → Calls k i s) → Calls (suc k) i s
        test true e ih =
            let r = remaining s ws in
            let n = fitting r in
            let more = ltb-true n (length r) e in
            let ps = lists-of-more r more in
            let next : drop n r ≡ remaining (s + n) ws = drop-drop n s all in
            let a = sets (first_bytes s ++ others i) 0 (bytes_of (area_words (s + n) (reported r))) in
            let head : take 16 a ≡ first_bytes (s + n) = left-head (first_bytes s ++ others i) (s + n) (reported r) (window-ordered s n cs) (lent-long s (others i) (long i)) (reported-room r) in
            let fewer : length (call_lists (drop n r)) ≤ k = omega (arith, ap length ps) in
            let some : 509 ≤ length (reported r) = omega (arith, fitting-some r more, reported-long r) in
            let after : s + length (reported r) ≡ s + n = ap (λ (m : ℕ). s + m) (reported-long r) in
            rw (ps, calls-more k i (first_bytes s) a (call-more s (others i) (long i) few more), next, head, after) (
              call-read s (others i) (long i) few (s + n),
              answers-more s (reported r) (call_lists (remaining (s + n) ws)) a (some-call (remaining (s + n) ws)) (head ∙ ap first_bytes (sym after)) some,
              ih (suc i) (s + n) (omega (arith, length-drop s all)) (rw next at fewer),
            )
        test false e ih =
            let r = remaining s ws in
            let done = ltb-false (fitting r) (length r) e in
            let a = sets (first_bytes s ++ others i) 0 (bytes_of (area_words 0 (reported r))) in
            rw (lists-of-last r done, calls-done k i (first_bytes s) a (call-done s (others i) (long i) few done))
            (call-read s (others i) (long i) few 0, (refl, left-state (first_bytes s ++ others i) 0 (reported r) (window-ordered s (fitting r) cs) (lent-long s (others i) (long i)) (reported-room r)), tt)

  -- ---- no call has too many changes for the reader's buffer

  all_small : (k s : ℕ) → length (remaining s ws) < k → AllSmall (call_lists (remaining s ws))
  all_small zero s h = absurd (omega arith)
  all_small (suc k) s h = test (ltb (fitting (remaining s ws)) (length (remaining s ws))) refl (all_small k)
    where
      small : length (reported (remaining s ws)) ≤ 1018
      small = few-changes (reported (remaining s ws)) (window-ordered s (fitting (remaining s ws)) cs) (reported-room (remaining s ws))

      test : (b : Bool) → ltb (fitting (remaining s ws)) (length (remaining s ws)) ≡ b → ((s : ℕ) → length (remaining s ws) < k → AllSmall (call_lists (remaining s ws))) → AllSmall (call_lists (remaining s ws))
      test true e ih =
          let r = remaining s ws in
          let more = ltb-true (fitting r) (length r) e in
          let next : drop (fitting r) r ≡ remaining (s + fitting r) ws = drop-drop (fitting r) s all in
          let less : length (drop (fitting r) r) < k = omega (arith, length-drop (fitting r) r, fitting-some r more) in
          rw (lists-of-more r more, next) (small, ih (s + fitting r) (rw next at less))
      test false e ih = let r = remaining s ws in rw (lists-of-last r (ltb-false (fitting r) (length r) e)) (small, tt)

pub all-changes : AllChanges
all-changes ws ok =
    let all = in_order (changes_in ws) in
    let n = suc (length all) in
    record {
      reports = λ others long k enough. all-calls ws ok others long k 0 0 (omega arith) enough;
      together =
          λ others long k enough out room.
          read-all out room 0 (call_lists_of ws) (calls k ws others) (all-calls ws ok others long k 0 0 (omega arith) enough) (all_small ws ok n 0 (omega arith))
          ∙ ap (λ (cs : List Change). change_words (map as_read cs)) (lists-of-all n all (omega arith));
      once = λ p. count-once p (changes_in ws) (every-kind ws ok);
      nine = omega (arith, lists-of-few n all (omega arith), order-long ws ok, within-limit ws ok);
    }
