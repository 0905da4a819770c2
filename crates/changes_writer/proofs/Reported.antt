-- A plan is what fits, and its lists are those of the changes that are reported.
use mathlib.Core.Path.{◌≡◌, ap, sym, ◌∙◌}
use mathlib.Core.Bool.{true, false}
use mathlib.Core.List.{List, [], ◌∷◌, ◌++◌}
use Rattle.std.specs.Prelude.{Ok}
use Prim.Native.Nat.{ℕ, ◌+◌, ◌-◌, ◌<◌, ◌≤◌, min}
use native.Mathlib.Omega.{arith}
use lib.Dec.{ltb, leb}
use lib.ListN.{length, take, drop, length-append, length-take, length-drop}
use lib.Seq.{sets}
use borrow.Author.Tests.{le-leb, lt-leb, lt-ltb, le-ltb}
use Rattle.words.specs.Pick.{pick}
use Rattle.words.proofs.Pick.{pick_yes, pick_no}
use Rattle.node_changes.specs.Changes.{Change, delete, update, add, of_kind, in_order, tally_of}
use Rattle.node_changes.specs.Lists.{operation, operations}
use Rattle.node_changes.proofs.Windows.{take_same, drop-least, window_d, window_u, window_a, from₁, from₂, n₁, n₂, kinds-d, kinds-u, kinds-a, window-lists}
use Rattle.node_changes.specs.declared.Tally.{Tally}
use Rattle.changes_writer.specs.declared.Plan.{Plan}
use Rattle.changes_writer.specs.declared.Updating.TheVariants.{Done, More}
use Rattle.changes_writer.specs.Writer.{list_words, fitting, reported, area_words, bytes_of, updates_left, report}
use Rattle.changes_writer.specs.Plan.{plan_of, in_portion, lists_of, PlanFits}
use Rattle.changes_writer.proofs.Room.{Three, fit-one, fit-two, size_of, parts, fits, no_more, highest-is, size-most, end_of, sum_of}
use Rattle.changes_writer.proofs.Bytes.{operation-long}

after_both : (m n k : ℕ) → m + n - k ≡ m - k + (n - (k - m))
after_both m n k = omega arith

sub-sub : (k m n : ℕ) → k - (m + n) ≡ k - m - n
sub-sub k m n = omega arith

module _ (cs : List Change) (before : ℕ) where
  abbrev ds : List Change
  ds = of_kind delete cs

  abbrev us : List Change
  us = of_kind update cs

  abbrev as' : List Change
  as' = of_kind add cs

  abbrev plan : Plan
  plan = plan_of (tally_of cs) before

  -- how many of each kind remain
  abbrev rest_d : ℕ
  rest_d = length ds - before

  abbrev rest_u : ℕ
  rest_u = length us - (before - length ds)

  abbrev rest_a : ℕ
  rest_a = length as' - (before - length ds - length us)

  abbrev rest : List Change
  rest = drop before (in_order cs)

  -- how many are reported
  abbrev pub count : ℕ
  count = plan.deletes.count + plan.updates.count + plan.adds.count

  three : Three rest_d rest_u rest_a plan.deletes.count plan.updates.count plan.adds.count
  unfolding plan_of tally_of
  three = record { deletes = fit-one _ _; updates = fit-one _ _; adds = fit-two _ _ }

  order-long : length (in_order cs) ≡ length ds + length us + length as'
  unfolding in_order
  order-long = omega (arith, length-append ds (us ++ as'), length-append us as')

  rest-long : length rest ≡ rest_d + rest_u + rest_a
  rest-long = length-drop before (in_order cs) ∙ rw order-long (after_both (length ds + length us) (length as') before ∙ rw (after_both (length ds) (length us) before, sub-sub before (length ds) (length us)))

  module _ (n : ℕ) where
    long-d : length (window_d before n cs) ≡ min n rest_d
    long-d = length-take n (drop before ds) ∙ ap (min n) (length-drop before ds)

    long-u : length (window_u before n cs) ≡ min (n - rest_d) rest_u
    long-u = length-take (n₁ before n cs) (drop (from₁ before n cs) us) ∙ ap (min (n - rest_d)) (length-drop (from₁ before n cs) us)

    long-a : length (window_a before n cs) ≡ min (n - rest_d - rest_u) rest_a
    long-a = length-take (n₂ before n cs) (drop (from₂ before n cs) as') ∙ ap (min (n - rest_d - rest_u)) (length-drop (from₂ before n cs) as')

    lists-long : length (operations (take n rest)) ≡ size_of rest_d rest_u rest_a _ _ _ three n
    unfolding pick
    lists-long =
        let d = window_d before n cs in
        let u = window_u before n cs in
        let a = window_a before n cs in
        ap length (window-lists before n cs)
        ∙ length-append (operation delete d) (operation update u ++ operation add a)
        ∙ rw (length-append (operation update u) (operation add a), operation-long delete d (kinds-d before n cs), operation-long update u (kinds-u before n cs), operation-long add a (kinds-a before n cs), long-d, long-u, long-a)

  -- as many as fit
  pub fitting-is : fitting rest ≡ count
  unfolding fitting
  fitting-is =
      highest-is (λ k. leb (length (operations (take k rest))) list_words) (length rest) count
      (omega (arith, rest-long, three.deletes.few, three.updates.few, three.adds.few))
      (λ some. le-leb (length (operations (take count rest))) list_words (rw (lists-long count) (fits _ _ _ _ _ _ three)))
      (λ j more few. lt-leb (length (operations (take j rest))) list_words (rw (lists-long j) (no_more _ _ _ _ _ _ three j more (omega (arith, rest-long)))))

  -- with these lists
  pub lists-are : operations (reported rest) ≡ lists_of plan cs
  unfolding lists_of in_portion plan_of tally_of
  lists-are =
      let p = parts _ _ _ _ _ _ three in
      ap (λ (k : ℕ). operations (take k rest)) fitting-is
      ∙ window-lists before count cs
      ∙ rw (
        same count plan.deletes.count before ds p.deletes three.deletes.few,
        same (n₁ before count cs) plan.updates.count (before - length ds) us p.updates three.updates.few,
        same (n₂ before count cs) plan.adds.count (before - length ds - length us) as' p.adds three.adds.few,
      )
    where
      same : (m n k : ℕ) (xs : List Change) → min m (length xs - k) ≡ n → n ≤ length xs - k → take m (drop k xs) ≡ take n (drop (min k (length xs)) xs)
      same m n k xs e l =
          rw (drop-least k xs)
          (take_same m n (drop k xs) (rw (length-drop k xs) (e ∙ omega arith)))

  -- and there is room for them
  pub plan-fits : PlanFits plan cs
  unfolding plan_of tally_of
  plan-fits =
      let f = three in
      record {
        deletes = record { there = omega (arith, f.deletes.few); few = omega (arith, f.deletes.within, size-most plan.deletes.count 1) };
        updates = record { there = omega (arith, f.updates.few); few = omega (arith, f.updates.within, size-most plan.updates.count 1) };
        adds = record { there = omega (arith, f.adds.few); few = omega (arith, f.adds.within, size-most plan.adds.count 2) };
        room = omega (arith, f.deletes.within, f.updates.within, f.adds.within);
      }

  -- ---- the report

  abbrev n : ℕ
  n = sum_of (tally_of cs)

  abbrev end : ℕ
  end = end_of plan before

  module _ (area area' : List ℕ) (state : ℕ) (h : before ≤ n) (s : state ≡ pick (ltb end n) end 0) (e : area' ≡ sets area 0 (bytes_of ((state ∷ 0 ∷ 0 ∷ 0 ∷ lists_of plan cs) ++ (0 ∷ [])))) where
    remain : length rest ≡ n - before
    unfolding tally_of
    remain = length-drop before (in_order cs) ∙ omega (arith, order-long)

    end_is : end ≡ before + fitting rest
    end_is = omega (arith, fitting-is)

    report-more : end < n → updates_left (Ok More) area' ≡ report before rest area
    unfolding report area_words
    report-more more =
        let s' : state ≡ before + fitting rest = s ∙ pick_yes _ _ _ (lt-ltb _ _ more) ∙ end_is in
        let l : ltb (fitting rest) (length rest) ≡ true = lt-ltb (fitting rest) (length rest) (omega (arith, end_is, remain)) in
        rw (e, s') (sym (pick_yes _ _ _ l ∙ rw lists-are))

    report-done : n ≤ end → updates_left (Ok Done) area' ≡ report before rest area
    unfolding report area_words
    report-done done =
        let s' : state ≡ 0 = s ∙ pick_no _ _ _ (le-ltb _ _ done) in
        let l : ltb (fitting rest) (length rest) ≡ false = le-ltb (fitting rest) (length rest) (omega (arith, end_is, remain)) in
        rw (e, s') (sym (pick_no _ _ _ l ∙ rw lists-are))

-- as the code has the plan
module _ (cs : List Change) (t : Tally) (p : Plan) (before : ℕ) (et : t ≡ tally_of cs) (ep : p ≡ plan_of t before) where
  ep' : p ≡ plan_of (tally_of cs) before
  ep' = ep ∙ ap (λ (x : Tally). plan_of x before) et

  pub plan-of-fits : PlanFits p cs
  plan-of-fits = rw ep' (plan-fits cs before)

  pub report-is : (area area' : List ℕ) (state : ℕ) → before ≤ sum_of t → state ≡ pick (ltb (end_of p before) (sum_of t)) (end_of p before) 0 → area' ≡ sets area 0 (bytes_of ((state ∷ 0 ∷ 0 ∷ 0 ∷ lists_of p cs) ++ (0 ∷ [])))
      → (end_of p before < sum_of t → updates_left (Ok More) area' ≡ report before (drop before (in_order cs)) area) × (sum_of t ≤ end_of p before → updates_left (Ok Done) area' ≡ report before (drop before (in_order cs)) area)
  report-is = rw (ep', et) (λ area area' state h s e. (report-more cs before area area' state h s e, report-done cs before area area' state h s e))
