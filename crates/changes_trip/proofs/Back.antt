-- What a report's area is read as: the changes that were reported, in order.
use mathlib.Core.Path.{◌≡◌, refl, ap, sym, ◌∙◌}
use mathlib.Core.Bool.{Bool, true, false}
use mathlib.Core.List.{List, [], ◌∷◌, ◌++◌, append_assoc, append-nil, map, map-append, flat_map}
use Rattle.std.specs.Prelude.{Result, Ok, Err}
use Prim.Native.Nat.{ℕ, suc, ◌+◌, ◌-◌, ◌*◌, ◌/◌, ◌%◌, ◌<◌, ◌≤◌}
use native.Mathlib.Omega.{arith}
use lib.Dec.{eqb}
use lib.ListN.{length, take, length-append, length-map}
use lib.Seq.{sets, length-sets}
use borrow.Author.Tests.{le-ltb}
use Rattle.words.specs.Pick.{pick, any}
use Rattle.words.specs.First.{first_of}
use Rattle.words.specs.Bytes.{part, word_at}
use Rattle.words.proofs.Pick.{pick-cases, pick_no}
use Rattle.buffer.specs.Put.{bytes32}
use Rattle.rebuild.proofs.Blocks.{Holds, holds-first, holds-second, holds-written, part_held, word_held}
use Rattle.node_changes.specs.Changes.{Change, change, delete, update, add, is_kind, of_kind, in_order}
use Rattle.node_changes.specs.Lists.{area_bytes, width, operands, operator, opcode_of, operands_after, operation, operations}
use Rattle.node_changes.proofs.Windows.{AllKind, of-kind}
use Rattle.changes_writer.specs.Writer.{list_words, area_words, bytes_of}
use Rattle.changes_writer.proofs.Bytes.{bytes-both, bytes-long, operands-long}
use Rattle.changes_reader.specs.declared.AreaFault.{AreaFault}
use Rattle.changes_reader.specs.declared.AreaFault.TheVariants.{PastArea, UnknownOpcode, OddAdd}
use Rattle.changes_reader.specs.Reader.{before, entries_at, operator_fault, read_from, read_area, change_words}
use Rattle.changes_reader.proofs.Reader.{read-end, read_more, words_long, all_read}
use Rattle.changes_trip.specs.Trip.{as_read, ReadAs}

-- ---- words in an area

module _ (area : List ℕ) (at : ℕ) where
  pub holds-word : (x : ℕ) (ws : List ℕ) → Holds area at (bytes_of (x ∷ ws)) → word_at area at ≡ x
  unfolding flat_map
  holds-word x ws h = word_held area at x (holds-first area at (bytes32 x) (bytes_of ws) h)

  holds-next : (x : ℕ) (ws : List ℕ) → Holds area at (bytes_of (x ∷ ws)) → Holds area (at + 4) (bytes_of ws)
  unfolding flat_map
  holds-next x ws h = holds-second area at (bytes32 x) (bytes_of ws) h

  holds-two : (u v : List ℕ) → Holds area at (bytes_of (u ++ v)) → Holds area at (bytes_of u) × Holds area (at + 4 * length u) (bytes_of v)
  holds-two u v h =
      let h' = rw (bytes-both u v) at h in
      (holds-first area at (bytes_of u) (bytes_of v) h', rw (bytes-long u) at (holds-second area at (bytes_of u) (bytes_of v) h'))

-- ---- entries

module _ (area : List ℕ) where
  -- one change, and what comes after it
  entry_read : (c : Change) (ws : List ℕ) (at : ℕ) → Holds area at (bytes_of (operands c ++ ws)) →
      (change c.kind (word_at area at) (pick (eqb c.kind add) (word_at area (at + 4)) 0) ≡ as_read c) × Holds area (at + 4 * width c.kind) (bytes_of ws)
  unfolding operands as_read pick
  entry_read c ws at = test (eqb c.kind add)
    where
      test : (b : Bool) → Holds area at (bytes_of (pick b (c.node ∷ c.index ∷ []) (c.node ∷ []) ++ ws)) → (change c.kind (word_at area at) (pick b (word_at area (at + 4)) 0) ≡ change c.kind c.node (pick b c.index 0)) × Holds area (at + 4 * pick b 2 1) (bytes_of ws)
      test true h =
          let h' = holds-next area at c.node (c.index ∷ ws) h in
          let two : at + 4 + 4 ≡ at + 8 = omega arith in
          (rw (holds-word area at c.node (c.index ∷ ws) h, holds-word area (at + 4) c.index ws h'), rw two at (holds-next area (at + 4) c.index ws h'))
      test false h = (rw (holds-word area at c.node ws h), holds-next area at c.node ws h)

  entries-read : (kind : ℕ) (cs : List Change) (at : ℕ) → AllKind kind cs → Holds area at (bytes_of (flat_map operands cs)) → entries_at kind (length cs) area at ≡ map as_read cs
  unfolding entries_at flat_map
  entries-read kind [] at k h = refl
  entries-read kind (c ∷ cs) at k h =
      let r = entry_read c (flat_map operands cs) at h in
      let e : change kind (word_at area at) (pick (eqb kind add) (word_at area (at + 4)) 0) ≡ as_read c = ap (λ (x : ℕ). change x (word_at area at) (pick (eqb x add) (word_at area (at + 4)) 0)) (sym k.0) ∙ r.0 in
      rw (e, entries-read kind cs (at + 4 * width kind) k.1 (rw k.0 at r.1))

-- ---- operators

-- an operator's two parts
operator-kind : (kind n : ℕ) → n < 16777216 → opcode_of (operator kind n) ≡ kind
operator-kind kind n h = omega arith

operator-count : (kind n : ℕ) → n < 16777216 → operands_after (operator kind n) ≡ n
operator-count kind n h = omega arith

-- whole entries
whole-mod : (kind n : ℕ) → n * width kind % width kind ≡ 0
unfolding pick
whole-mod kind n = test (eqb kind add)
  where
    test : (b : Bool) → n * pick b 2 1 % pick b 2 1 ≡ 0
    test true = omega arith
    test false = omega arith

whole-div : (kind n : ℕ) → n * width kind / width kind ≡ n
unfolding pick
whole-div kind n = test (eqb kind add)
  where
    test : (b : Bool) → n * pick b 2 1 / pick b 2 1 ≡ n
    test true = omega arith
    test false = omega arith

abbrev none : Result Unit AreaFault
none = Ok tt

-- with all operands in the area nothing is refused
fault-none : (kind n left : ℕ) → is_kind kind ≡ true → n * width kind < 16777216 → 4 * (n * width kind) ≤ left → operator_fault (operator kind (n * width kind)) left ≡ none
unfolding operator_fault first_of
fault-none kind n left known few fits =
    let m = n * width kind in
    rw (operator-count kind m few, operator-kind kind m few, known, whole-mod kind n, le-ltb left (4 * m) fits) (test (eqb m 0))
  where
    test : (b : Bool) → pick b none (pick false (Err PastArea) (pick false (Err UnknownOpcode) (pick false (Err OddAdd) none))) ≡ none
    test b = pick-cases (λ (r : Result Unit AreaFault). r ≡ none) b none (pick false (Err PastArea) (pick false (Err UnknownOpcode) (pick false (Err OddAdd) none))) (λ e. refl) (λ e. pick_no false _ _ refl ∙ pick_no false _ _ refl ∙ pick_no false _ _ refl)

none_before : (r : Result (List Change) AreaFault) → r ≡ before [] r
none_before (Ok cs) = refl
none_before (Err f) = refl

module _ (area : List ℕ) (kind : ℕ) (known : is_kind kind ≡ true) (some : 0 < kind) (small : length area ≤ area_bytes) where
  list_read : (cs : List Change) (at : ℕ) (ws : List ℕ) → AllKind kind cs → Holds area at (bytes_of (operation kind cs ++ ws)) → read_from area at ≡ before (map as_read cs) (read_from area (at + 4 * length (operation kind cs)))
  unfolding operation
  list_read [] at ws k h = let e : at + 0 ≡ at = omega arith in rw e (none_before (read_from area at))
  list_read (c ∷ cs) at ws k h =
      let all = c ∷ cs in
      let m = length all * width kind in
      let long : length (flat_map operands all) ≡ m = operands-long kind all k in
      let e : word_at area at ≡ operator kind m = rw long at (holds-word area at (operator kind (length (flat_map operands all))) (flat_map operands all ++ ws) h) in
      let held = (holds-two area (at + 4) (flat_map operands all) ws (holds-next area at (operator kind (length (flat_map operands all))) (flat_map operands all ++ ws) h)).0 in
      let fits : at + 4 + 4 * m ≤ length area = omega (arith, held.fits, bytes-long (flat_map operands all)) in
      let few : m < 16777216 = omega arith in
      let step = read_more area at (omega arith) (λ z. omega arith) (rw e (fault-none kind (length all) (length area - (at + 4)) known few (omega arith))) in
      let entries = entries-read area kind all (at + 4) k held in
      let place : at + 4 + 4 * m ≡ at + 4 * suc (length (flat_map operands all)) = omega arith in
      (rw (e, operator-count kind m few, operator-kind kind m few, whole-div kind (length all), entries, place) at step)

-- the terminator
end_read : (area : List ℕ) (at : ℕ) → Holds area at (bytes_of (0 ∷ [])) → read_from area at ≡ Ok []
unfolding flat_map
end_read area at h = read-end area at (omega (arith, h.fits)) (holds-word area at 0 [] h)

-- ---- a report's area

module _ (area : List ℕ) (state : ℕ) (cs : List Change) (ordered : in_order cs ≡ cs) (long : length area ≡ area_bytes) (room : length (operations cs) ≤ list_words) where
  abbrev left : List ℕ
  left = sets area 0 (bytes_of (area_words state cs))

  abbrev ds : List ℕ
  ds = operation delete (of_kind delete cs)

  abbrev us : List ℕ
  us = operation update (of_kind update cs)

  abbrev as' : List ℕ
  as' = operation add (of_kind add cs)

  words-long' : length (area_words state cs) ≡ 5 + length (operations cs)
  unfolding area_words
  words-long' = length-append (state ∷ 0 ∷ 0 ∷ 0 ∷ operations cs) (0 ∷ []) ∙ omega arith

  pub left-long : length left ≡ area_bytes
  left-long = length-sets area 0 (bytes_of (area_words state cs)) ∙ long

  pub left-holds : Holds left 0 (bytes_of (area_words state cs))
  left-holds = holds-written area 0 (bytes_of (area_words state cs)) (omega (arith, bytes-long (area_words state cs), words-long'))

  lists-held : Holds left 16 (bytes_of (ds ++ (us ++ (as' ++ (0 ∷ [])))))
  unfolding area_words operations
  lists-held =
      let h = (holds-two left 0 (state ∷ 0 ∷ 0 ∷ 0 ∷ []) (ds ++ (us ++ as') ++ (0 ∷ [])) left-holds).1 in
      rw (← append_assoc us as' (0 ∷ []), ← append_assoc ds (us ++ as') (0 ∷ [])) h

  same : map as_read (of_kind delete cs) ++ (map as_read (of_kind update cs) ++ (map as_read (of_kind add cs) ++ [])) ≡ map as_read cs
  unfolding in_order
  same =
      rw (append-nil (map as_read (of_kind add cs)), ← map-append as_read (of_kind update cs) (of_kind add cs), ← map-append as_read (of_kind delete cs) (of_kind update cs ++ of_kind add cs))
      (ap (map as_read) ordered)

  lists-read : read_area left ≡ Ok (map as_read cs)
  unfolding is_kind any pick
  lists-read =
      let small : length left ≤ area_bytes = omega (arith, left-long) in
      let hd = lists-held in
      let hu = (holds-two left 16 ds (us ++ (as' ++ (0 ∷ []))) hd).1 in
      let ha = (holds-two left (16 + 4 * length ds) us (as' ++ (0 ∷ [])) hu).1 in
      let hz = (holds-two left (16 + 4 * length ds + 4 * length us) as' (0 ∷ []) ha).1 in
      list_read left delete refl (omega arith) small (of_kind delete cs) 16 (us ++ (as' ++ (0 ∷ []))) (of-kind delete cs) hd
      ∙ rw (
        list_read left update refl (omega arith) small (of_kind update cs) (16 + 4 * length ds) (as' ++ (0 ∷ [])) (of-kind update cs) hu,
        list_read left add refl (omega arith) small (of_kind add cs) (16 + 4 * length ds + 4 * length us) (0 ∷ []) (of-kind add cs) ha,
        end_read left (16 + 4 * length ds + 4 * length us + 4 * length as') hz,
      )
      (ap Ok same)

  pub report-read : ReadAs cs left
  report-read out fits =
      let e : length (change_words (map as_read cs)) ≡ 3 * length cs = words_long (map as_read cs) ∙ ap (λ (n : ℕ). 3 * n) (length-map cs as_read) in
      all_read left out left-long (map as_read cs) lists-read (omega (arith, e)) ∙ rw e

  -- its first sixteen bytes
  head-held : Holds left 0 (bytes_of (state ∷ 0 ∷ 0 ∷ 0 ∷ []))
  unfolding area_words
  head-held = (holds-two left 0 (state ∷ 0 ∷ 0 ∷ 0 ∷ []) (operations cs ++ (0 ∷ [])) left-holds).0

  pub left-state : word_at left 0 ≡ state
  left-state = holds-word left 0 state (0 ∷ 0 ∷ 0 ∷ []) head-held

  pub left-head : take 16 left ≡ bytes_of (state ∷ 0 ∷ 0 ∷ 0 ∷ [])
  unfolding part
  left-head = rw (bytes-long (state ∷ 0 ∷ 0 ∷ 0 ∷ [])) at (part_held left 0 (bytes_of (state ∷ 0 ∷ 0 ∷ 0 ∷ [])) head-held)
