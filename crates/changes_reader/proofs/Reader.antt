-- Laws of the operation lists read: from one operator to the next, the words of the changes, and the answers.
use mathlib.Core.Path.{◌≡◌, refl, ap, sym, ◌∙◌}
use mathlib.Core.Bool.{Bool, true, false, not, false≢true}
use mathlib.Core.List.{List, [], ◌∷◌, ◌++◌, flat_map}
use Rattle.std.specs.Prelude.{Result, Ok, Err, IsOk, is_ok}
use Prim.Native.Nat.{ℕ, zero, suc, ◌+◌, ◌-◌, ◌*◌, ◌/◌, ◌%◌, ◌<◌, ◌≤◌}
use native.Mathlib.Omega.{arith}
use native.Mathlib.Numerals.{sub-one}
use Rattle.std.proofs.Common.{add-zero}
use lib.Dec.{eqb, ltb}
use lib.ListN.{length, length-append, get_or, take, drop, length-drop, length-take}
use Rattle.std.proofs.lemmas.List.{get_or-take, get_or-drop}
use lib.Seq.{sets}
use borrow.Author.Tests.{lt-ltb, le-ltb, ltb-true, ltb-false, eq-eqb, ne_eqb, eqb-true}
use Rattle.words.specs.Pick.{pick}
use Rattle.words.specs.First.{first_of}
use Rattle.words.specs.Bytes.{word_at, word_here}
use Rattle.words.proofs.Pick.{pick-cases, both-cases, pick_yes, pick_no}
use Rattle.words.proofs.First.{first-passed}
use Rattle.words.proofs.Run.{Falls, run-law}
use Rattle.words.proofs.Bytes.{word_in, word-is}
use Rattle.buffer.specs.Put.{put}
use Rattle.buffer.proofs.Put.{put-none, put-append}
use Rattle.node_changes.specs.Changes.{Change, change, add, is_kind}
use Rattle.node_changes.specs.Lists.{area_bytes, opcode_of, operands_after, width}
use Rattle.changes_reader.specs.declared.AreaFault.{AreaFault}
use Rattle.changes_reader.specs.declared.AreaFault.TheVariants.{PastArea, UnknownOpcode, OddAdd, NoTerminator, NoRoom}
use Rattle.changes_reader.specs.Scan.{count_after, changes_of}
use Rattle.changes_reader.specs.Reader.{entries_at, operator_entries, before, operator_fault, operator_read, from_operator, read_from, read_area, change_words, answer_to, updates_read, read_updates}

-- ---- the changes and their words

pub length-entries : (kind n : ℕ) (area : List ℕ) (at : ℕ) → length (entries_at kind n area at) ≡ n
unfolding entries_at
length-entries kind zero area at = refl
length-entries kind (suc n) area at = ap suc (length-entries kind n area (at + 4 * width kind))

pub words_long : (cs : List Change) → length (change_words cs) ≡ 3 * length cs
unfolding change_words flat_map
words_long [] = refl
words_long (c ∷ cs) = omega (arith, words_long cs)

pub words_append : (cs ds : List Change) → change_words (cs ++ ds) ≡ change_words cs ++ change_words ds
unfolding change_words flat_map
words_append [] ds = refl
words_append (c ∷ cs) ds = ap (λ (ws : List ℕ). c.kind ∷ c.node ∷ c.index ∷ ws) (words_append cs ds)

-- no changes are put
pub put-no-more : (out : List ℕ) (to : ℕ) (cs : List Change) → cs ≡ [] → put out to (change_words cs) ≡ out
unfolding change_words flat_map
put-no-more out to cs e = rw e (put-none out to)

-- the changes of a part are put, and then those after it
pub put_rest : (out out' : List ℕ) (to : ℕ) (cs ds : List Change) {n : ℕ} → n ≡ length cs → 3 * length (cs ++ ds) ≤ length out - to → out' ≡ put out to (change_words cs) → put out' (to + 3 * n) (change_words ds) ≡ put out to (change_words (cs ++ ds))
put_rest out out' to cs ds m h e =
    rw (m, e, words_append cs ds, ← words_long cs)
    (put-append out to (change_words cs) (change_words ds) (omega (arith, words_long cs, words_long ds, length-append cs ds)))

-- ---- changes of a kind from a place on

module _ (kind : ℕ) (area : List ℕ) (at : ℕ) where
  abbrev pub entry_at : Change
  entry_at = change kind (word_at area at) (pick (eqb kind add) (word_at area (at + 4)) 0)

  pub entries_none : (n : ℕ) → n ≤ 0 → entries_at kind n area at ≡ []
  unfolding entries_at
  entries_none zero h = refl
  entries_none (suc n) h = absurd (omega arith)

  pub entries-more : (n : ℕ) → 0 < n → entries_at kind n area at ≡ (entry_at ∷ []) ++ entries_at kind (n - 1) area (at + 4 * width kind)
  unfolding entries_at
  entries-more zero h = absurd (omega arith)
  entries-more (suc n) h = rw sub-one

  -- the next one is put, and then those after it
  pub put-entry : (out out' : List ℕ) (to n node index : ℕ) → 0 < n → 3 * n ≤ length out - to → node ≡ entry_at.node → index ≡ entry_at.index → out' ≡ put out to (kind ∷ node ∷ index ∷ [])
      → put out' (to + 3) (change_words (entries_at kind (n - 1) area (at + 4 * width kind))) ≡ put out to (change_words (entries_at kind n area at))
  unfolding change_words flat_map
  put-entry out out' to n node index h room e f p =
      rw (entries-more n h)
      (put_rest out out' to (entry_at ∷ []) (entries_at kind (n - 1) area (at + 4 * width kind)) refl (omega (arith, length-entries kind (n - 1) area (at + 4 * width kind))) (rw (← e, ← f) p))

-- a word among the n bytes from a place on
word-inside : (area : List ℕ) (at n i : ℕ) → i + 4 ≤ n → at + n ≤ length area → word_at (take n (drop at area)) i ≡ word_at area (at + i)
word-inside area at n i h l =
    let long : i + 4 ≤ length (take n (drop at area)) = simp (length-take, length-drop) (omega arith) in
    let byte : (k : ℕ) → k < 4 → get_or (take n (drop at area)) (i + k) 0 ≡ get_or area (at + i + k) 0 =
    λ k f. let e : at + (i + k) ≡ at + i + k = omega arith in rw e at (get_or-take n (drop at area) (i + k) 0 (omega arith) ∙ get_or-drop at area (i + k) 0) in
    let first : get_or (take n (drop at area)) i 0 ≡ get_or area (at + i) 0 = rw (add-zero i, add-zero (at + i)) at (byte 0 (omega arith)) in
    let here : word_here (take n (drop at area)) i ≡ word_here area (at + i) = omega (arith, first, byte 1 (omega arith), byte 2 (omega arith), byte 3 (omega arith)) in
    word-is (take n (drop at area)) i (omega arith) ∙ here ∙ sym (word-is area (at + i) (omega arith))

-- the words of a change, as they stand in the bytes of its operands
module _ (kind : ℕ) (area : List ℕ) (at k : ℕ) (h : at + 4 * width kind ≤ length area) (e : k ≡ 4 * width kind) where
  pub node-inside : word_at (take k (drop at area)) 0 ≡ word_at area at
  unfolding pick
  node-inside = test (eqb kind add) e h
    where
      test : (b : Bool) → k ≡ 4 * pick b 2 1 → at + 4 * pick b 2 1 ≤ length area → word_at (take k (drop at area)) 0 ≡ word_at area at
      test true f l = rw add-zero at (word-inside area at k 0 (omega arith) (omega arith))
      test false f l = rw add-zero at (word-inside area at k 0 (omega arith) (omega arith))

  pub index-inside : pick (eqb kind add) (word_at (take k (drop at area)) 4) 0 ≡ pick (eqb kind add) (word_at area (at + 4)) 0
  unfolding pick
  index-inside = test (eqb kind add) e h
    where
      test : (b : Bool) → k ≡ 4 * pick b 2 1 → at + 4 * pick b 2 1 ≤ length area → pick b (word_at (take k (drop at area)) 4) 0 ≡ pick b (word_at area (at + 4)) 0
      test true f l = word-inside area at k 4 (omega arith) (omega arith)
      test false f l = refl

-- n changes that fit are one that fits, and those after it
pub rest-fits : (at n v most : ℕ) → 0 < n → at + 4 * (n * v) ≤ most → at + 4 * v + 4 * ((n - 1) * v) ≤ most
rest-fits at zero v most h l = absurd (omega arith)
rest-fits at (suc n) v most h l = rw sub-one (omega arith)

-- ---- from one operator to the next

-- the operands of an operator that is not refused are there
pub operands-fit : (w left : ℕ) → operator_fault w left ≡ Ok tt → 4 * operands_after w ≤ left
unfolding operator_fault first_of
operands-fit w left =
    pick-cases (λ r. r ≡ Ok tt → 4 * operands_after w ≤ left) (eqb (operands_after w) 0) _ _
    (λ e f. omega (arith, eqb-true (operands_after w) 0 e))
    (λ e f. ltb-false left (4 * operands_after w) (first-passed is_ok tests (Ok tt) (refl, (refl, (refl, tt))) (ap is_ok f)).0)
  where
    tests : List (Bool × Result Unit AreaFault)
    tests = (ltb left (4 * operands_after w), Err PastArea) ∷ (not (is_kind (opcode_of w)), Err UnknownOpcode) ∷ (not (eqb (operands_after w % width (opcode_of w)) 0), Err OddAdd) ∷ []

-- how many changes an operator reports, and the place behind its operands
abbrev pub entry_count : ℕ → ℕ
entry_count w = operands_after w / width (opcode_of w)

abbrev pub next_place : ℕ → ℕ → ℕ
next_place at w = at + 4 + 4 * operands_after w

module _ (area : List ℕ) where
  falls : Falls (λ (at : ℕ). length area - at) (from_operator area)
  unfolding operator_read first_of
  falls go go' at h =
      both-cases (λ x y. x ≡ y) (ltb (length area - at) 4) (λ e. refl)
      (λ e. rw (h (next_place at (word_at area at)) (omega (arith, ltb-false (length area - at) 4 e))))

  pub read_step : (at : ℕ) → read_from area at ≡ from_operator area (read_from area) at
  unfolding read_from
  read_step at = run-law (Err NoTerminator) (λ (i : ℕ). length area - i) (from_operator area) falls at

  module _ (at : ℕ) where
    pub read_none : length area - at < 4 → read_from area at ≡ Err NoTerminator
    unfolding operator_read first_of
    read_none h = read_step at ∙ pick_yes _ _ _ (lt-ltb _ _ h)

    -- what is refused at the place
    abbrev pub fault_here : Result Unit AreaFault
    fault_here = operator_fault (word_at area at) (length area - (at + 4))

    -- as the code finds it
    pub fault-is : {w left : ℕ} {r : Result Unit AreaFault} → w ≡ word_at area at → left ≡ length area - (at + 4) → r ≡ operator_fault w left → fault_here ≡ r
    fault-is e f g = sym (g ∙ rw (e, f))

    module _ (h : 4 ≤ length area - at) where
      pub read-end : word_at area at ≡ 0 → read_from area at ≡ Ok []
      unfolding operator_read first_of
      read-end e = read_step at ∙ pick_no _ _ _ (le-ltb _ _ h) ∙ pick_yes _ _ _ (eq-eqb _ _ e)

      module _ (n : word_at area at ≡ 0 → ⊥) where
        pub read-refused : (f : AreaFault) → fault_here ≡ Err f → read_from area at ≡ Err f
        unfolding operator_read first_of
        read-refused f e = read_step at ∙ pick_no _ _ _ (le-ltb _ _ h) ∙ pick_no _ _ _ (ne_eqb _ _ n) ∙ rw e

        pub read_more : fault_here ≡ Ok tt → read_from area at ≡ before (operator_entries (word_at area at) area at) (read_from area (next_place at (word_at area at)))
        unfolding operator_read first_of
        read_more e = read_step at ∙ pick_no _ _ _ (le-ltb _ _ h) ∙ pick_no _ _ _ (ne_eqb _ _ n) ∙ rw e

-- ---- one pass over the operators

count-before : (n : ℕ) (cs : List Change) (r : Result (List Change) AreaFault) → count_after (n + length cs) r ≡ count_after n (before cs r)
count-before n cs (Ok ds) = ap Ok (omega (arith, length-append cs ds))
count-before n cs (Err f) = refl

-- it has come to a place, and found so many changes before it
abbrev pub Passing : List ℕ → ℕ → ℕ → Type 0
Passing area at n = count_after n (read_from area at) ≡ count_after 0 (read_area area)

module _ (area : List ℕ) (at n : ℕ) (p : Passing area at n) where
  pub pass-ends : read_from area at ≡ Ok [] → Ok n ≡ count_after 0 (read_area area)
  pass-ends e = let all : n ≡ n + 0 = omega arith in ap Ok all ∙ (rw e at p)

  pub pass-refused : (f : AreaFault) → read_from area at ≡ Err f → Err f ≡ count_after 0 (read_area area)
  pass-refused f e = rw e at p

  pub pass-more : (h : 4 ≤ length area - at) (m : word_at area at ≡ 0 → ⊥) → fault_here area at ≡ Ok tt → Passing area (next_place at (word_at area at)) (n + entry_count (word_at area at))
  pass-more h m e =
      let cs = operator_entries (word_at area at) area at in
      let long : entry_count (word_at area at) ≡ length cs = sym (length-entries (opcode_of (word_at area at)) (entry_count (word_at area at)) area (at + 4)) in
      ap (λ (k : ℕ). count_after (n + k) (read_from area (next_place at (word_at area at)))) long ∙ count-before n cs (read_from area (next_place at (word_at area at))) ∙ ap (count_after n) (sym (read_more area at h m e)) ∙ p

-- what it found
pub found-changes : (r : Result (List Change) AreaFault) (n : ℕ) → Ok n ≡ count_after 0 r → (cs : List Change) × (r ≡ Ok cs) × (n ≡ length cs)
found-changes (Ok cs) n e = let m : n ≡ 0 + length cs = cc in (cs, refl, omega arith)
found-changes (Err f) n e = absurd (cc)

pub found-fault : (r : Result (List Change) AreaFault) (f : AreaFault) → Err f ≡ count_after 0 r → r ≡ Err f
found-fault (Ok cs) f e = absurd (cc)
found-fault (Err g) f e = cc

-- ---- the words of one operator after the other, where nothing is refused

ok-before : (cs : List Change) (r : Result (List Change) AreaFault) → is_ok (before cs r) ≡ is_ok r
ok-before cs (Ok ds) = refl
ok-before cs (Err f) = refl

changes-before : (cs : List Change) (r : Result (List Change) AreaFault) → IsOk r → changes_of (before cs r) ≡ cs ++ changes_of r
changes-before cs (Ok ds) h = refl
changes-before cs (Err f) h = absurd (false≢true h)

module _ (area : List ℕ) (at : ℕ) (whole : IsOk (read_from area at)) where
  pub whole-end : word_at area at ≡ 0 → changes_of (read_from area at) ≡ []
  whole-end e = test (ltb (length area - at) 4) refl
    where
      test : (b : Bool) → ltb (length area - at) 4 ≡ b → changes_of (read_from area at) ≡ []
      test true l = rw (read_none area at (ltb-true _ _ l))
      test false l = rw (read-end area at (ltb-false _ _ l) e)

  module _ (n : word_at area at ≡ 0 → ⊥) where
    there : 4 ≤ length area - at
    there = word_in area at n

    unrefused : fault_here area at ≡ Ok tt
    unrefused = test (fault_here area at) refl
      where
        test : (r : Result Unit AreaFault) → fault_here area at ≡ r → r ≡ Ok tt
        test (Ok x) e = refl
        test (Err f) e = absurd (false≢true (rw (read-refused area at there n f e) at whole))

    module _ {w : ℕ} (e : w ≡ word_at area at) where
      abbrev next : Result (List Change) AreaFault
      next = read_from area (next_place at w)

      more : read_from area at ≡ before (operator_entries w area at) next
      more = rw e (read_more area at there n unrefused)

      pub next-whole : IsOk next
      next-whole = sym (ok-before (operator_entries w area at) next) ∙ (rw more at whole)

      all : changes_of (read_from area at) ≡ operator_entries w area at ++ changes_of next
      all = rw more (changes-before (operator_entries w area at) next next-whole)

      pub next-long : length (changes_of (read_from area at)) ≡ entry_count w + length (changes_of next)
      next-long =
          rw all
          (length-append (operator_entries w area at) (changes_of next)
          ∙ rw (length-entries (opcode_of w) (entry_count w) area (at + 4)))

      pub next-in : next_place at w ≤ length area
      next-in = rw e (omega (arith, there, operands-fit (word_at area at) (length area - (at + 4)) unrefused))

      -- an operator's changes are put, and then those of the operators after it
      pub next-put : (out out' : List ℕ) (to : ℕ) → 3 * length (changes_of (read_from area at)) ≤ length out - to → out' ≡ put out to (change_words (operator_entries w area at))
          → put out' (to + 3 * entry_count w) (change_words (changes_of next)) ≡ put out to (change_words (changes_of (read_from area at)))
      next-put out out' to room p =
          rw all (put_rest out out' to _ _ (sym (length-entries (opcode_of w) (entry_count w) area (at + 4))) (rw all at room) p)

-- ---- the answer

pub no_room : (area out : List ℕ) → length area ≡ area_bytes → (cs : List Change) → read_area area ≡ Ok cs → length out < length (change_words cs) → updates_read (Err NoRoom) out ≡ read_updates area out
unfolding read_updates answer_to pick
no_room area out l cs e h = rw (eq-eqb _ _ l, e, lt-ltb (length out) (length (change_words cs)) h)

pub all_read : (area out : List ℕ) → length area ≡ area_bytes → (cs : List Change) → read_area area ≡ Ok cs → length (change_words cs) ≤ length out
    → read_updates area out ≡ updates_read (Ok (length (change_words cs))) (sets out 0 (change_words cs))
unfolding read_updates answer_to pick
all_read area out l cs e h = rw (eq-eqb _ _ l, e, le-ltb (length out) (length (change_words cs)) h)

-- as the code leaves it
pub all_written : (area out out' : List ℕ) → length area ≡ area_bytes → (cs : List Change) → read_area area ≡ Ok cs → (n : ℕ) → n ≡ length cs → 3 * n ≤ length out → out' ≡ sets out 0 (change_words (changes_of (read_area area)))
    → updates_read (Ok (3 * n)) out' ≡ read_updates area out
all_written area out out' l cs e n m room p = rw (m, p, e, ← words_long cs) (sym (all_read area out l cs e (omega (arith, words_long cs))))
