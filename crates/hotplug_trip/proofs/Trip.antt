-- The reader and the writer undo each other, in either format.
use Rattle.std.specs.Prelude.{Result, Ok, Err, IsOk, is_ok}
use Prim.Native.Nat.{ℕ, ◌+◌, ◌-◌, ◌*◌, ◌/◌, ◌%◌, ◌≤◌}
use mathlib.Core.Path.{◌≡◌, refl, ap, sym, ◌∙◌}
use mathlib.Core.Bool.{Bool, true, false, not, false≢true}
use mathlib.Core.List.{List, [], ◌∷◌, ◌++◌}
use native.Mathlib.Omega.{arith}
use lib.Dec.{eqb}
use lib.ListN.{length, get_or}
use borrow.Author.Tests.{eq-eqb, ne_eqb, eqb-true, not-false, le-ltb}
use Rattle.words.specs.Pick.{pick}
use Rattle.words.specs.Bytes.{part, word_at, zero_at}
use Rattle.words.proofs.Pick.{pick_yes, pick_no, pick-cases, Each, every-each, each-every}
use Rattle.buffer.specs.Put.{bytes32}
use Rattle.buffer.proofs.Put.{part_none}
use Rattle.buffer.proofs.Words.{bytes_word, word_bytes, two_bytes, zero-byte, part-all, part-four}
use Rattle.hotplug.specs.declared.Format.{Format}
use Rattle.hotplug.specs.declared.Format.TheVariants.{Legacy, Modern}
use Rattle.hotplug.specs.declared.HotplugEvent.{HotplugEvent}
use Rattle.hotplug.specs.declared.SectionFacts.{SectionFacts}
use Rattle.hotplug.specs.Sections.{by_index, by_count, by_range, section_bytes, hotplug_id, hotplug_version, lacks, tests}
use Rattle.words.proofs.First.{Passed}
use Rattle.hotplug.proofs.Sections.{all-passed, no-fault, each-identifier, lengths-right, same-borrowed, section-short}
use Rattle.hotplug_writer.specs.Writer.{index_or_count, first_index, further_bytes, section, unused_word, given, SectionLeft, section_left}
use Rattle.hotplug_writer.proofs.Writer.{fault-left, section-written}
use Rattle.hotplug_reader.specs.Reader.{half_at, identifier_in, count_named, index_named, event_in, unused_are_zero, found, read_section}
use Rattle.hotplug_reader.proofs.Reader.{event-read, read-ok}
use Rattle.hotplug_trip.specs.Trip.{AreBytes, EventBack, SectionBack, EverySection}

-- ---- a section as the reader finds it

length-section : (f : Format) (e : HotplugEvent) → length (section f e) ≡ section_bytes f
unfolding section
length-section Legacy e = refl
length-section Modern e = refl

word-12 : (f : Format) (e : HotplugEvent) → word_at (section f e) 12 ≡ index_or_count e
unfolding section word_at
word-12 f e = pick_no _ _ _ (le-ltb (length (section f e) - 12) 4 (omega (arith, length-section f e, (section-short f).0))) ∙ bytes_word (index_or_count e)

word-16 : (e : HotplugEvent) → word_at (section Modern e) 16 ≡ first_index e
unfolding section word_at pick
word-16 e = bytes_word (first_index e)

-- the count and the index, by each identifier
abbrev Back : Format → HotplugEvent → Type 0
Back f e = (count_named (section f e) ≡ e.count) × (index_named (section f e) ≡ e.index)

by_index_lem : (f : Format) (e : HotplugEvent) → unused_word e ≡ 0 → e.identifier ≡ by_index → Back f e
unfolding section
by_index_lem f e u t =
    let i = eq-eqb e.identifier by_index t in
    (pick_yes _ _ _ i ∙ sym u ∙ pick_yes _ _ _ i, pick_yes _ _ _ i ∙ word-12 f e ∙ pick_yes _ _ _ i)

by_count_lem : (f : Format) (e : HotplugEvent) → unused_word e ≡ 0 → e.identifier ≡ by_count → Back f e
unfolding section
by_count_lem f e u t =
    let i = ne_eqb e.identifier by_index (λ q. omega arith) in
    let r = ne_eqb e.identifier by_range (λ q. omega arith) in
    let c = eq-eqb e.identifier by_count t in
    (pick_no _ _ _ i ∙ word-12 f e ∙ pick_no _ _ _ i, pick_no _ _ _ i ∙ pick_no _ _ _ r ∙ sym u ∙ pick_no _ _ _ i ∙ pick_yes _ _ _ c)

by-range : (e : HotplugEvent) → e.identifier ≡ by_range → Back Modern e
unfolding section
by-range e t =
    let i = ne_eqb e.identifier by_index (λ q. omega arith) in
    let r = eq-eqb e.identifier by_range t in
    (pick_no _ _ _ i ∙ word-12 Modern e ∙ pick_no _ _ _ i, pick_no _ _ _ i ∙ pick_yes _ _ _ r ∙ word-16 e ∙ pick_yes _ _ _ r)

names-back : (f : Format) (e : HotplugEvent) → lacks f e.identifier ≡ false → unused_word e ≡ 0 → Back f e
names-back Legacy e k u = each-identifier (λ n. e.identifier ≡ n → Back Legacy e) Legacy e.identifier k (by_index_lem Legacy e u, (by_count_lem Legacy e u, tt)) refl
names-back Modern e k u = each-identifier (λ n. e.identifier ≡ n → Back Modern e) Modern e.identifier k (by_index_lem Modern e u, (by_count_lem Modern e u, (by-range e, tt))) refl

-- the unused bytes
last-zero : (f : Format) (e : HotplugEvent) → eqb e.identifier by_range ≡ false → zero_at 4 (section f e) 16 ≡ true
unfolding section zero_at pick
last-zero Legacy e r = refl
last-zero Modern e r = rw r

unused-cleared : (f : Format) (e : HotplugEvent) → unused_are_zero (section f e) ≡ true
unfolding section unused_are_zero zero_at pick
unused-cleared f e = each-every _ (refl, (refl, (pick-cases (λ b. b ≡ true) (eqb e.identifier by_range) true (zero_at 4 (section f e) 16) (λ r. refl) (last-zero f e), tt)))

two-halves : (n : ℕ) → n / 256 * 256 + n % 256 ≡ n
two-halves n = omega arith

-- a section of an event that is not refused is found to be what its writer was given
found-section : (f : Format) (e : HotplugEvent) → lacks f e.identifier ≡ false → unused_word e ≡ 0 → found (section f e) ≡ given f e (section_bytes f)
unfolding section event_in
found-section f e k u = let b = names-back f e k u in rw (length-section f e, two-halves (section_bytes f), b.0, b.1, unused-cleared f e, u)

-- ---- written, then read

pub event-back : EventBack
event-back f e out h =
    let t = sym (fault-left f e out) ∙ h in
    let p = all-passed f (given f e (length out)) t in
    let l = (lengths-right f (length out) (section_bytes f) p.1.0).0 in
    let q = p.1.1.1.1 in
    let u = eqb-true (unused_word e) 0 (not-false _ q.1.1.1.1.1.0) in
    let w = found-section f e q.0 u in
    rw (section-written f e out t) (event-read f (section f e) (rw w (rw l at t)) ∙ ap (λ (k : SectionFacts). Ok k.event) w)

-- ---- read, then written

unused-zero : (s : List ℕ) → unused_word (event_in s) ≡ 0
unfolding event_in
unused-zero s =
    let n = identifier_in s in
    let zero : ℕ → Type 0 = λ k. k ≡ 0 in
    pick-cases zero (eqb n by_index) _ _ (λ i. pick_yes _ _ _ i)
    (λ i. pick-cases zero (eqb n by_count) _ _ (λ c. pick_no _ _ _ i ∙ pick_no _ _ _ (ne_eqb n by_range (λ q. omega (arith, eqb-true n by_count c)))) (λ c. refl))

-- the words from byte 12 on
chosen : (i : Bool) (x y : ℕ) → pick i (pick i x y) (pick i 0 x) ≡ x
unfolding pick
chosen true x y = refl
chosen false x y = refl

first_word : (s : List ℕ) → index_or_count (event_in s) ≡ word_at s 12
unfolding event_in
first_word s = chosen (eqb (identifier_in s) by_index) (word_at s 12) _

word-there : (s : List ℕ) → AreBytes s → 16 ≤ length s → bytes32 (index_or_count (event_in s)) ≡ get_or s 12 0 ∷ get_or s 13 0 ∷ get_or s 14 0 ∷ get_or s 15 0 ∷ []
word-there s b l = ap bytes32 (first_word s) ∙ word_bytes s 12 b (omega arith)

last_word : (s : List ℕ) → AreBytes s → length s ≡ 20 → pick (eqb (identifier_in s) by_range) true (zero_at 4 s 16) ≡ true → bytes32 (first_index (event_in s)) ≡ get_or s 16 0 ∷ get_or s 17 0 ∷ get_or s 18 0 ∷ get_or s 19 0 ∷ []
unfolding event_in
last_word s b l z = test (eqb (identifier_in s) by_range) refl
  where
    test : (r : Bool) → eqb (identifier_in s) by_range ≡ r → bytes32 (first_index (event_in s)) ≡ get_or s 16 0 ∷ get_or s 17 0 ∷ get_or s 18 0 ∷ get_or s 19 0 ∷ []
    test true e =
        let i = ne_eqb (identifier_in s) by_index (λ q. omega (arith, eqb-true (identifier_in s) by_range e)) in
        let w : first_index (event_in s) ≡ word_at s 16 = pick_yes _ _ _ e ∙ pick_no _ _ _ i ∙ pick_yes _ _ _ e in
        rw w (word_bytes s 16 b (omega arith))
    test false e =
        let p = zero-byte s 3 16 (sym (pick_no _ _ _ e) ∙ z) in
        let q = zero-byte s 2 17 p.1 in
        let r = zero-byte s 1 18 q.1 in
        let t = zero-byte s 0 19 r.1 in
        let w : first_index (event_in s) ≡ 0 = pick_no _ _ _ e in
        rw (w, p.0, q.0, r.0, t.0)

further : (f : Format) (s : List ℕ) → AreBytes s → length s ≡ section_bytes f → pick (eqb (identifier_in s) by_range) true (zero_at 4 s 16) ≡ true → further_bytes f (event_in s) ≡ part s 16 (length s - 4 - 4 - 4 - 4)
further Legacy s b l z = sym (part_none s 16 (length s - 4 - 4 - 4 - 4) (omega arith))
further Modern s b l z = last_word s b l z ∙ sym (rw l (part-four s 16 4 (omega arith) (omega arith) ∙ rw (part_none s 20 0 (omega arith))))

-- bytes that the reader takes
module _ (f : Format) (s : List ℕ) (b : AreBytes s) (p : Passed (tests f (found s))) where
  length-right : length s ≡ section_bytes f
  length-right = (lengths-right f (length s) (half_at s 2) p.1.0).0

  stated-right : half_at s 2 ≡ section_bytes f
  stated-right = (lengths-right f (length s) (half_at s 2) p.1.0).1

  id_right : half_at s 0 ≡ hotplug_id
  id_right = eqb-true (half_at s 0) hotplug_id (not-false _ p.1.1.0)

  version-right : get_or s 4 0 ≡ hotplug_version
  version-right = eqb-true (get_or s 4 0) hotplug_version (not-false _ p.1.1.1.0)

  zeros : Each (zero_at 3 s 5 ∷ zero_at 1 s 11 ∷ pick (eqb (identifier_in s) by_range) true (zero_at 4 s 16) ∷ [])
  unfolding unused_are_zero
  zeros = every-each _ (not-false _ p.1.1.1.1.1.1.1.1.1.0)

  -- twelve bytes, and what follows them
  abbrev headed : List ℕ → List ℕ
  headed t = 72 ∷ 80 ∷ section_bytes f / 256 ∷ section_bytes f % 256 ∷ hotplug_version ∷ 0 ∷ 0 ∷ 0 ∷ get_or s 8 0 ∷ get_or s 9 0 ∷ get_or s 10 0 ∷ 0 ∷ t

  twelve : s ≡ headed (part s 12 (length s - 4 - 4 - 4))
  twelve =
      let l = length-right in
      let m = (section-short f).0 in
      let i = two_bytes (get_or s 0 0) (get_or s 1 0) hotplug_id (b 1) id_right in
      let n = two_bytes (get_or s 2 0) (get_or s 3 0) (section_bytes f) (b 3) stated-right in
      let z = zero-byte s 2 5 zeros.0 in
      let y = zero-byte s 1 6 z.1 in
      let x = zero-byte s 0 7 y.1 in
      let w = zero-byte s 0 11 zeros.1.0 in
      sym (part-all s)
      ∙ part-four s 0 (length s) (omega arith) (omega arith)
      ∙ rw (i.0, i.1, n.0, n.1, part-four s 4 (length s - 4) (omega arith) (omega arith), version-right, z.0, y.0, x.0, part-four s 8 (length s - 4 - 4) (omega arith) (omega arith), w.0)

  same-section : section f (event_in s) ≡ s
  unfolding section event_in
  same-section =
      let l = length-right in
      let m = (section-short f).0 in
      ap (λ (t : List ℕ). headed (t ++ further_bytes f (event_in s))) (word-there s b (omega arith))
      ∙ ap (λ (t : List ℕ). headed (get_or s 12 0 ∷ get_or s 13 0 ∷ get_or s 14 0 ∷ get_or s 15 0 ∷ t)) (further f s b l zeros.1.1.0)
      ∙ ap headed (sym (part-four s 12 (length s - 4 - 4 - 4) (omega arith) (omega arith)))
      ∙ sym twelve

  -- the writer is given an event that passes too
  still-passed : (n : ℕ) → n ≡ length s → Passed (tests f (given f (event_in s) n))
  still-passed n e =
      let t = p.1.1.1.1 in
      let lengths = sym (same-borrowed f n (section_bytes f) (section_bytes f) refl (e ∙ length-right)) ∙ ap not (eq-eqb (section_bytes f) (section_bytes f) refl) in
      let clear = ap not (eq-eqb _ _ (unused-zero s)) in
      (rw e p.0, (lengths, (refl, (refl, (t.0, (t.1.0, (t.1.1.0, (t.1.1.1.0, (t.1.1.1.1.0, (clear, tt))))))))))

pub section-back : SectionBack
section-back f s out e b h l =
    let t = read-ok f s e h in
    let p = all-passed f (found s) t.0 in
    rw (← t.1)
    (section-written f (event_in s) out (no-fault f (given f (event_in s) (length out)) (still-passed f s b p (length out) l))
    ∙ ap (section_left (Ok tt)) (same-section f s b p))

an-event : {E : Type 0} (r : Result HotplugEvent E) → IsOk r → (e : HotplugEvent) × (r ≡ Ok e)
an-event (Ok e) h = (e, refl)
an-event (Err x) h = absurd (false≢true h)

pub same-sections : EverySection
same-sections f s =
    record {
      made = λ b h. let t = an-event (read_section f s) h in (t.0, λ out l. section-back f s out t.0 b t.1 l);
      taken = λ e out h. ap is_ok (rw (ap (λ (l : SectionLeft). l.out) h) at (event-back f e out (ap (λ (l : SectionLeft). l.answer) h)));
    }
