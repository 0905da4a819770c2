-- Lists as bytes: what was written is read back, and what was read is written back.
use mathlib.Core.Path.{◌≡◌, refl, ap, sym, ◌∙◌}
use mathlib.Core.Bool.{false, not}
use mathlib.Core.List.{List, [], ◌∷◌, ◌++◌, map, flat_map}
use Prim.Native.Nat.{ℕ, zero, suc, ◌+◌, ◌-◌, ◌*◌, ◌/◌, ◌%◌, ◌<◌, ◌≤◌}
use native.Mathlib.Omega.{arith}
use native.Mathlib.Nat.{zero-add, add-zero}
use lib.ListN.{length, get_or, take}
use lib.Seq.{sets}
use borrow.Author.Tests.{eq-eqb, eqb-true, not-false}
use Rattle.words.specs.Pick.{any}
use Rattle.words.specs.Bytes.{part, word_at}
use Rattle.words.proofs.Pick.{pick_no, pick-neither}
use Rattle.buffer.specs.Put.{bytes32}
use Rattle.buffer.proofs.Put.{part_none}
use Rattle.buffer.proofs.Words.{word_bytes, part-all, part-four}
use Rattle.rebuild.proofs.Blocks.{Holds, holds-second, holds-written, part_held, word_after}
use Rattle.memory_lists.specs.declared.Block.{Block}
use Rattle.memory_lists.specs.declared.BlockSet.{BlockSet}
use Rattle.memory_lists.specs.Lists.{long_at, bytes64, block_at, reserved_at, block_bytes, set_at, set_bytes, entries, list_count, entries_in, wrong_size, list_bytes}
use Rattle.memory_lists.proofs.Lists.{word-under, long-is, size-counted, length-entries, list-long, right-size}
use Rattle.memory_lists.proofs.Blocks.{same_block}
use Rattle.memory_grouping.specs.Grouping.{not_zero}

-- ---- what was written is read back

module _ (d : List ℕ) (at : ℕ) where
  -- a number of eight bytes after others
  long_after : (u : List ℕ) (x : ℕ) (more : List ℕ) → Holds d at (u ++ (bytes64 x ++ more)) → long_at d (at + length u) ≡ x
  long_after u x more h =
      let here = holds-second d at u (bytes64 x ++ more) h in
      let high = word_after d (at + length u) [] (x / 4294967296) (bytes32 (x % 4294967296) ++ more) here in
      let low = word_after d (at + length u) (bytes32 (x / 4294967296)) (x % 4294967296) more here in
      long-is d (at + length u) (omega (arith, here.fits)) ∙ rw (rw add-zero at high, low) (omega arith)

  pub block_read : (b : Block) (more : List ℕ) → Holds d at (block_bytes b ++ more) → block_at d at ≡ b
  block_read b more h =
      let start = bytes64 b.address ++ bytes32 b.index ++ bytes32 0 in
      same_block (rw add-zero at (long_after [] b.address _ h)) (word_after d at (bytes64 b.address) b.index _ h) (word_after d at start b.associativity _ h)
      (word_after d at (start ++ bytes32 b.associativity) b.flags more h)

  pub zero-read : (b : Block) (more : List ℕ) → Holds d at (block_bytes b ++ more) → reserved_at d at ≡ 0
  zero-read b more h = word_after d at (bytes64 b.address ++ bytes32 b.index) 0 _ h

  pub set-read : (s : BlockSet) (more : List ℕ) → Holds d at (set_bytes s ++ more) → set_at d at ≡ s
  set-read s more h =
      let start = bytes32 s.count ++ bytes64 s.first.address in
      let count = rw add-zero at (word_after d at [] s.count _ h) in
      let first =
      same_block (long_after (bytes32 s.count) s.first.address _ h) (word_after d at start s.first.index _ h) (word_after d at (start ++ bytes32 s.first.index) s.first.associativity _ h)
      (word_after d at (start ++ bytes32 s.first.index ++ bytes32 s.first.associativity) s.first.flags more h) in
      rw (count, first)

-- entries one after the other, and a list of them
module _ {A : Type 0} (bytes : A → List ℕ) (long : (x : A) → length (bytes x) ≡ 24) where
  held : (xs : List A) → Holds (list_bytes bytes xs) 0 (list_bytes bytes xs)
  held xs = record { fits = omega arith; bytes = λ j l. rw zero-add }

  pub count-read : (xs : List A) → list_count (list_bytes bytes xs) ≡ length xs
  unfolding list_bytes
  count-read xs = word_after (list_bytes bytes xs) 0 [] (length xs) (flat_map bytes xs) (held xs)

  pub size-right : (xs : List A) → wrong_size (list_bytes bytes xs) ≡ false
  size-right xs =
      let n = list-long bytes long xs in
      size-counted (list_bytes bytes xs) (omega arith) ∙ ap not (eq-eqb _ _ (n ∙ ap (λ (k : ℕ). 4 + 24 * k) (sym (count-read xs))))

  module _ {B : Type 0} (read : List ℕ → ℕ → B) (given : A → B) (one : (d : List ℕ) (at : ℕ) (x : A) (more : List ℕ) → Holds d at (bytes x ++ more) → read d at ≡ given x) where
    entries-read : (d : List ℕ) (at : ℕ) (xs : List A) → Holds d at (flat_map bytes xs) → entries read (length xs) d at ≡ map given xs
    unfolding entries flat_map
    entries-read d at [] h = refl
    entries-read d at (x ∷ xs) h =
        rw (one d at x (flat_map bytes xs) h) (ap (λ l. given x ∷ l) (entries-read d (at + 24) xs (rw (long x) at (holds-second d at (bytes x) (flat_map bytes xs) h))))

    pub list_read : (xs : List A) → entries_in read (list_bytes bytes xs) ≡ map given xs
    unfolding list_bytes
    list_read xs =
        ap (λ (n : ℕ). entries read n (list_bytes bytes xs) 4) (count-read xs)
        ∙ entries-read (list_bytes bytes xs) 4 xs (holds-second (list_bytes bytes xs) 0 (bytes32 (length xs)) (flat_map bytes xs) (held xs))

  pub list_written : (xs : List A) (out : List ℕ) → length (list_bytes bytes xs) ≤ length out → take (length (list_bytes bytes xs)) (sets out 0 (list_bytes bytes xs)) ≡ list_bytes bytes xs
  unfolding part
  list_written xs out h = part_held (sets out 0 (list_bytes bytes xs)) 0 (list_bytes bytes xs) (holds-written out 0 (list_bytes bytes xs) (omega arith))

pub none-given : (bs : List Block) → any not_zero (map (λ (b : Block). 0) bs) ≡ false
unfolding any
none-given [] = refl
none-given (b ∷ bs) = pick_no _ _ _ (ap not (eq-eqb 0 0 refl)) ∙ none-given bs

-- ---- what was read is written back, where it is bytes

module _ (s : List ℕ) (b : (i : ℕ) → get_or s i 0 < 256) where
  -- the first word of a part, and the rest
  part-word : (at next n rest : ℕ) → next ≡ at + 4 → n ≡ 4 + rest → at + n ≤ length s → part s at n ≡ bytes32 (word_at s at) ++ part s next rest
  part-word at next n rest e f l =
      let less : n - 4 ≡ rest = omega arith in
      part-four s at n (omega arith) (omega arith) ∙ rw (less, e) (ap (λ (u : List ℕ). u ++ part s (at + 4) rest) (sym (word_bytes s at b (omega arith))))

  part-long : (at rest : ℕ) → at + (8 + rest) ≤ length s → part s at (8 + rest) ≡ bytes64 (long_at s at) ++ part s (at + 8) rest
  part-long at rest l =
      let x = long-is s at (omega arith) in
      let u = word-under s b (at + 4) in
      let high : long_at s at / 4294967296 ≡ word_at s at = omega arith in
      let low : long_at s at % 4294967296 ≡ word_at s (at + 4) = omega arith in
      rw (high, low)
      (part-word at (at + 4) (8 + rest) (4 + rest) refl (omega arith) l
      ∙ ap (λ (r : List ℕ). bytes32 (word_at s at) ++ r) (part-word (at + 4) (at + 8) (4 + rest) rest (omega arith) refl (omega arith)))

  block_written : (at rest : ℕ) → at + (24 + rest) ≤ length s → reserved_at s at ≡ 0 → part s at (24 + rest) ≡ block_bytes (block_at s at) ++ part s (at + 24) rest
  block_written at rest l z =
      let n : 24 + rest ≡ 8 + (16 + rest) = omega arith in
      ap (part s at) n
      ∙ part-long at (16 + rest) (omega arith)
      ∙ ap (λ (r : List ℕ). bytes64 (long_at s at) ++ r)
      (part-word (at + 8) (at + 12) (16 + rest) (12 + rest) (omega arith) (omega arith) (omega arith)
      ∙ ap (λ (r : List ℕ). bytes32 (word_at s (at + 8)) ++ r)
      (part-word (at + 12) (at + 16) (12 + rest) (8 + rest) (omega arith) (omega arith) (omega arith)
      ∙ rw z
      (ap (λ (r : List ℕ). bytes32 0 ++ r)
      (part-word (at + 16) (at + 20) (8 + rest) (4 + rest) (omega arith) (omega arith) (omega arith)
      ∙ ap (λ (r : List ℕ). bytes32 (word_at s (at + 16)) ++ r) (part-word (at + 20) (at + 24) (4 + rest) rest (omega arith) refl (omega arith))))))

  blocks-written : (n at : ℕ) → at + 24 * n ≤ length s → any not_zero (entries reserved_at n s at) ≡ false → flat_map block_bytes (entries block_at n s at) ≡ part s at (24 * n)
  unfolding entries flat_map any
  blocks-written zero at h z = sym (part_none s at 0 (omega arith))
  blocks-written (suc n) at h z =
      let p = pick-neither (not_zero (reserved_at s at)) (any not_zero (entries reserved_at n s (at + 24))) z in
      let more : 24 * suc n ≡ 24 + 24 * n = omega arith in
      ap (λ (r : List ℕ). block_bytes (block_at s at) ++ r) (blocks-written n (at + 24) (omega arith) p.1)
      ∙ sym (ap (part s at) more ∙ block_written at (24 * n) (omega arith) (eqb-true (reserved_at s at) 0 (not-false _ p.0)))

  pub list_back : wrong_size s ≡ false → any not_zero (entries_in reserved_at s) ≡ false → list_bytes block_bytes (entries_in block_at s) ≡ s
  unfolding list_bytes
  list_back w z =
      let long = right-size s w in
      rw (length-entries block_at s (list_count s) 4, blocks-written (list_count s) 4 (omega arith) z)
      (sym (sym (part-all s) ∙ part-word 0 4 (length s) (24 * list_count s) (omega arith) long (omega arith)))
