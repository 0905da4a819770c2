-- Old to new to old gives the same bytes, and new to old to new a list that is no longer, of the same blocks.
use mathlib.Core.Path.{◌≡◌, refl, ap, sym, ◌∙◌}
use mathlib.Core.Bool.{true, false, false≢true}
use mathlib.Core.List.{List, [], ◌∷◌, map-id}
use Rattle.std.specs.Prelude.{Result, Ok, Err, ⊤}
use Prim.Native.Nat.{ℕ, zero, suc, ◌+◌, ◌-◌, ◌*◌, ◌<◌, ◌≤◌}
use native.Mathlib.Omega.{arith}
use lib.Dec.{eqb, ltb}
use lib.ListN.{length, get_or}
use lib.Seq.{sets}
use borrow.Author.Tests.{eqb-false, ltb-false}
use Rattle.words.specs.Pick.{any}
use Rattle.words.specs.Bytes.{word_at}
use Rattle.words.proofs.Pick.{pick-cases, pick_no}
use Rattle.words.proofs.First.{Passed, first-passed}
use Rattle.memory_lists.specs.declared.Block.{Block}
use Rattle.memory_lists.specs.declared.BlockSet.{BlockSet}
use Rattle.memory_lists.specs.declared.Refusal.{Refusal}
use Rattle.memory_lists.specs.declared.Refusal.TheVariants.{ZeroSize, WrongSize, TooMany, ReservedNotZero, EmptySet, OutOfRange, NoRoom}
use Rattle.memory_lists.specs.Blocks.{grouped, expanded}
use Rattle.memory_lists.specs.Lists.{long_at, block_at, reserved_at, block_bytes, set_at, set_bytes, entries, list_count, wrong_size, list_bytes}
use Rattle.memory_lists.specs.Converted.{Converted, converted, is_done, conversion}
use Rattle.memory_lists.proofs.Lists.{word-under, right-size, length-entries, block-long, set_long}
use Rattle.memory_lists.proofs.Converted.{finished}
use Rattle.memory_grouping.specs.Grouping.{blocks_in, reserved_in, set_list, grouping_answer, to_v2}
use Rattle.memory_grouping.proofs.Answers as grouping
use Rattle.memory_expanding.specs.Expanding.{sets_in, sum_of, is_empty, leaves, block_list, expanding_answer, to_v1}
use Rattle.memory_expanding.proofs.Expanding.{stays, expanded-long}
use Rattle.memory_expanding.proofs.Answers as expanding
use Rattle.memory_trip.specs.Trip.{list_by, OldBack, SameBlocks, NewBack}
use Rattle.memory_trip.proofs.Sets.{grouped-expands, grouped-full, expanded-few}
use Rattle.memory_trip.proofs.Bytes.{block_read, zero-read, set-read, count-read, size-right, list_read, list_written, none-given, list_back}

-- ---- what is not refused

pub only-done : (a : Result ⊤ Refusal) → is_done a ≡ true → a ≡ Ok tt
only-done (Ok u) e = refl
only-done (Err r) e = absurd (false≢true e)

module _ (a : Result ⊤ Refusal) (list out : List ℕ) (written : ℕ) where
  answered : (conversion a list out written).answer ≡ a
  unfolding conversion
  answered = pick-cases (λ (c : Converted). c.answer ≡ a) (is_done a) _ _ (λ e. sym (only-done a e)) (λ e. refl)

  pub accepted : (conversion a list out written).answer ≡ Ok tt → (is_done a ≡ true) × (conversion a list out written ≡ converted (Ok tt) (sets out 0 list) (length list))
  accepted e = let d = sym answered ∙ e in (ap is_done d, sym (finished list out written _ _ d refl refl))

-- ---- blocks that were read leave no width

module _ (s : List ℕ) (b : (i : ℕ) → get_or s i 0 < 256) where
  long-under : (at : ℕ) → long_at s at < 18446744073709551616
  unfolding long_at
  long-under at =
      pick-cases (λ (x : ℕ). x < 18446744073709551616) (ltb (length s - at) 8) 0 (word_at s at * 4294967296 + word_at s (at + 4))
      (λ e. omega arith) (λ e. omega (arith, word-under s b at, word-under s b (at + 4)))

  read_stays : (n at : ℕ) → any leaves (entries block_at n s at) ≡ false
  unfolding entries any
  read_stays zero at = refl
  read_stays (suc n) at = pick_no _ _ _ (stays (block_at s at) (long-under at) (word-under s b (at + 8))) ∙ read_stays n (at + 24)

-- ---- lists that were written

pub sets-read : (ss : List BlockSet) → sets_in (list_bytes set_bytes ss) ≡ ss
sets-read ss = list_read set_bytes set_long set_at (λ (s : BlockSet). s) set-read ss ∙ map-id ss

pub blocks-read : (bs : List Block) → blocks_in (list_bytes block_bytes bs) ≡ bs
blocks-read bs = list_read block_bytes block-long block_at (λ (b : Block). b) block_read bs ∙ map-id bs

pub zeros-read : (bs : List Block) → reserved_in (list_bytes block_bytes bs) ≡ false
zeros-read bs = ap (any _) (list_read block_bytes block-long reserved_at (λ (b : Block). 0) zero-read bs) ∙ none-given bs

-- ---- old to new to old

module _ (size : ℕ) (old out : List ℕ) (written : ℕ) (b : (i : ℕ) → get_or old i 0 < 256) (e : (to_v2 size old out written).answer ≡ Ok tt) where
  abbrev blocks : List Block
  blocks = blocks_in old

  abbrev new : List ℕ
  new = set_list size old

  accepts : conversion (grouping_answer size old (length out)) new out written ≡ converted (Ok tt) (sets out 0 new) (length new)
  accepts = (accepted _ new out written e).1

  passed : Passed {A = Result ⊤ Refusal} ((eqb size 0, Err ZeroSize) ∷ (wrong_size old, Err WrongSize) ∷ (ltb 1024 (list_count old), Err TooMany) ∷ (reserved_in old, Err ReservedNotZero) ∷ (ltb (length out) (length new), Err NoRoom) ∷ [])
  unfolding grouping_answer
  passed = first-passed is_done _ (Ok tt) (refl, (refl, (refl, (refl, (refl, tt))))) (accepted _ new out written e).0

  taken : list_by (to_v2 size old out written) ≡ new
  taken = ap list_by accepts ∙ list_written set_bytes set_long (grouped size blocks) out (ltb-false _ _ passed.1.1.1.1.0)

  same-sets : sets_in new ≡ grouped size blocks
  same-sets = sets-read (grouped size blocks)

  same_blocks : expanded size (sets_in new) ≡ blocks
  same_blocks = ap (expanded size) same-sets ∙ grouped-expands size blocks

  count : sum_of (sets_in new) ≡ list_count old
  count = sym (expanded-long size (sets_in new)) ∙ ap length same_blocks ∙ length-entries block_at old (list_count old) 4

  same-list : block_list size new ≡ old
  same-list = ap (list_bytes block_bytes) same_blocks ∙ list_back old b passed.1.0 passed.1.1.1.0

  back : (out' : List ℕ) (written' : ℕ) → length old ≤ length out' → to_v1 size new out' written' ≡ converted (Ok tt) (sets out' 0 old) (length old)
  back out' written' room =
      sym (finished (block_list size new) out' written' (sets out' 0 old) (length old)
      (expanding.unrefused size new out' written' (eqb-false size 0 passed.0) (size-right set_bytes set_long (grouped size blocks)) (omega (arith, count, ltb-false 1024 (list_count old) passed.1.1.0))
      (ap (any is_empty) same-sets ∙ grouped-full size blocks) (ap (any leaves) same_blocks ∙ read_stays old b (list_count old) 4) (omega (arith, count, room, right-size old passed.1.0)))
      (ap (sets out' 0) (sym same-list)) (ap length (sym same-list)))

pub old-back : OldBack
old-back size old out written b e out' written' room = ap (λ (l : List ℕ). to_v1 size l out' written') (taken size old out written b e) ∙ back size old out written b e out' written' room

-- ---- new to old to new

module _ (size : ℕ) (new out : List ℕ) (written : ℕ) (e : (to_v1 size new out written).answer ≡ Ok tt) where
  abbrev made : List Block
  made = expanded size (sets_in new)

  abbrev old' : List ℕ
  old' = block_list size new

  expands : conversion (expanding_answer size new (length out)) old' out written ≡ converted (Ok tt) (sets out 0 old') (length old')
  expands = (accepted _ old' out written e).1

  tests : Passed {A = Result ⊤ Refusal} ((eqb size 0, Err ZeroSize) ∷ (wrong_size new, Err WrongSize) ∷ (ltb 1024 (sum_of (sets_in new)), Err TooMany) ∷ (any is_empty (sets_in new), Err EmptySet) ∷ (any leaves made, Err OutOfRange) ∷ (ltb (length out) (length old'), Err NoRoom) ∷ [])
  unfolding expanding_answer
  tests = first-passed is_done _ (Ok tt) (refl, (refl, (refl, (refl, (refl, (refl, tt)))))) (accepted _ old' out written e).0

  given : list_by (to_v1 size new out written) ≡ old'
  given = ap list_by expands ∙ list_written block_bytes block-long made out (ltb-false _ _ tests.1.1.1.1.1.0)

  same-list' : set_list size old' ≡ list_bytes set_bytes (grouped size made)
  same-list' = ap (λ (bs : List Block). list_bytes set_bytes (grouped size bs)) (blocks-read made)

  made-few : list_count old' ≤ 1024
  made-few = omega (arith, count-read block_bytes block-long made, expanded-long size (sets_in new), ltb-false 1024 (sum_of (sets_in new)) tests.1.1.0)

  comes_back : SameBlocks size new old'
  comes_back =
      record {
        answer =
            λ out' written' room. sym (finished (set_list size old') out' written' _ _
            (grouping.unrefused size old' out' written' (eqb-false size 0 tests.0) (size-right block_bytes block-long made) made-few (zeros-read made) (omega (arith, room, grouping.size-of-list size old' out' written')))
            refl refl);
        long =
            omega (
              arith,
              grouping.size-of-list size old' out written,
              ap (λ (bs : List Block). length (grouped size bs)) (blocks-read made),
              expanded-few size (sets_in new),
              length-entries set_at new (list_count new) 4,
              right-size new tests.1.0,
            );
        blocks = ap (expanded size) (ap sets_in same-list' ∙ sets-read (grouped size made)) ∙ grouped-expands size made;
      }

pub new-back : NewBack
new-back size new out written e = rw (given size new out written e) (comes_back size new out written e)
