-- What a conversion from old to new leaves, refusal by refusal.
use mathlib.Core.Path.{◌≡◌, ap, sym, ◌∙◌}
use mathlib.Core.Bool.{true, false}
use mathlib.Core.List.{List, [], ◌∷◌, map, flat_map}
use Prim.Native.Nat.{ℕ, ◌+◌, ◌*◌, ◌<◌, ◌≤◌}
use native.Mathlib.Omega.{arith}
use Rattle.std.specs.Prelude.{Result, Ok, Err}
use Rattle.words.specs.Pick.{any}
use lib.ListN.{length}
use borrow.Author.Tests.{lt-ltb, le-ltb, ne_eqb}
use Rattle.words.proofs.First.{passed_first}
use Rattle.buffer.specs.Put.{bytes32, put}
use Rattle.memory_lists.specs.declared.Refusal.{Refusal}
use Rattle.memory_lists.specs.declared.Refusal.TheVariants.{TooMany, ReservedNotZero, NoRoom}
use Rattle.memory_lists.specs.Blocks.{grouped}
use Rattle.memory_lists.specs.Lists.{block_at, reserved_at, set_bytes, rows, list_count, wrong_size}
use Rattle.memory_lists.specs.Converted.{converted, counted, begun}
use Rattle.memory_lists.proofs.Lists.{list-long, set_long, put-list, rows-read, block-within, reserved-within}
use Rattle.memory_lists.proofs.Converted.{first_taken, refused, finished, first_refused, Counted, first_passed, none-begun, list-begun}
use Rattle.memory_grouping.specs.Grouping.{blocks_in, blocks_of, not_zero, reserved_in, set_list, grouping_answer, to_v2}

module _ (size : ℕ) (s out : List ℕ) (written : ℕ) where
  abbrev set_count : ℕ
  set_count = length (grouped size (blocks_in s))

  pub size-of-list : length (set_list size s) ≡ 4 + 24 * set_count
  size-of-list = list-long set_bytes set_long (grouped size (blocks_in s))

  -- the refusals that both conversions begin with
  pub unread : (e : Refusal) → counted size s ≡ Err e → converted (Err e) out written ≡ to_v2 size s out written
  unfolding grouping_answer
  unread e h = refused _ out written e (first_refused size s e _ _ h)

  module _ (n : size ≡ 0 → ⊥) (w : wrong_size s ≡ false) where
    too_many : 1024 < list_count s → converted (Err TooMany) out written ≡ to_v2 size s out written
    unfolding grouping_answer
    too_many h = refused _ out written TooMany (first_taken (_ ∷ _ ∷ []) _ (Ok tt) (ne_eqb _ _ n, (w, tt)) (lt-ltb _ _ h))

    module _ (m : list_count s ≤ 1024) where
      reserved : reserved_in s ≡ true → converted (Err ReservedNotZero) out written ≡ to_v2 size s out written
      unfolding grouping_answer
      reserved e = refused _ out written ReservedNotZero (first_taken (_ ∷ _ ∷ _ ∷ []) _ (Ok tt) (ne_eqb _ _ n, (w, (le-ltb _ _ m, tt))) e)

      module _ (r : reserved_in s ≡ false) where
        no_room : length out < 4 + 24 * set_count → converted (Err NoRoom) out written ≡ to_v2 size s out written
        unfolding grouping_answer
        no_room h = refused _ out written NoRoom (first_taken (_ ∷ _ ∷ _ ∷ _ ∷ []) _ (Ok tt) (ne_eqb _ _ n, (w, (le-ltb _ _ m, (r, tt)))) (lt-ltb (length out) (length (set_list size s)) (omega (arith, size-of-list))))

        pub unrefused : 4 + 24 * set_count ≤ length out → grouping_answer size s (length out) ≡ Ok tt
        unfolding grouping_answer
        unrefused h = passed_first _ (Ok tt) (ne_eqb _ _ n, (w, (le-ltb _ _ m, (r, (le-ltb (length out) (length (set_list size s)) (omega (arith, size-of-list)), tt)))))

        all-grouped : (d₁ d₂ : List ℕ) → d₁ ≡ put out 0 (bytes32 set_count) → d₂ ≡ put d₁ 4 (flat_map set_bytes (grouped size (blocks_in s))) → 4 + 24 * set_count ≤ length out → converted (Ok tt) d₂ (4 + 24 * set_count) ≡ to_v2 size s out written
        all-grouped d₁ d₂ e₁ e₂ h = finished _ out written d₂ _ (unrefused h) (put-list set_bytes set_long out d₁ d₂ (grouped size (blocks_in s)) e₁ e₂ h) (sym size-of-list)

-- the same in terms of the entries that were read
module _ (size : ℕ) (s : List ℕ) {es : List (List ℕ)} (k : counted size s ≡ Ok (length es)) (e : es ≡ rows s) where
  known : Counted size s (length es)
  known = first_passed size s (length es) k

  blocks-read : blocks_of es ≡ blocks_in s
  blocks-read = rw e (rows-read block_at block-within s known.right)

  reserved-read : any not_zero (map (λ x. reserved_at x 0) es) ≡ reserved_in s
  reserved-read = rw e (ap (any not_zero) (rows-read reserved_at reserved-within s known.right))

  module _ (out : List ℕ) (written : ℕ) where
    pub many_read : 1024 < length es → converted (Err TooMany) out written ≡ to_v2 size s out written
    many_read h = too_many size s out written known.some known.right (omega (arith, known.count))

    module _ (m : length es ≤ 1024) where
      few : list_count s ≤ 1024
      few = omega (arith, known.count)

      pub reserved_read : any not_zero (map (λ x. reserved_at x 0) es) ≡ true → converted (Err ReservedNotZero) out written ≡ to_v2 size s out written
      reserved_read h = reserved size s out written known.some known.right few (sym reserved-read ∙ h)

      module _ (r : any not_zero (map (λ x. reserved_at x 0) es) ≡ false) {n : ℕ} (c : n ≡ length (grouped size (blocks_of es))) (out' : List ℕ) {b : Result ℕ Refusal} (p : ◌≡◌ {A = Result ℕ Refusal × List ℕ} (b, out') (begun n out)) where
        count : n ≡ set_count size s out written
        count = c ∙ ap (λ bs. length (grouped size bs)) blocks-read

        pub room_read : (f : Refusal) → b ≡ Err f → converted (Err f) out' written ≡ to_v2 size s out written
        room_read f g =
            let none = none-begun n out out' b f p g in
            rw (none.refusal, none.same) (no_room size s out written known.some known.right few (sym reserved-read ∙ r) (rw (← count) none.room))

        pub all_read : (l : ℕ) → b ≡ Ok l → (out'' : List ℕ) → out'' ≡ put out' 4 (flat_map set_bytes (grouped size (blocks_of es))) → converted (Ok tt) out'' l ≡ to_v2 size s out written
        all_read l g out'' q =
            let some = list-begun n out out' b l p g in
            rw (some.bytes, count)
            (all-grouped size s out written known.some known.right few (sym reserved-read ∙ r) out' out'' (rw (← count) some.list) (rw blocks-read at q) (rw (← count) some.room))
