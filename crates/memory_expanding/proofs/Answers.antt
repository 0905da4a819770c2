-- What a conversion from new to old leaves, refusal by refusal.
use mathlib.Core.Path.{◌≡◌, ap, sym, ◌∙◌}
use mathlib.Core.Bool.{true, false}
use mathlib.Core.List.{List, [], ◌∷◌, flat_map}
use Prim.Native.Nat.{ℕ, ◌+◌, ◌*◌, ◌<◌, ◌≤◌}
use native.Mathlib.Omega.{arith}
use Rattle.std.specs.Prelude.{Result, Ok, Err}
use lib.ListN.{length}
use borrow.Author.Tests.{lt-ltb, le-ltb, ne_eqb}
use Rattle.words.specs.Pick.{any}
use Rattle.words.proofs.First.{passed_first}
use Rattle.buffer.specs.Put.{bytes32, put}
use Rattle.memory_lists.specs.declared.Refusal.{Refusal}
use Rattle.memory_lists.specs.declared.Refusal.TheVariants.{TooMany, EmptySet, OutOfRange, NoRoom}
use Rattle.memory_lists.specs.Blocks.{expanded}
use Rattle.memory_lists.specs.Lists.{block_bytes, set_at, rows, wrong_size}
use Rattle.memory_lists.specs.Converted.{converted, counted, begun}
use Rattle.memory_lists.proofs.Lists.{list-long, block-long, put-list, rows-read, set-within}
use Rattle.memory_lists.proofs.Converted.{first_taken, refused, finished, first_refused, Counted, first_passed, none-begun, list-begun}
use Rattle.memory_expanding.specs.Expanding.{sets_in, sets_of, sum_of, is_empty, leaves, block_list, expanding_answer, to_v1}
use Rattle.memory_expanding.proofs.Expanding.{expanded-long}

module _ (size : ℕ) (s out : List ℕ) (written : ℕ) where
  pub size-of-list : length (block_list size s) ≡ 4 + 24 * sum_of (sets_in s)
  size-of-list = omega (arith, list-long block_bytes block-long (expanded size (sets_in s)), expanded-long size (sets_in s))

  -- the refusals that both conversions begin with
  pub unread : (e : Refusal) → counted size s ≡ Err e → converted (Err e) out written ≡ to_v1 size s out written
  unfolding expanding_answer
  unread e h = refused _ out written e (first_refused size s e _ _ h)

  module _ (n : size ≡ 0 → ⊥) (w : wrong_size s ≡ false) where
    too_many : 1024 < sum_of (sets_in s) → converted (Err TooMany) out written ≡ to_v1 size s out written
    unfolding expanding_answer
    too_many h = refused _ out written TooMany (first_taken (_ ∷ _ ∷ []) _ (Ok tt) (ne_eqb _ _ n, (w, tt)) (lt-ltb _ _ h))

    module _ (m : sum_of (sets_in s) ≤ 1024) where
      empty-set : any is_empty (sets_in s) ≡ true → converted (Err EmptySet) out written ≡ to_v1 size s out written
      unfolding expanding_answer
      empty-set e = refused _ out written EmptySet (first_taken (_ ∷ _ ∷ _ ∷ []) _ (Ok tt) (ne_eqb _ _ n, (w, (le-ltb _ _ m, tt))) e)

      module _ (f : any is_empty (sets_in s) ≡ false) where
        out_of_range : any leaves (expanded size (sets_in s)) ≡ true → converted (Err OutOfRange) out written ≡ to_v1 size s out written
        unfolding expanding_answer
        out_of_range e = refused _ out written OutOfRange (first_taken (_ ∷ _ ∷ _ ∷ _ ∷ []) _ (Ok tt) (ne_eqb _ _ n, (w, (le-ltb _ _ m, (f, tt)))) e)

        module _ (r : any leaves (expanded size (sets_in s)) ≡ false) where
          no_room : length out < 4 + 24 * sum_of (sets_in s) → converted (Err NoRoom) out written ≡ to_v1 size s out written
          unfolding expanding_answer
          no_room h = refused _ out written NoRoom (first_taken (_ ∷ _ ∷ _ ∷ _ ∷ _ ∷ []) _ (Ok tt) (ne_eqb _ _ n, (w, (le-ltb _ _ m, (f, (r, tt))))) (lt-ltb (length out) (length (block_list size s)) (omega (arith, size-of-list))))

          pub unrefused : 4 + 24 * sum_of (sets_in s) ≤ length out → expanding_answer size s (length out) ≡ Ok tt
          unfolding expanding_answer
          unrefused h = passed_first _ (Ok tt) (ne_eqb _ _ n, (w, (le-ltb _ _ m, (f, (r, (le-ltb (length out) (length (block_list size s)) (omega (arith, size-of-list)), tt))))))

          all-expanded : (d₁ d₂ : List ℕ) → d₁ ≡ put out 0 (bytes32 (sum_of (sets_in s))) → d₂ ≡ put d₁ 4 (flat_map block_bytes (expanded size (sets_in s))) → 4 + 24 * sum_of (sets_in s) ≤ length out → converted (Ok tt) d₂ (4 + 24 * sum_of (sets_in s)) ≡ to_v1 size s out written
          all-expanded d₁ d₂ e₁ e₂ h =
              finished _ out written d₂ _ (unrefused h)
              (put-list block_bytes block-long out d₁ d₂ (expanded size (sets_in s)) (rw (expanded-long size (sets_in s)) e₁) e₂ (omega (arith, h, expanded-long size (sets_in s))))
              (sym size-of-list)

-- the same in terms of the entries that were read
module _ (size : ℕ) (s : List ℕ) {es : List (List ℕ)} (k : counted size s ≡ Ok (length es)) (e : es ≡ rows s) where
  known : Counted size s (length es)
  known = first_passed size s (length es) k

  sets-read : sets_of es ≡ sets_in s
  sets-read = rw e (rows-read set_at set-within s known.right)

  module _ (out : List ℕ) (written : ℕ) {n : ℕ} (c : n ≡ sum_of (sets_of es)) where
    count : n ≡ sum_of (sets_in s)
    count = c ∙ ap sum_of sets-read

    pub many_read : 1024 < n → converted (Err TooMany) out written ≡ to_v1 size s out written
    many_read h = too_many size s out written known.some known.right (rw (← count) h)

    module _ (m : n ≤ 1024) where
      few : sum_of (sets_in s) ≤ 1024
      few = rw (← count) m

      pub empty_read : any is_empty (sets_of es) ≡ true → converted (Err EmptySet) out written ≡ to_v1 size s out written
      empty_read h = empty-set size s out written known.some known.right few (rw sets-read at h)

      module _ (f : any is_empty (sets_of es) ≡ false) where
        full : any is_empty (sets_in s) ≡ false
        full = rw sets-read at f

        pub range_read : any leaves (expanded size (sets_of es)) ≡ true → converted (Err OutOfRange) out written ≡ to_v1 size s out written
        range_read h = out_of_range size s out written known.some known.right few full (rw sets-read at h)

        module _ (r : any leaves (expanded size (sets_of es)) ≡ false) (out' : List ℕ) {b : Result ℕ Refusal} (p : ◌≡◌ {A = Result ℕ Refusal × List ℕ} (b, out') (begun n out)) where
          stay : any leaves (expanded size (sets_in s)) ≡ false
          stay = rw sets-read at r

          pub room_read : (g : Refusal) → b ≡ Err g → converted (Err g) out' written ≡ to_v1 size s out written
          room_read g h =
              let none = none-begun n out out' b g p h in
              rw (none.refusal, none.same) (no_room size s out written known.some known.right few full stay (rw (← count) none.room))

          pub all_read : (l : ℕ) → b ≡ Ok l → (out'' : List ℕ) → out'' ≡ put out' 4 (flat_map block_bytes (expanded size (sets_of es))) → converted (Ok tt) out'' l ≡ to_v1 size s out written
          all_read l h out'' q =
              let some = list-begun n out out' b l p h in
              rw (some.bytes, count)
              (all-expanded size s out written known.some known.right few full stay out' out'' (rw (← count) some.list) (rw sets-read at q) (rw (← count) some.room))
