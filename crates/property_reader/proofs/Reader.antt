-- Laws of the reader's definitions: its answers, and the list as a loop writes it.
use mathlib.Core.Path.{◌≡◌, refl, sym, ◌∙◌}
use mathlib.Core.Bool.{Bool, true, false}
use Rattle.std.specs.Prelude.{Ok, Err, Option, Some, None, IsSome, is_none, unwrap_or}
use mathlib.Core.List.{List, [], ◌∷◌, ◌++◌}
use Prim.Native.Nat.{ℕ, zero, suc, ◌+◌, ◌-◌, ◌*◌, ◌<◌, ◌≤◌}
use native.Mathlib.Omega.{arith}
use native.Mathlib.Numerals.{sub-one}
use lib.Dec.{ltb}
use lib.ListN.{length}
use lib.Seq.{sets}
use borrow.Author.Tests.{ltb-true, ltb-false}
use Rattle.words.specs.Pick.{pick}
use Rattle.words.specs.Bytes.{word_at}
use Rattle.buffer.specs.Put.{put, bytes32}
use Rattle.buffer.proofs.Put.{put-none, put_in, put-append}
use Rattle.type_texts.specs.Types.{kind_of_text}
use Rattle.property_texts.specs.declared.Typed.{Typed}
use Rattle.property_texts.specs.Texts.{TypedAt, length_at, text_at, past_text, texts, past_texts, unknown_in}
use Rattle.property_texts.proofs.Texts.{past-in, texts-out, scan-more}
use Rattle.property_reader.specs.declared.ListRefusal.{ListRefusal}
use Rattle.property_reader.specs.declared.ListRefusal.TheVariants.{CutShort, CountsDiffer, Unended, UnknownType, LeftOver, NoRoom}
use Rattle.property_reader.specs.Reader.{Arrays, numbers, either, unended, first_refusal, answer_to, triples, list_from, list_of, list_left, listing}

-- arrays that are not refused: the types are ended, and there is room
tests-passed : (b₁ b₂ b₃ b₄ b₅ b₆ : Bool) (n w : ℕ) → first_refusal ((b₁, CutShort) ∷ (b₂, CountsDiffer) ∷ (b₃, Unended) ∷ (b₄, UnknownType) ∷ (b₅, LeftOver) ∷ (b₆, NoRoom) ∷ []) (Ok n) ≡ Ok w → (b₃ ≡ false) × (b₄ ≡ false) × (b₆ ≡ false) × (w ≡ n)
unfolding first_refusal pick
tests-passed true b₂ b₃ b₄ b₅ b₆ n w e = cc
tests-passed false true b₃ b₄ b₅ b₆ n w e = cc
tests-passed false false true b₄ b₅ b₆ n w e = cc
tests-passed false false false true b₅ b₆ n w e = cc
tests-passed false false false false true b₆ n w e = cc
tests-passed false false false false false true n w e = cc
tests-passed false false false false false false n w e = (refl, refl, refl, cc)

both-ended : (x y : Bool) → either (x ∷ y ∷ []) ≡ false → (x ≡ false) × (y ≡ false)
unfolding either pick
both-ended true y e = cc
both-ended false true e = cc
both-ended false false e = (refl, refl)

module _ (n : ℕ) (a : Arrays) (room w : ℕ) (e : answer_to n a room ≡ Ok w) where
  passed : (unended n a.names a.types ≡ false) × (unknown_in n a.types 4 ≡ false) × (ltb room (12 * n) ≡ false) × (w ≡ 12 * n)
  unfolding answer_to
  passed = tests-passed _ _ _ _ _ _ _ _ e

  pub types-end : past_texts n a.types 4 ≤ length a.types
  unfolding unended
  types-end = ltb-false _ _ (both-ended _ _ passed.0).1

  pub has_room : 12 * n ≤ room
  has_room = ltb-false _ _ passed.2

  pub are_known : unknown_in n a.types 4 ≡ false
  are_known = passed.1

  pub whole-length : w ≡ 12 * n
  whole-length = passed.3

-- the list, or nothing
module _ (n : ℕ) (a : Arrays) (out : List ℕ) where
  pub refused : (x : ListRefusal) → answer_to n a (length out) ≡ Err x → list_left (Err x) out ≡ listing n a out
  unfolding listing pick
  refused x e = rw e

  pub whole : (w : ℕ) (out' : List ℕ) → answer_to n a (length out) ≡ Ok w → out' ≡ sets out 0 (list_of n a) → list_left (Ok w) out' ≡ listing n a out
  unfolding listing pick
  whole w out' e f = rw (e, f, whole-length n a (length out) w e)

-- the list from an entry on
module _ (indexes domains types : List ℕ) where
  list-none : (n number text : ℕ) → n ≤ 0 → list_from indexes domains types n number text ≡ []
  unfolding list_from numbers triples
  list-none zero number text h = refl
  list-none (suc n) number text h = absurd (omega arith)

  list-more : (n number text : ℕ) → 0 < n → text ≤ length types → list_from indexes domains types n number text ≡ bytes32 (word_at indexes number) ++ bytes32 (unwrap_or (kind_of_text (text_at types text)) 0) ++ bytes32 (word_at domains number) ++ list_from indexes domains types (n - 1) (number + 4) (text + length_at types text + 1)
  unfolding list_from numbers triples texts
  list-more zero number text h l = absurd (omega arith)
  list-more (suc n) number text h l = rw (sub-one, ← past-in types text l)

  list-long : (n number text : ℕ) → length (list_from indexes domains types n number text) ≡ 12 * n
  unfolding list_from numbers triples texts
  list-long zero number text = refl
  list-long (suc n) number text = omega (arith, list-long n (number + 4) (past_text types text))

  -- an entry is put, and then those after it
  put-list : (out out' : List ℕ) (n number text to : ℕ) → 0 < n → text ≤ length types → 12 * n ≤ length out - to → out' ≡ put out to (bytes32 (word_at indexes number) ++ bytes32 (unwrap_or (kind_of_text (text_at types text)) 0) ++ bytes32 (word_at domains number)) → put out' (to + 12) (list_from indexes domains types (n - 1) (number + 4) (text + length_at types text + 1)) ≡ put out to (list_from indexes domains types n number text)
  put-list out out' n number text to h l room e =
      let triple = bytes32 (word_at indexes number) ++ bytes32 (unwrap_or (kind_of_text (text_at types text)) 0) ++ bytes32 (word_at domains number) in
      rw (e, list-more n number text h l)
      (put-append out to triple (list_from indexes domains types (n - 1) (number + 4) (text + length_at types text + 1)) (omega (arith, list-long (n - 1) (number + 4) (text + length_at types text + 1))))

  -- the same, as the code has the parts of the entry
  pub put-entry : (out out' : List ℕ) (n number text to x k d : ℕ) (t : Typed) → 0 < n → text ≤ length types → 12 * n ≤ length out - to → TypedAt types text t → t.kind ≡ Some k → x ≡ word_at indexes number → d ≡ word_at domains number → out' ≡ put out to (bytes32 x ++ bytes32 k ++ bytes32 d) → put out' (to + 12) (list_from indexes domains types (n - 1) (number + 4) (text + t.long + 1)) ≡ put out to (list_from indexes domains types n number text)
  put-entry out out' n number text to x k d t h l room typed known f i j = rw typed.long (put-list out out' n number text to h l room (j ∙ rw (f, ← typed.kind, known, i)))

  -- no entry is to come
  pub list-end : (out out₀ : List ℕ) (n left number text to : ℕ) → left ≤ 0 → 12 * n ≤ length out₀ → put out to (list_from indexes domains types left number text) ≡ put out₀ 0 (list_from indexes domains types n 4 4) → out ≡ sets out₀ 0 (list_from indexes domains types n 4 4)
  list-end out out₀ n left number text to h room e =
      sym (put-none out to)
      ∙ (rw (list-none left number text h) at e)
      ∙ put_in out₀ 0 (list_from indexes domains types n 4 4) (omega (arith, list-long n 4 4))

-- the types to come are known where the first of them and those behind it are
neither : (b u : Bool) → pick b true u ≡ false → (b ≡ false) × (u ≡ false)
unfolding pick
neither true u e = cc
neither false u e = (refl, e)

pub known-more : (s : List ℕ) (at n : ℕ) (t : Typed) → TypedAt s at t → 0 < n → at ≤ length s → unknown_in n s at ≡ false → (is_none t.kind ≡ false) × (unknown_in (n - 1) s (at + t.long + 1) ≡ false)
unfolding pick
known-more s at n t typed h l e = neither _ _ (scan-more s at n t typed h l false ∙ e)

pub is-some : (k : Option ℕ) → is_none k ≡ false → IsSome k
is-some None e = cc
is-some (Some x) e = refl

-- three words, one after the other
pub put_three : (d d₁ d₂ d₃ : List ℕ) (at x y z : ℕ) → 12 ≤ length d - at → d₁ ≡ put d at (bytes32 x) → d₂ ≡ put d₁ (at + 4) (bytes32 y) → d₃ ≡ put d₂ (at + 8) (bytes32 z) → d₃ ≡ put d at (bytes32 x ++ bytes32 y ++ bytes32 z)
put_three d d₁ d₂ d₃ at x y z h e f g =
    let two : d₂ ≡ put d at (bytes32 x ++ bytes32 y) = f ∙ rw e (put-append d at (bytes32 x) (bytes32 y) (omega arith)) in
    g ∙ rw two (put-append d at (bytes32 x ++ bytes32 y) (bytes32 z) (omega arith))

-- strings that end within the block start in it
pub starts-in : (s : List ℕ) (at n : ℕ) → past_texts n s at ≤ length s → at ≤ length s
starts-in s at n h = test (ltb (length s) at) refl
  where
    test : (b : Bool) → ltb (length s) at ≡ b → at ≤ length s
    test true e = let l = ltb-true (length s) at e in absurd (omega (arith, texts-out s at n l))
    test false e = ltb-false (length s) at e
