-- Laws of `length_at`, `texts` and `past_texts`, as loops that count down use them.
use Rattle.std.specs.Prelude.{Option, Some, None, is_some, is_none}
use mathlib.Core.Path.{◌≡◌, refl, ap, sym, ◌∙◌}
use mathlib.Core.Bool.{Bool, true, false, not, ◌||◌}
use mathlib.Core.List.{List, [], ◌∷◌}
use Prim.Native.Nat.{ℕ, zero, suc, ◌+◌, ◌-◌, ◌*◌, ◌<◌, ◌≤◌}
use native.Mathlib.Omega.{arith}
use native.Mathlib.Numerals.{sub-one}
use lib.Dec.{eqb}
use lib.ListN.{length, get_or}
use borrow.Author.Tests.{le-leb, lt-leb, lt-ltb, le-ltb, eq-eqb, eqb-false}
use mir.Syntax.{w8}
use mir.Val.{Fits}
use Rattle.words.specs.Pick.{pick, any}
use Rattle.words.specs.Bytes.{part, word_at}
use Rattle.words.proofs.Pick.{pick_yes, pick_no, pick_same, pick-unless}
use Rattle.words.proofs.Bytes.{name-none, word_in}
use Rattle.buffer.proofs.Put.{part_none}
use Rattle.name_places.specs.Names.{stands_at}
use Rattle.name_places.proofs.Stored.{Clean, stands-within, stands-part, name-reads}
use Rattle.same_trees.specs.Same.{alike, same_bytes}
use Rattle.type_texts.specs.Types.{kind_in, kind_of_text}
use Rattle.type_texts.proofs.Types.{two-on, three-on}
use Rattle.property_texts.specs.declared.Typed.{Typed}
use Rattle.property_texts.specs.Texts.{length_at, text_at, past_text, texts, past_texts, unknown_in, TypedAt}

module _ (s : List ℕ) (at : ℕ) where
  -- within the block, and past its end
  pub past-in : at ≤ length s → past_text s at ≡ at + length_at s at + 1
  unfolding past_text
  past-in h = pick_yes _ _ _ (le-leb at (length s) h)

  past-out : length s < at → past_text s at ≡ at
  unfolding past_text
  past-out h = pick_no _ _ _ (lt-leb at (length s) h)

  pub texts-none : (n : ℕ) → n ≤ 0 → past_texts n s at ≡ at
  unfolding past_texts
  texts-none zero h = refl
  texts-none (suc n) h = absurd (omega arith)

  pub texts-more : (n : ℕ) → 0 < n → at ≤ length s → past_texts n s at ≡ past_texts (n - 1) s (at + length_at s at + 1)
  unfolding past_texts
  texts-more zero h l = absurd (omega arith)
  texts-more (suc n) h l = rw (past-in l, sub-one)

  pub texts-out : (n : ℕ) → length s < at → past_texts n s at ≡ at
  unfolding past_texts
  texts-out zero h = refl
  texts-out (suc n) h = rw (past-out h) (texts-out n h)

  -- no type is empty
  out-empty : length s < at → kind_of_text (text_at s at) ≡ None
  unfolding length_at kind_in same_bytes alike pick
  out-empty h = let z : length s - at ≡ 0 = omega arith in rw (z, name-none 0 s at (omega arith), part_none s at 0 (omega arith))

  unknown-none : (n : ℕ) → n ≤ 0 → unknown_in n s at ≡ false
  unfolding texts any
  unknown-none zero h = refl
  unknown-none (suc n) h = absurd (omega arith)

  unknown-here : (n : ℕ) → 0 < n → is_none (kind_of_text (text_at s at)) ≡ true → unknown_in n s at ≡ true
  unfolding texts any
  unknown-here zero h e = absurd (omega arith)
  unknown-here (suc n) h e = pick_yes _ _ _ e

  unknown-out : (n : ℕ) → 0 < n → length s < at → unknown_in n s at ≡ true
  unknown-out n h l = unknown-here n h (ap is_none (out-empty l))

  unknown-more : (n : ℕ) → 0 < n → at ≤ length s → is_none (kind_of_text (text_at s at)) ≡ false → unknown_in n s at ≡ unknown_in (n - 1) s (at + length_at s at + 1)
  unfolding texts any
  unknown-more zero h l e = absurd (omega arith)
  unknown-more (suc n) h l e = rw (sub-one, ← past-in l) (pick_no _ _ _ e)

-- the bytes of a text that is written out
unfoldable pub no_nul : List ℕ → Bool
no_nul [] = true
no_nul (b ∷ bs) = pick (eqb b 0) false (no_nul bs)

pub clean-by : (bs : List ℕ) → no_nul bs ≡ true → Clean bs
unfolding no_nul
clean-by [] e = tt
clean-by (b ∷ bs) e = let a = pick-unless (eqb b 0) (no_nul bs) e in (eqb-false b 0 a.0, clean-by bs a.1)

-- a text that stands at a place with its NUL is read there
module _ (s : List ℕ) (at : ℕ) (text : List ℕ) (clean : Clean text) (stands : stands_at text s at ≡ true) where
  text-fits : length text ≤ length s - at
  text-fits = omega (arith, stands-within text s at stands)

  long-there : length_at s at ≡ length text
  unfolding length_at
  long-there = name-reads (length s - at) text s at clean text-fits stands

  pub typed-there : (t : Typed) → t.kind ≡ kind_of_text text → t.long ≡ length text → TypedAt s at t
  typed-there t e f =
      record {
        kind = e ∙ ap kind_of_text (sym (stands-part text s at stands) ∙ ap (part s at) (sym long-there));
        long = f ∙ sym long-there;
        within = omega (arith, text-fits);
      }

-- four bytes by the word that they are
same_word : (a b c d x y z w : ℕ) → a < 256 → b < 256 → c < 256 → d < 256 → x < 256 → y < 256 → z < 256 → w < 256 → a * 16777216 + b * 65536 + c * 256 + d ≡ x * 16777216 + y * 65536 + z * 256 + w → (a ≡ x) × (b ≡ y) × (c ≡ z) × (d ≡ w)
same_word a b c d x y z w la lb lc ld lx ly lz lw e = (omega arith, omega arith, omega arith, omega arith)

module _ (s : List ℕ) (at : ℕ) (bytes_fit : (i : ℕ) → Fits w8 (get_or s i 0)) (x y z w : ℕ) (lx : x < 256) (ly : y < 256) (lz : z < 256) (lw : w < 256) (first : 1 ≤ x) (e : word_at s at ≡ x * 16777216 + y * 65536 + z * 256 + w) where
  byte : (i : ℕ) → get_or s i 0 < 256
  byte i = let f = bytes_fit i in omega arith

  four-in : 4 ≤ length s - at
  four-in = word_in s at (λ n. omega arith)

  four_bytes : (get_or s at 0 ≡ x) × (get_or s (at + 1) 0 ≡ y) × (get_or s (at + 2) 0 ≡ z) × (get_or s (at + 3) 0 ≡ w)
  unfolding word_at
  four_bytes =
      same_word (get_or s at 0) (get_or s (at + 1) 0) (get_or s (at + 2) 0) (get_or s (at + 3) 0) x y z w (byte at) (byte (at + 1)) (byte (at + 2)) (byte (at + 3)) lx ly lz lw
      (sym (pick_no _ _ _ (le-ltb (length s - at) 4 four-in)) ∙ e)

  four-on : at + 3 + 1 ≡ at + 4
  four-on = omega arith

  -- three letters and their NUL, and four
  pub three-there : w ≡ 0 → stands_at (x ∷ y ∷ z ∷ []) s at ≡ true
  unfolding stands_at pick
  three-there n =
      let b = four_bytes in
      rw (eq-eqb _ _ b.0, eq-eqb _ _ b.1, two-on s at, eq-eqb _ _ b.2, three-on s at, lt-ltb (at + 3) (length s) (omega (arith, four-in)), eq-eqb (get_or s (at + 3) 0) 0 (b.3 ∙ n))

  pub four-there : 5 ≤ length s - at → get_or s (at + 4) 0 ≡ 0 → stands_at (x ∷ y ∷ z ∷ w ∷ []) s at ≡ true
  unfolding stands_at pick
  four-there h n =
      let b = four_bytes in
      rw (eq-eqb _ _ b.0, eq-eqb _ _ b.1, two-on s at, eq-eqb _ _ b.2, three-on s at, eq-eqb _ _ b.3, four-on, lt-ltb (at + 4) (length s) (omega arith), eq-eqb (get_or s (at + 4) 0) 0 n)

-- what `is_none` answers
pub none-told : (k : Option ℕ) (r : Bool) → is_some k ≡ not r → r ≡ is_none k
none-told None true e = refl
none-told None false e = cc
none-told (Some x) true e = cc
none-told (Some x) false e = refl

-- a scan of types: whether one was unknown so far, or one to come is
module _ (s : List ℕ) (at n : ℕ) where
  pub scan-none : (before : Bool) → n ≤ 0 → pick before true (unknown_in n s at) ≡ before
  scan-none before h = rw (unknown-none s at n h) (pick_same before)

  pub scan-out : (before : Bool) → 0 < n → length s < at → pick before true (unknown_in n s at) ≡ true
  unfolding pick
  scan-out true h l = refl
  scan-out false h l = unknown-out s at n h l

  module _ (t : Typed) (typed : TypedAt s at t) (h : 0 < n) (l : at ≤ length s) where
    pub scan-past : past_texts (n - 1) s (at + t.long + 1) ≡ past_texts n s at
    scan-past = rw typed.long (sym (texts-more s at n h l))

    scan-first : (b : Bool) → is_none t.kind ≡ b → pick b true (unknown_in (n - 1) s (at + t.long + 1)) ≡ unknown_in n s at
    unfolding pick
    scan-first true e = sym (unknown-here s at n h (ap is_none (sym typed.kind) ∙ e))
    scan-first false e = rw typed.long (sym (unknown-more s at n h l (ap is_none (sym typed.kind) ∙ e)))

    pub scan-more : (before : Bool) → pick (before || is_none t.kind) true (unknown_in (n - 1) s (at + t.long + 1)) ≡ pick before true (unknown_in n s at)
    unfolding pick
    scan-more true = refl
    scan-more false = scan-first (is_none t.kind) refl
