-- Laws of lists as bytes: numbers of eight bytes, entries one after the other, and what is put.
use mathlib.Core.Path.{◌≡◌, refl, ap, sym, ◌∙◌}
use mathlib.Core.Bool.{Bool, true, false, not}
use mathlib.Core.List.{List, [], ◌∷◌, ◌++◌, append_assoc, append-nil, map, flat_map}
use Prim.Native.Nat.{ℕ, zero, suc, ◌+◌, ◌-◌, ◌*◌, ◌/◌, ◌%◌, ◌<◌, ◌≤◌}
use native.Mathlib.Omega.{arith}
use native.Mathlib.Numerals.{add-one}
use native.Mathlib.Nat.{zero-add, add-zero}
use lib.Dec.{eqb, ltb}
use lib.ListN.{length, get_or, take, drop, length-take, length-drop, length-append}
use borrow.Author.Tests.{lt-ltb, le-ltb, eqb-true, not-false}
use Rattle.std.specs.Simd.{first_chunks}
use Rattle.std.proofs.lemmas.List.{take_all, drop-drop}
use lib.Seq.{sets, sets-eq, get_or-take, get_or-drop, take-suc, length-take-le}
use borrow.Rule.Slice.PartMut.{Post-is}
use Rattle.std.specs.Prelude.{◌||◌}
use Rattle.std.specs.Prelude.{bit_or}
use Rattle.std.specs.List.{list_any}
use Rattle.std.proofs.lemmas.Nat.{or_shifted}
use Rattle.words.specs.Pick.{pick, any}
use Rattle.words.specs.Bytes.{word_here, word_at}
use Rattle.words.proofs.Pick.{pick-cases, pick_yes, pick_no, pick-neither}
use Rattle.words.proofs.Bytes.{word-is}
use Rattle.buffer.specs.Put.{bytes32, put}
use Rattle.buffer.proofs.Put.{put_in, put-append}
use Rattle.buffer.proofs.Words.{put_whole}
use Rattle.memory_lists.specs.declared.Block.{Block}
use Rattle.memory_lists.specs.declared.BlockSet.{BlockSet}
use Rattle.memory_lists.proofs.Blocks.{same_block}
use Rattle.memory_lists.specs.Lists.{long_at, block_at, reserved_at, block_bytes, set_at, set_bytes, entries, entries_in, rows, list_count, wrong_size, list_bytes}

-- ---- eight bytes, and the length

module _ (s : List ℕ) (at : ℕ) where
  pub long-none : length s - at < 8 → long_at s at ≡ 0
  unfolding long_at
  long-none h = pick_yes _ _ _ (lt-ltb _ _ h)

  pub long-is : 8 ≤ length s - at → long_at s at ≡ word_at s at * 4294967296 + word_at s (at + 4)
  unfolding long_at
  long-is h = pick_no _ _ _ (le-ltb _ _ h)

-- two words in one number
pub two-words : (high low : ℕ) → high < 4294967296 → low < 4294967296 → bit_or (high * 4294967296 % 18446744073709551616) low ≡ high * 4294967296 + low
two-words high low h l = let small : high * 4294967296 % 18446744073709551616 ≡ high * 4294967296 = omega arith in rw small (or_shifted high 32 low l)

-- a word of bytes
pub word-under : (s : List ℕ) → ((i : ℕ) → get_or s i 0 < 256) → (at : ℕ) → word_at s at < 4294967296
unfolding word_at
word-under s b at =
    pick-cases (λ (w : ℕ). w < 4294967296) (ltb (length s - at) 4) 0 (word_here s at) (λ e. omega arith) (λ e. omega (arith, b at, b (at + 1), b (at + 2), b (at + 3)))

-- numbers in a part of a list are those of the list
module _ (s : List ℕ) (at n : ℕ) (fits : at + n ≤ length s) where
  entry : List ℕ
  entry = take n (drop at s)

  entry-long : length entry ≡ n
  unfolding entry
  entry-long = simp (length-take, length-drop) (omega arith)

  entry-byte : (i : ℕ) → i < n → get_or entry i 0 ≡ get_or s (at + i) 0
  unfolding entry
  entry-byte i l = get_or-take n (drop at s) i 0 l ∙ get_or-drop at s i 0

  pub word-in-entry : (k : ℕ) → k + 4 ≤ n → word_at (take n (drop at s)) k ≡ word_at s (at + k)
  unfolding entry
  word-in-entry k h =
      let one : at + k + 1 ≡ at + (k + 1) = omega arith in
      let two : at + k + 2 ≡ at + (k + 2) = omega arith in
      let three : at + k + 3 ≡ at + (k + 3) = omega arith in
      let long = entry-long in
      word-is entry k (omega arith)
      ∙ rw (entry-byte k (omega arith), entry-byte (k + 1) (omega arith), entry-byte (k + 2) (omega arith), entry-byte (k + 3) (omega arith), ← one, ← two, ← three) (sym (word-is s (at + k) (omega arith)))

  pub long-in-entry : (k : ℕ) → k + 8 ≤ n → long_at (take n (drop at s)) k ≡ long_at s (at + k)
  unfolding entry
  long-in-entry k h =
      let four : at + k + 4 ≡ at + (k + 4) = omega arith in
      let long = entry-long in
      long-is entry k (omega arith) ∙ rw (word-in-entry k (omega arith), word-in-entry (k + 4) (omega arith), ← four) (sym (long-is s (at + k) (omega arith)))

pub size-short : (s : List ℕ) → length s < 4 → wrong_size s ≡ true
unfolding wrong_size
size-short s h = pick_yes _ _ _ (lt-ltb _ _ h)

pub size-counted : (s : List ℕ) → 4 ≤ length s → wrong_size s ≡ not (eqb (length s) (4 + 24 * list_count s))
unfolding wrong_size
size-counted s h = pick_no _ _ _ (le-ltb _ _ h)

-- ---- entries one after the other

module _ {A : Type 0} (read : List ℕ → ℕ → A) (s : List ℕ) where
  pub length-entries : (n at : ℕ) → length (entries read n s at) ≡ n
  unfolding entries
  length-entries zero at = refl
  length-entries (suc n) at = ap suc (length-entries n (at + 24))

-- ---- entries read each from its own bytes

-- a list whose length is not refused
pub right-size : (s : List ℕ) → wrong_size s ≡ false → length s ≡ 4 + 24 * list_count s
unfolding wrong_size
right-size s e = eqb-true _ _ (not-false _ (pick-neither (ltb (length s) 4) (not (eqb (length s) (4 + 24 * list_count s))) e).1)

-- what stands behind its count is so many entries
pub row_bytes : (s : List ℕ) → take (length s - 4) (drop 4 s) ≡ drop 4 s
row_bytes s = take_all _ (drop 4 s) (omega (arith, length-drop 4 s))

pub row_count : (s : List ℕ) → wrong_size s ≡ false → length (take (length s - 4) (drop 4 s)) / 24 ≡ list_count s
row_count s e = let h = right-size s e in omega (arith, ap length (row_bytes s), length-drop 4 s)

-- a read of an entry at its place in a list sees no other bytes
abbrev pub Within : {A : Type 0} → (List ℕ → ℕ → A) → Type 0
Within read = (s : List ℕ) (at : ℕ) → at + 24 ≤ length s → read (take 24 (drop at s)) 0 ≡ read s at

module _ {A : Type 0} (read : List ℕ → ℕ → A) (within : Within read) where
  pub chunks-read : (n : ℕ) (s : List ℕ) (at : ℕ) → at + 24 * n ≤ length s → map (λ e. read e 0) (first_chunks 24 n (drop at s)) ≡ entries read n s at
  unfolding entries
  chunks-read zero s at h = refl
  chunks-read (suc n) s at h = rw (within s at (omega arith), drop-drop 24 at s, chunks-read n s (at + 24) (omega arith))

  pub rows-read : (s : List ℕ) → wrong_size s ≡ false → map (λ e. read e 0) (rows s) ≡ entries_in read s
  rows-read s e = chunks-read (list_count s) s 4 (omega (arith, right-size s e))

pub within-word : (k : ℕ) → k + 4 ≤ 24 → Within (λ s at. word_at s (at + k))
within-word k h s at fits = rw zero-add (word-in-entry s at 24 fits k h)

pub within-long : (k : ℕ) → k + 8 ≤ 24 → Within (λ s at. long_at s (at + k))
within-long k h s at fits = rw zero-add (long-in-entry s at 24 fits k h)

pub block-within : Within block_at
block-within s at h = same_block (simp add-zero at (within-long 0 (omega arith) s at h)) (within-word 8 (omega arith) s at h) (within-word 16 (omega arith) s at h) (within-word 20 (omega arith) s at h)

pub reserved-within : Within reserved_at
reserved-within = within-word 12 (omega arith)

pub set-within : Within set_at
set-within s at h =
    let first = same_block (within-long 4 (omega arith) s at h) (within-word 12 (omega arith) s at h) (within-word 16 (omega arith) s at h) (within-word 20 (omega arith) s at h) in
    let count = simp add-zero at (within-word 0 (omega arith) s at h) in
    rw (count, first)

-- a test of what is read of each
pub any_listed : {A B : Type 0} (p : B → Bool) (f : A → B) (xs : List A) → any p (map f xs) ≡ list_any (λ x. p (f x)) xs
unfolding any pick
any_listed p f [] = refl
any_listed p f (x ∷ xs) = rw (any_listed p f xs) (test (p (f x)) _)
  where
    test : (b c : Bool) → pick b true c ≡ (b || c)
    test true c = refl
    test false c = refl

-- ---- entries put one after the other

pub flat_append : {A B : Type 0} (f : A → List B) (xs ys : List A) → flat_map f (xs ++ ys) ≡ flat_map f xs ++ flat_map f ys
unfolding flat_map
flat_append f [] ys = refl
flat_append f (x ∷ xs) ys = ap (λ l. f x ++ l) (flat_append f xs ys) ∙ sym (append_assoc (f x) (flat_map f xs) (flat_map f ys))

-- ---- words put one after the other into a part of 24 bytes

pub words-long : (ws : List ℕ) → length (flat_map bytes32 ws) ≡ 4 * length ws
unfolding flat_map
words-long [] = refl
words-long (w ∷ ws) = omega (arith, words-long ws)

-- the first i words, and the next one behind them
pub word_more : (d ws : List ℕ) (i w : ℕ) → i < length ws → w ≡ get_or ws i 0 → 4 * i + 4 ≤ length d
    → put (put d 0 (flat_map bytes32 (take i ws))) (4 * i) (bytes32 w) ≡ put d 0 (flat_map bytes32 (take (i + 1) ws))
unfolding flat_map
word_more d ws i w h e room =
    let front = take i ws in
    let size : 0 + length (flat_map bytes32 front) ≡ 4 * i = omega (arith, words-long front, length-take-le i ws (omega arith)) in
    rw (add-one, take-suc ws i 0 h, flat_append bytes32 front (get_or ws i 0 ∷ []), ← e, ← size)
    (put-append d 0 (flat_map bytes32 front) (bytes32 w) (omega (arith, size)))

-- a part put back is put there
module _ (out : List ℕ) (at : ℕ) (room : 24 ≤ length out - at) where
  pub part-long : length (take (at + 24 - at) (drop at out)) ≡ 24
  part-long = simp (length-take, length-drop) (omega arith)

  part-put : (bs : List ℕ) → length bs ≡ 24 → take at out ++ (bs ++ drop (at + 24 - at) (drop at out)) ≡ put out at bs
  part-put bs l =
      let end : at + 24 ≡ at + length bs = omega arith in
      rw (Post-is at (at + 24) out (omega arith), end)
      (sym (put_in out at bs (omega arith) ∙ sets-eq bs out at (omega arith) ∙ append_assoc (take at out) bs (drop (at + length bs) out)))

  pub entry-put : (d ws : List ℕ) → length ws ≡ 6 → d ≡ put (take (at + 24 - at) (drop at out)) 0 (flat_map bytes32 ws) → take at out ++ (d ++ drop (at + 24 - at) (drop at out)) ≡ put out at (flat_map bytes32 ws)
  entry-put d ws six e =
      let long : length (flat_map bytes32 ws) ≡ 24 = omega (arith, words-long ws) in
      rw (e, put_whole _ (flat_map bytes32 ws) (part-long ∙ sym long)) (part-put (flat_map bytes32 ws) long)

module _ {A : Type 0} (bytes : A → List ℕ) (long : (x : A) → length (bytes x) ≡ 24) where
  pub flat-long : (xs : List A) → length (flat_map bytes xs) ≡ 24 * length xs
  unfolding flat_map
  flat-long [] = refl
  flat-long (x ∷ xs) = omega (arith, length-append (bytes x) (flat_map bytes xs), long x, flat-long xs)

  pub list-long : (xs : List A) → length (list_bytes bytes xs) ≡ 4 + 24 * length xs
  unfolding list_bytes
  list-long xs = omega (arith, flat-long xs)

  -- the first k, and then the next one
  pub put_more : (d : List ℕ) (at : ℕ) (xs : List A) (k : ℕ) (x : A) → k < length xs → x ≡ get_or xs k x → 24 * length xs ≤ length d - at → put (put d at (flat_map bytes (take k xs))) (at + 24 * k) (bytes x) ≡ put d at (flat_map bytes (take (k + 1) xs))
  unfolding flat_map
  put_more d at xs k x h e room =
      let front = take k xs in
      let size : length (flat_map bytes front) ≡ 24 * k = flat-long front ∙ ap (λ n. 24 * n) (length-take-le k xs (omega arith)) in
      let one : flat_map bytes (x ∷ []) ≡ bytes x = append-nil (bytes x) in
      rw (add-one, take-suc xs k x h, ← e, flat_append bytes front (x ∷ []), one, ← size)
      (put-append d at (flat_map bytes front) (bytes x) (omega (arith, size, long x)))

  module _ (d d' : List ℕ) (at : ℕ) where
    -- those of a part, and then those after it
    pub put_rest : (n : ℕ) (xs ys : List A) → n ≡ length xs → d' ≡ put d at (flat_map bytes xs) → 24 * length (xs ++ ys) ≤ length d - at → put d' (at + 24 * n) (flat_map bytes ys) ≡ put d at (flat_map bytes (xs ++ ys))
    put_rest n xs ys m e room =
        rw (m, e, flat_append bytes xs ys, ← flat-long xs)
        (put-append d at (flat_map bytes xs) (flat_map bytes ys) (omega (arith, flat-long xs, flat-long ys, length-append xs ys)))

  -- the count, and then the entries, where there is room for both
  pub put-list : (d d₁ d₂ : List ℕ) (xs : List A) → d₁ ≡ put d 0 (bytes32 (length xs)) → d₂ ≡ put d₁ 4 (flat_map bytes xs) → 4 + 24 * length xs ≤ length d → d₂ ≡ sets d 0 (list_bytes bytes xs)
  unfolding list_bytes
  put-list d d₁ d₂ xs e₁ e₂ room =
      rw (e₂, e₁) (put-append d 0 (bytes32 (length xs)) (flat_map bytes xs) (omega (arith, flat-long xs)))
      ∙ put_in d 0 (bytes32 (length xs) ++ flat_map bytes xs) (omega (arith, flat-long xs, length-append (bytes32 (length xs)) (flat_map bytes xs)))

-- an entry of either form has 24 bytes
pub block-long : (b : Block) → length (block_bytes b) ≡ 24
block-long b = refl

pub set_long : (b : BlockSet) → length (set_bytes b) ≡ 24
set_long b = refl
