-- Bytes that stand in a block: words, names and parts read back, and how many bytes the tokens have.
use mathlib.Core.Path.{◌≡◌, refl, ◌∙◌}
use mathlib.Core.Bool.{true}
use mathlib.Core.List.{List, [], ◌∷◌, ◌++◌, append_assoc}
use Prim.Native.Nat.{ℕ, zero, suc, ◌+◌, ◌-◌, ◌<◌, ◌≤◌}
use native.Mathlib.Omega.{arith}
use native.Mathlib.Nat.{add-zero}
use lib.ListN.{length, get_or, set, take, drop, replicate, length-append, get_or-append}
use lib.Seq.{sets, sets-eq, length-sets, length-take-le, get_or-set_other, get_or-append-add, get_or-take, get_or-drop, ext_get_or, append_snoc}
use borrow.Author.Tests.{le-ltb}
use Rattle.words.specs.Pick.{pick}
use Rattle.words.specs.Bytes.{part, word_at, name_length}
use Rattle.buffer.specs.Put.{bytes32}
use Rattle.buffer.proofs.Put.{length_part}
use Rattle.devtree.specs.Tokens.{up4}
use Rattle.devtree.specs.Tree.{tree, flatten}
use Rattle.devtree.specs.Check.{passes}
use Rattle.devtree.proofs.Tree.{tree-flat}
use Rattle.emits.specs.Good.{GoodName, AllGood}
use Rattle.emits.proofs.Good.{good-events}
use Rattle.reader.specs.Bytes.{filled, begin_bytes, prop_bytes}
use Rattle.name_places.specs.Names.{stands_at}
use Rattle.reader.proofs.Written.{length-filled}
use Rattle.name_places.proofs.Stored.{Clean, stands-there, name-reads}
use Rattle.rebuild.specs.Names.{with_nul}

-- ---- bytes in a block

-- the bytes bs stand in d from `at` on
pub record Holds (d : List ℕ) (at : ℕ) (bs : List ℕ) : Type 0 where
  pub fits : at + length bs ≤ length d
  pub bytes : (j : ℕ) → j < length bs → get_or d (at + j) 0 ≡ get_or bs j 0

-- between other bytes
pub holds-between : (pre bs more : List ℕ) → Holds (pre ++ (bs ++ more)) (length pre) bs
holds-between pre bs more =
    record {
      fits = omega (arith, length-append pre (bs ++ more), length-append bs more);
      bytes = λ j l. get_or-append-add pre (bs ++ more) j 0 ∙ get_or-append bs more 0 j l;
    }

-- what was written stands there
pub holds-written : (d : List ℕ) (at : ℕ) (bs : List ℕ) → at + length bs ≤ length d → Holds (sets d at bs) at bs
holds-written d at bs h =
    let after : List ℕ = drop (at + length bs) d in
    rw (sets-eq bs d at h, append_assoc (take at d) bs after)
    (rw (length-take-le at d (omega arith)) at (holds-between (take at d) bs after))

-- a run of stores leaves the bytes before it
sets-before : (d : List ℕ) (to : ℕ) (bs : List ℕ) (i : ℕ) → i < to → get_or (sets d to bs) i 0 ≡ get_or d i 0
sets-before d to [] i h = refl
sets-before d to (b ∷ bs) i h = sets-before (set d to b) (suc to) bs i (omega arith) ∙ get_or-set_other d to i b 0 (λ e. omega arith)

module _ (d : List ℕ) (at : ℕ) where
  pub holds_kept : (u : List ℕ) (to : ℕ) (bs : List ℕ) → at + length u ≤ to → Holds d at u → Holds (sets d to bs) at u
  holds_kept u to bs h k =
      record {
        fits = rw (length-sets d to bs) k.fits;
        bytes = λ j l. sets-before d to bs (at + j) (omega arith) ∙ k.bytes j l;
      }

  -- of two runs, each stands there
  module _ (u v : List ℕ) (h : Holds d at (u ++ v)) where
    pub holds-first : Holds d at u
    holds-first =
        record {
          fits = omega (arith, h.fits, length-append u v);
          bytes = λ j l. h.bytes j (omega (arith, length-append u v)) ∙ get_or-append u v 0 j l;
        }

    pub holds-second : Holds d (at + length u) v
    holds-second =
        record {
          fits = omega (arith, h.fits, length-append u v);
          bytes =
              λ j l. let up : at + length u + j ≡ at + (length u + j) = omega arith in
              rw up (h.bytes (length u + j) (omega (arith, length-append u v)) ∙ get_or-append-add u v j 0);
        }

  -- ---- what is read there

  pub part_held : (u : List ℕ) → Holds d at u → part d at (length u) ≡ u
  unfolding part
  part_held u h =
      let long : length (part d at (length u)) ≡ length u = length_part d at (length u) (omega (arith, h.fits)) in
      ext_get_or 0 (part d at (length u)) u long
      (λ j l. get_or-take (length u) (drop at d) j 0 (omega arith) ∙ get_or-drop at d j 0 ∙ h.bytes j (omega arith))

  pub word_held : (x : ℕ) → Holds d at (bytes32 x) → word_at d at ≡ x
  unfolding word_at pick
  word_held x h =
      let a : get_or d at 0 ≡ get_or (bytes32 x) 0 0 = rw add-zero at (h.bytes 0 (omega arith)) in
      rw (le-ltb (length d - at) 4 (omega (arith, h.fits)), a, h.bytes 1 (omega arith), h.bytes 2 (omega arith), h.bytes 3 (omega arith)) (omega arith)

  pub name-held : (name : List ℕ) → Holds d at (with_nul name) → stands_at name d at ≡ true
  name-held name h =
      let long : length (with_nul name) ≡ length name + 1 = length-append name (0 ∷ []) in
      stands-there name d at (omega (arith, h.fits)) (λ j l. h.bytes j (omega arith))

  -- the first of the zeros after a name is its NUL
  pub holds-name : (name : List ℕ) (size : ℕ) → length name < size → Holds d at (filled size name) → Holds d at (with_nul name)
  unfolding filled
  holds-name name size h = go (size - length name) (omega arith)
    where
      go : (k : ℕ) → 0 < k → Holds d at (name ++ replicate k 0) → Holds d at (with_nul name)
      go zero l f = absurd (omega arith)
      go (suc k) l f = holds-first (with_nul name) (replicate k 0) (rw (append_snoc name 0 (replicate k 0)) f)

-- a word after the bytes u
pub word_after : (d : List ℕ) (at : ℕ) (u : List ℕ) (x : ℕ) (more : List ℕ) → Holds d at (u ++ (bytes32 x ++ more)) → word_at d (at + length u) ≡ x
word_after d at u x more h = word_held d (at + length u) x (holds-first d (at + length u) (bytes32 x) more (holds-second d at u (bytes32 x ++ more) h))

-- ---- good names

-- no byte is 0
abbrev pub NoNul : List ℕ → Type 0
NoNul name = (j : ℕ) → j < length name → get_or name j 0 ≡ 0 → ⊥

pub clean : (name : List ℕ) → NoNul name → Clean name
clean [] f = tt
clean (b ∷ bs) f = (f 0 (omega arith), clean bs (λ j h. f (suc j) (omega arith)))

-- a good name that stands at a place is read with its length
pub good-reads : (most : ℕ) (name d : List ℕ) (at : ℕ) → GoodName most name → stands_at name d at ≡ true → name_length (suc most) d at ≡ length name
good-reads most name d at g = name-reads (suc most) name d at (clean name g.bytes) (omega (arith, g.few))

-- the names and values of a tree that passes the check are good
pub tree-good : (s st : List ℕ) → passes s st ≡ true → AllGood (flatten (tree s st))
tree-good s st ok = rw (tree-flat s st ok) (good-events s st 0)

-- ---- how many bytes a reader writes

pub length-begin : (name : List ℕ) → length (begin_bytes name) ≡ 4 + up4 (length name + 1)
unfolding begin_bytes
length-begin name = let l = length-filled (up4 (length name + 1)) name (omega arith) in omega arith

pub length-prop : (place : ℕ) (value : List ℕ) → length (prop_bytes place value) ≡ 12 + up4 (length value)
unfolding prop_bytes
length-prop place value = let l = length-filled (up4 (length value)) value (omega arith) in omega arith
