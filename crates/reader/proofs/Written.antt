-- Bytes written one run after the other.
use mathlib.Core.Path.{◌≡◌, refl, ap, sym, ◌∙◌}
use mathlib.Core.List.{List, ◌++◌}
use Prim.Native.Nat.{ℕ, zero, suc, ◌+◌, ◌-◌, ◌<◌, ◌≤◌}
use native.Mathlib.Omega.{arith}
use borrow.Rule.Slice.PartMut.{put_mid}
use lib.ListN.{length, take, drop, replicate, length-append, length-replicate}
use lib.Seq.{sets, sets-eq, length-sets, drop-drop}
use Rattle.std.proofs.Common.{append_assoc}
use Rattle.devtree.specs.Tokens.{up4}
use Rattle.buffer.specs.Put.{bytes32, put}
use Rattle.buffer.proofs.Put.{put_in, sets-append}
use Rattle.reader.specs.Bytes.{filled, begin_bytes, prop_bytes}
use Rattle.reader.specs.Steps.{fresh_bytes}

-- ---- runs

-- a part that is written anew
pub mid-sets : (d vs : List ℕ) (a k : ℕ) → length vs ≡ k → a + k ≤ length d → put_mid a k d vs ≡ sets d a vs
mid-sets d vs a k e h = rw (sets-eq vs d a (omega arith), e, ← drop-drop k a d) (sym (append_assoc (take a d) vs (drop k (drop a d))))

-- a run after another
module _ (d d₁ d₂ : List ℕ) (at : ℕ) (u v : List ℕ) where
  pub sets_then : d₁ ≡ sets d at u → d₂ ≡ sets d₁ (at + length u) v → d₂ ≡ sets d at (u ++ v)
  sets_then one two = two ∙ rw one (sym (sets-append d at u v))

  pub put_then : d₁ ≡ sets d at u → d₂ ≡ put d₁ (at + length u) v → at + length u + length v ≤ length d → d₂ ≡ sets d at (u ++ v)
  put_then one two h =
      let l : length d₁ ≡ length d = ap length one ∙ length-sets d at u in
      sets_then one (two ∙ put_in d₁ (at + length u) v (omega arith))

  pub put-sets : d₁ ≡ put d at u → d₂ ≡ sets d₁ (at + length u) v → at + length u ≤ length d → d₂ ≡ sets d at (u ++ v)
  put-sets one two h = sets_then (one ∙ put_in d at u (omega arith)) two

  pub put-put : d₁ ≡ put d at u → d₂ ≡ put d₁ (at + length u) v → at + length u + length v ≤ length d → d₂ ≡ sets d at (u ++ v)
  put-put one two h = put_then (one ∙ put_in d at u (omega arith)) two h

pub filled-then : (d d₁ d₂ : List ℕ) (at n size : ℕ) (bs : List ℕ) → length bs ≡ n → d₁ ≡ put d at bs → d₂ ≡ sets d₁ (at + n) (replicate (size - n) 0) → at + n ≤ length d → d₂ ≡ sets d at (filled size bs)
unfolding filled
filled-then d d₁ d₂ at n size bs l one two h = put-sets d d₁ d₂ at bs (replicate (size - length bs) 0) one (rw l two) (omega arith)

pub length-filled : (size : ℕ) (bs : List ℕ) → length bs ≤ size → length (filled size bs) ≡ size
unfolding filled
length-filled size bs h = simp (length-append, length-replicate) (omega arith)

pub begin-then : (d d₁ d₂ : List ℕ) (at n size : ℕ) (name : List ℕ) → length name ≡ n → size ≡ up4 (n + 1) → d₁ ≡ put d at (bytes32 1) → d₂ ≡ sets d₁ (at + 4) (filled size name) → at + 4 ≤ length d → d₂ ≡ sets d at (begin_bytes name)
unfolding begin_bytes
begin-then d d₁ d₂ at n size name l e one two h =
    put-sets d d₁ d₂ at (bytes32 1) (filled (up4 (length name + 1)) name) one (rw (l, ← e) two) h

pub property-then : (d d₁ d₂ d₃ d₄ : List ℕ) (at n size offset : ℕ) (value : List ℕ) → length value ≡ n → size ≡ up4 n → d₁ ≡ put d at (bytes32 3) → d₂ ≡ put d₁ (at + 4) (bytes32 n) → d₃ ≡ put d₂ (at + 8) (bytes32 offset) → d₄ ≡ sets d₃ (at + 12) (filled size value) → at + 12 ≤ length d → d₄ ≡ sets d at (prop_bytes offset value)
unfolding prop_bytes
property-then d d₁ d₂ d₃ d₄ at n size offset value l e one two three four h =
    let v : List ℕ = filled (up4 (length value)) value in
    let w : List ℕ = bytes32 3 ++ bytes32 (length value) in
    let e₂ : d₂ ≡ sets d at w = put-put d d₁ d₂ at (bytes32 3) (bytes32 (length value)) one (rw l two) (omega arith) in
    let e₃ : d₃ ≡ sets d at (w ++ bytes32 offset) = put_then d d₂ d₃ at w (bytes32 offset) e₂ three (omega arith) in
    sets_then d d₃ d₄ at (w ++ bytes32 offset) v e₃ (rw (l, ← e) four)

-- a name and its NUL in the strings block
pub name-then : (d d₁ : List ℕ) (at n fresh : ℕ) (name : List ℕ) → length name ≡ n → 0 < fresh → d₁ ≡ sets d at (filled (n + 1) name) → d₁ ≡ sets d at (fresh_bytes fresh name)
unfolding filled
name-then d d₁ at n zero name l h e = absurd (omega arith)
name-then d d₁ at n (suc fresh) name l h e =
    let one : n + 1 - length name ≡ 1 = omega arith in
    rw one at e

pub no_name : (d : List ℕ) (at fresh : ℕ) (name : List ℕ) → fresh ≤ 0 → d ≡ sets d at (fresh_bytes fresh name)
no_name d at zero name h = refl
no_name d at (suc fresh) name h = absurd (omega arith)
