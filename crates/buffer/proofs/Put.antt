-- Laws of `part`, `sets` and `put`.
use mathlib.Core.Path.{◌≡◌, refl, ap, sym, ◌∙◌}
use mathlib.Core.Bool.{Bool, true, false}
use mathlib.Core.List.{List, ◌∷◌, [], ◌++◌, append_assoc}
use Prim.Native.Nat.{ℕ, zero, suc, ◌+◌, ◌-◌, ◌<◌, ◌≤◌, min}
use native.Mathlib.Omega.{arith}
use native.Mathlib.Numerals.{add-one, sub-one}
use native.Mathlib.Nat.{add-zero}
use lib.ListN.{length, get_or, set, take, drop, length-drop, length-take, length-append}
use lib.Seq.{drop-cons, drop-drop, sets, sets-eq, length-sets, take_all, take-length}
use borrow.Rule.Slice.PartMut.{put_mid}
use Rattle.std.proofs.lemmas.List.{take_min, drop_more, drop_all}
use lib.Dec.{leb}
use borrow.Author.Tests.{le-leb, lt-leb, leb-true, leb-false}
use Rattle.words.specs.Pick.{pick}
use Rattle.words.specs.Bytes.{part}
use Rattle.words.proofs.Pick.{pick-cases}
use Rattle.buffer.specs.Put.{put}

pub part-cons : (s : List ℕ) (i k : ℕ) → 0 < k → i < length s → part s i k ≡ get_or s i 0 ∷ part s (i + 1) (k - 1)
unfolding part
part-cons s i zero h l = absurd (omega arith)
part-cons s i (suc k) h l = rw (drop-cons s i 0 l, add-one, sub-one)

pub part_none : (s : List ℕ) (i k : ℕ) → k ≤ 0 → part s i k ≡ []
unfolding part
part_none s i zero h = refl
part_none s i (suc k) h = absurd (omega arith)

-- two runs of stores, one after the other
pub sets-append : (d : List ℕ) (at : ℕ) (u v : List ℕ) → sets d at (u ++ v) ≡ sets (sets d at u) (at + length u) v
sets-append d at [] v = rw add-zero
sets-append d at (x ∷ u) v = sets-append (set d at x) (suc at) u v ∙ ap (λ (k : ℕ). sets (sets (set d at x) (suc at) u) k v) (omega arith)

-- one byte of a run more, and the end of the run
pub sets-step : (d bs : List ℕ) (at i : ℕ) → i < length bs → sets (set d (at + i) (get_or bs i 0)) (at + (i + 1)) (drop (i + 1) bs) ≡ sets d (at + i) (drop i bs)
sets-step d bs at i h = let on : at + (i + 1) ≡ suc (at + i) = omega arith in rw (drop_more bs i 0 h, on)

pub sets-done : (d bs : List ℕ) (at i : ℕ) → length bs ≤ i → sets d (at + i) (drop i bs) ≡ d
sets-done d bs at i h = rw (drop_all i bs h)

pub length_part : (s : List ℕ) (i k : ℕ) → k ≤ length s - i → length (part s i k) ≡ k
unfolding part
length_part s i k h = simp (length-take, length-drop) (omega arith)

-- how long a part is, and that it ends where the block does
pub part-size : (s : List ℕ) (i k : ℕ) → length (part s i k) ≡ min k (length s - i)
unfolding part
part-size s i k = simp (length-take, length-drop)

pub part-least : (s : List ℕ) (i k : ℕ) → part s i (min k (length s - i)) ≡ part s i k
unfolding part
part-least s i k = rw (← length-drop i s) (take_min k (drop i s))

pub put_in : (d : List ℕ) (at : ℕ) (bs : List ℕ) → length bs ≤ length d - at → put d at bs ≡ sets d at bs
unfolding put pick
put_in d at bs h = simp (le-leb _ _ h)

pub put-out : (d : List ℕ) (at : ℕ) (bs : List ℕ) → length d - at < length bs → put d at bs ≡ d
unfolding put pick
put-out d at bs h = simp (lt-leb _ _ h)

pub length-put : (d : List ℕ) (at : ℕ) (bs : List ℕ) → length (put d at bs) ≡ length d
unfolding put
length-put d at bs = pick-cases (λ l. length l ≡ length d) (leb (length bs) (length d - at)) (sets d at bs) d (λ e. length-sets d at bs) (λ e. refl)

-- a buffer is as long after a put as before
pub put-long : (d d' : List ℕ) (at : ℕ) (bs : List ℕ) → d' ≡ put d at bs → length d' ≡ length d
put-long d d' at bs e = rw e (length-put d at bs)

pub put-none : (d : List ℕ) (at : ℕ) → put d at [] ≡ d
put-none d at = put_in d at [] (omega arith)

-- two runs, one after the other, where there is room for both
pub put-append : (d : List ℕ) (at : ℕ) (u v : List ℕ) → length u + length v ≤ length d - at → put (put d at u) (at + length u) v ≡ put d at (u ++ v)
put-append d at u v h =
    let first : put d at u ≡ sets d at u = put_in d at u (omega arith) in
    let long : length (sets d at u) ≡ length d = length-sets d at u in
    rw first
    (put_in (sets d at u) (at + length u) v (omega arith)
    ∙ sym (put_in d at (u ++ v) (omega (arith, length-append u v)) ∙ sets-append d at u v))

-- bytes copied over as many others: k is how many, and bs what stands there now
pub put-mid : (d bs : List ℕ) (at k : ℕ) → k ≡ length bs → at ≤ length d → length bs ≤ length d - at → put_mid at k d bs ≡ put d at bs
put-mid d bs at k e l h =
    let mid : put_mid at k d bs ≡ take at d ++ bs ++ drop (at + length bs) d = rw (e, drop-drop (length bs) at d, append_assoc) in
    mid ∙ sym (put_in d at bs h ∙ sets-eq bs d at (omega arith))
