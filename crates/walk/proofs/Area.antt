-- What the stores of a reply add up to.
use mathlib.Core.Path.{◌≡◌, refl, ap, sym, ◌∙◌}
use mathlib.Core.Bool.{Bool, true, false}
use mathlib.Core.List.{List, ◌∷◌, [], ◌++◌, append_assoc}
use mathlib.Core.Logic.{⊎_elim}
use Prim.Native.Nat.{ℕ, ◌+◌, ◌-◌, ◌<◌, ◌≤◌}
use native.Mathlib.Omega.{arith}
use native.Mathlib.Numerals.{add-one}
use lib.ListN.{length, get_or, drop, length-drop, length-append}
use lib.Seq.{sets, take-suc, get_or-drop, length-sets}
use lib.Dec.{eqb, ltb}
use borrow.Author.Tests.{eqb-true, ltb-false}
use Rattle.words.specs.Pick.{pick, every}
use Rattle.words.proofs.Pick.{pick_same, pick-either}
use Rattle.words.specs.Bytes.{part, name_length}
use Rattle.words.proofs.Bytes.{name-nul}
use Rattle.buffer.specs.Put.{bytes32, put}
use Rattle.buffer.proofs.Put.{put_in, put-append, length_part}
use Rattle.devtree.specs.Tree.{begin, prop}
use Rattle.guards.specs.Guards.{is_area}
use Rattle.walk.specs.Step.{written}

-- a name and the byte after it are the name and its NUL
pub name-part : (k : ℕ) (s : List ℕ) (a n : ℕ) → name_length k s a ≡ n → n < k → n < length s - a → part s a (n + 1) ≡ part s a n ++ (0 ∷ [])
unfolding part
name-part k s a n e h l =
    let nul : get_or s (a + n) 0 ≡ 0 = rw e at (name-nul k s a (omega arith)) in
    rw (add-one, take-suc (drop a s) n 0 (simp length-drop (omega arith)), get_or-drop a s n 0, nul)

module _ (d s : List ℕ) (a n : ℕ) (room : n + 21 ≤ length d) (named : name_length 48 s a ≡ n) (few : n ≤ 47) (inside : n < length s - a) where
  pub child-written : (d₁ d₂ : List ℕ) → d₁ ≡ put d 8 (bytes32 20) → d₂ ≡ put d₁ 20 (part s a (n + 1)) → d₂ ≡ written d (begin (part s a n))
  unfolding written
  child-written d₁ d₂ e f =
      let e' : d₁ ≡ sets d 8 (bytes32 20) = e ∙ put_in d 8 (bytes32 20) (omega arith) in
      let long : length d₁ ≡ length d = ap length e' ∙ length-sets d 8 (bytes32 20) in
      let size : length (part s a (n + 1)) ≡ n + 1 = length_part s a (n + 1) (omega arith) in
      f ∙ put_in d₁ 20 (part s a (n + 1)) (omega arith) ∙ rw (name-part 48 s a n named (omega arith) inside, e')

-- three words, one after the other
pub words-written : (d : List ℕ) (x y z : ℕ) (d₁ d₂ d₃ : List ℕ) → 20 ≤ length d → d₁ ≡ put d 8 (bytes32 x) → d₂ ≡ put d₁ 12 (bytes32 y) → d₃ ≡ put d₂ 16 (bytes32 z) → d₃ ≡ put d 8 (bytes32 x ++ (bytes32 y ++ bytes32 z))
words-written d x y z d₁ d₂ d₃ h e₁ e₂ e₃ =
    e₃ ∙ rw (e₂, e₁, put-append d 8 (bytes32 x) (bytes32 y) (omega arith)) (put-append d 8 (bytes32 x ++ bytes32 y) (bytes32 z) (omega arith))

module _ (d s st : List ℕ) (a n v l : ℕ) (room : n + 21 + l ≤ length d) (named : name_length 32 st a ≡ n) (few : n ≤ 31) (inside : n < length st - a) (valued : l ≤ length s - v) where
  pub property-written : (d₁ d₂ d₃ : List ℕ) → d₁ ≡ put d 8 (bytes32 20 ++ (bytes32 l ++ bytes32 (n + 21))) → d₂ ≡ put d₁ 20 (part st a (n + 1)) → d₃ ≡ put d₂ (n + 21) (part s v l) → d₃ ≡ written d (prop (part st a n) (part s v l))
  unfolding written
  property-written d₁ d₂ d₃ e₁ e₂ e₃ =
      let W : List ℕ = bytes32 20 ++ (bytes32 l ++ bytes32 (n + 21)) in
      let name : List ℕ = part st a n in
      let value : List ℕ = part s v l in
      let short : length name ≡ n = length_part st a n (omega arith) in
      let long : length value ≡ l = length_part s v l valued in
      let nul : length (name ++ (0 ∷ [])) ≡ n + 1 = omega (arith, length-append name (0 ∷ [])) in
      let words : d₁ ≡ sets d 8 W = e₁ ∙ put_in d 8 W (omega arith) in
      let kept : length d₁ ≡ length d = ap length words ∙ length-sets d 8 W in
      let at : 20 + length (name ++ (0 ∷ [])) ≡ n + 21 = omega arith in
      let up : 20 + n + 1 ≡ n + 21 = omega arith in
      let bytes : d₃ ≡ put d₁ 20 ((name ++ (0 ∷ [])) ++ value) =
      e₃ ∙ rw (e₂, name-part 32 st a n named (omega arith) inside, ← at) (put-append d₁ 20 (name ++ (0 ∷ [])) value (omega arith)) in
      bytes
      ∙ put_in d₁ 20 ((name ++ (0 ∷ [])) ++ value) (omega (arith, length-append (name ++ (0 ∷ [])) value))
      ∙ rw (append_assoc name (0 ∷ []) value, words, short, long, up)

-- whether a property's reply fits the page that is lent, by the lengths of its parts
pub paged : (k : ℕ) (s st : List ℕ) (a n v l : ℕ) → n < length st - a → l ≤ length s - v → every (eqb k 4096 ∷ ltb 4096 (20 + length (part st a n) + 1 + length (part s v l)) ∷ []) ≡ every (eqb k 4096 ∷ ltb 4096 (20 + n + 1 + l) ∷ [])
paged k s st a n v l h i = rw (length_part st a n (omega arith), length_part s v l i)

-- where no further page is needed there is room
pub room_for : (k n l : ℕ) → is_area k ≡ true → every (eqb k 4096 ∷ ltb 4096 (20 + n + 1 + l) ∷ []) ≡ false → n ≤ 31 → l ≤ 8192 - 20 - (n + 1) → n + 21 + l ≤ k
unfolding every pick
room_for k n l a e h i = go (eqb k 4096) refl a e
  where
    go : (b : Bool) → eqb k 4096 ≡ b → pick b true (eqb k 8192) ≡ true → every (b ∷ ltb 4096 (20 + n + 1 + l) ∷ []) ≡ false → n + 21 + l ≤ k
    go true f a e = let z = eqb-true k 4096 f in let y = ltb-false 4096 (20 + n + 1 + l) (sym (pick_same _) ∙ e) in omega arith
    go false f a e = let z = eqb-true k 8192 a in omega arith

pub area-size : (k : ℕ) → is_area k ≡ true → (4096 ≤ k) × (k ≤ 8192)
area-size k e = ⊎_elim (λ w. let z = eqb-true k 4096 w.0 in omega arith) (λ w. let z = eqb-true k 8192 w.1 in omega arith) (pick-either (eqb k 4096) true (eqb k 8192) e)
