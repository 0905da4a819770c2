-- How many entries of each kind fit, in numbers.
use mathlib.Core.Path.{◌≡◌, refl, ap, sym, ◌∙◌}
use mathlib.Core.Bool.{Bool, true, false}
use Prim.Native.Nat.{ℕ, zero, suc, ◌+◌, ◌-◌, ◌*◌, ◌/◌, ◌<◌, ◌≤◌, min}
use native.Mathlib.Omega.{arith}
use native.Mathlib.Nat.{mul-le-mul_right}
use lib.Dec.{ltb}
use borrow.Author.Tests.{ltb-true, ltb-false, ne_eqb}
use Rattle.words.specs.Pick.{pick}
use Rattle.words.proofs.Pick.{pick_yes, pick_no}
use Rattle.changes_writer.specs.Writer.{list_words, highest}
use Rattle.changes_writer.specs.Plan.{fit_in, list_size, portion_in, plan_of}
use Rattle.node_changes.specs.declared.Tally.{Tally}
use Rattle.changes_writer.specs.declared.Plan.{Plan}
use Rattle.changes_writer.specs.declared.Portion.{Portion}

pub size_none : (w : ℕ) → list_size 0 w ≡ 0
unfolding list_size pick
size_none w = refl

pub size-some : (n w : ℕ) → 0 < n → list_size n w ≡ 1 + n * w
unfolding list_size
size-some n w h = pick_no _ _ _ (ne_eqb n 0 (λ e. omega arith))

pub size-most : (n w : ℕ) → n * w ≤ list_size n w
size-most zero w = omega arith
size-most (suc n) w = omega (arith, size-some (suc n) w (omega arith))

-- as many as there are, or as many as have room
pub record Fit (rest w room n : ℕ) : Type 0 where
  pub few : n ≤ rest
  pub within : list_size n w ≤ room
  pub most : n < rest → room < list_size (suc n) w

module _ (rest w room : ℕ) where
  fit_none : room < 1 + w → Fit rest w room 0
  fit_none h = record { few = omega arith; within = omega (arith, size_none w); most = λ l. omega (arith, size-some 1 w (omega arith)) }

  fit-some : (q : ℕ) → 1 ≤ room → q * w ≤ room - 1 → room - 1 < suc q * w → Fit rest w room (min rest q)
  fit-some q some below above =
      record {
        few = omega arith;
        within = size (min rest q) (mul-le-mul_right w (omega arith));
        most = λ l. let e : min rest q ≡ q = omega arith in rw e (omega (arith, size-some (suc q) w (omega arith)));
      }
    where
      size : (n : ℕ) → n * w ≤ q * w → list_size n w ≤ room
      size zero h = omega (arith, size_none w)
      size (suc n) h = omega (arith, size-some (suc n) w (omega arith))

  fit-test : ((room - 1) / w * w ≤ room - 1) → (room - 1 < suc ((room - 1) / w) * w) → Fit rest w room (fit_in rest w room)
  unfolding fit_in
  fit-test below above = test (ltb room (1 + w)) refl
    where
      test : (b : Bool) → ltb room (1 + w) ≡ b → Fit rest w room (pick b 0 (min rest ((room - 1) / w)))
      test true e = rw (pick_yes true 0 (min rest ((room - 1) / w)) refl) (fit_none (ltb-true room (1 + w) e))
      test false e = rw (pick_no false 0 (min rest ((room - 1) / w)) refl) (fit-some ((room - 1) / w) (omega (arith, ltb-false room (1 + w) e)) below above)

pub fit-one : (rest room : ℕ) → Fit rest 1 room (fit_in rest 1 room)
fit-one rest room = fit-test rest 1 room (omega arith) (omega arith)

pub fit-two : (rest room : ℕ) → Fit rest 2 room (fit_in rest 2 room)
fit-two rest room = fit-test rest 2 room (omega arith) (omega arith)

-- one add more has no room
last_more : (x y n z : ℕ) → list_words - x - y < list_size (suc n) 2 → suc n ≤ z → list_words < x + (y + list_size z 2)
last_more x y n z most more = omega (arith, size-some (suc n) 2 (omega arith), size-some z 2 (omega arith))

-- ---- three kinds, each in the room that is left

pub record Three (d u a nd nu na : ℕ) : Type 0 where
  pub deletes : Fit d 1 list_words nd
  pub updates : Fit u 1 (list_words - list_size nd 1) nu
  pub adds : Fit a 2 (list_words - list_size nd 1 - list_size nu 1) na

module _ (d u a nd nu na : ℕ) (f : Three d u a nd nu na) where
  -- how many words the lists of the first n have
  abbrev pub size_of : ℕ → ℕ
  size_of n = list_size (min n d) 1 + (list_size (min (n - d) u) 1 + list_size (min (n - d - u) a) 2)

  abbrev pub all : ℕ
  all = nd + nu + na

  -- a kind of which not all fit leaves no room
  full-deletes : nd < d → (nu ≡ 0) × (na ≡ 0)
  full-deletes h =
      let s = size-some nd 1 (omega (arith, f.deletes.most h, size-some (suc nd) 1 (omega arith))) in
      let m = f.deletes.most h in
      let s' = size-some (suc nd) 1 (omega arith) in
      (omega (arith, f.updates.within, size-most nu 1), omega (arith, f.adds.within, size-most na 2))

  full-updates : nu < u → na ≡ 0
  full-updates h = omega (arith, f.updates.most h, size-some (suc nu) 1 (omega arith), size-most nu 1, f.adds.within, size-most na 2)

  pub record Parts (n x y z : ℕ) : Type 0 where
    pub deletes : min n d ≡ x
    pub updates : min (n - d) u ≡ y
    pub adds : min (n - d - u) a ≡ z

  pub parts : Parts all nd nu na
  parts = test (ltb nd d) refl (ltb nu u) refl
    where
      test : (b : Bool) → ltb nd d ≡ b → (b' : Bool) → ltb nu u ≡ b' → Parts all nd nu na
      test true e b' e' =
          let h = ltb-true nd d e in
          let z = full-deletes h in
          record { deletes = omega arith; updates = omega arith; adds = omega arith }
      test false e true e' =
          let h = ltb-false nd d e in
          let l = f.deletes.few in
          let h' = ltb-true nu u e' in
          let z = full-updates h' in
          record { deletes = omega arith; updates = omega arith; adds = omega arith }
      test false e false e' =
          let h = ltb-false nd d e in
          let h' = ltb-false nu u e' in
          let l = f.deletes.few in
          let l' = f.updates.few in
          let l'' = f.adds.few in
          record { deletes = omega arith; updates = omega arith; adds = omega arith }

  pub fits : size_of all ≤ list_words
  fits = rw (parts.deletes, parts.updates, parts.adds) (omega (arith, f.deletes.within, f.updates.within, f.adds.within))

  pub no_more : (n : ℕ) → all < n → n ≤ d + u + a → list_words < size_of n
  no_more n more few = test (ltb nd d) refl (ltb nu u) refl
    where
      test : (b : Bool) → ltb nd d ≡ b → (b' : Bool) → ltb nu u ≡ b' → list_words < size_of n
      test true e b' e' =
          let h = ltb-true nd d e in
          let z = full-deletes h in
          let m = f.deletes.most h in
          omega (arith, size-some (suc nd) 1 (omega arith), size-some (min n d) 1 (omega arith))
      test false e true e' =
          let h = ltb-false nd d e in
          let l = f.deletes.few in
          let h' = ltb-true nu u e' in
          let z = full-updates h' in
          let m = f.updates.most h' in
          let x : min n d ≡ nd = omega arith in
          rw x (omega (arith, size-some (suc nu) 1 (omega arith), size-some (min (n - d) u) 1 (omega arith)))
      test false e false e' =
          let h = ltb-false nd d e in
          let h' = ltb-false nu u e' in
          let l = f.deletes.few in
          let l' = f.updates.few in
          let x : min n d ≡ nd = omega arith in
          let y : min (n - d) u ≡ nu = omega arith in
          rw (x, y) (last_more (list_size nd 1) (list_size nu 1) na (min (n - d - u) a) (f.adds.most (omega arith)) (omega arith))

-- ---- the highest number that passes

pub highest-is : (p : ℕ → Bool) (n k : ℕ) → k ≤ n → (0 < k → p k ≡ true) → ((j : ℕ) → k < j → j ≤ n → p j ≡ false) → highest p n ≡ k
unfolding highest
highest-is p zero k h passes fails = omega arith
highest-is p (suc n) k h passes fails = test (ltb k (suc n)) refl (highest-is p n k)
  where
    test : (b : Bool) → ltb k (suc n) ≡ b → (k ≤ n → (0 < k → p k ≡ true) → ((j : ℕ) → k < j → j ≤ n → p j ≡ false) → highest p n ≡ k) → pick (p (suc n)) (suc n) (highest p n) ≡ k
    test true e ih = let l = ltb-true k (suc n) e in pick_no _ _ _ (fails (suc n) l (omega arith)) ∙ ih (omega arith) passes (λ j m o. fails j m (omega arith))
    test false e ih = let k' : k ≡ suc n = omega (arith, ltb-false k (suc n) e) in pick_yes _ _ _ (rw k' at (passes (omega arith))) ∙ sym k'

-- a portion of entries with one operand
module _ (n before room : ℕ) (p : Portion) (e : p ≡ portion_in n before 1 room) where
  pub portion-fit : Fit (n - before) 1 room p.count
  portion-fit = rw e (fit-one (n - before) room)

  pub portion-few : room ≤ list_words → p.count ≤ list_words
  portion-few h = omega (arith, portion-fit.within, size-most p.count 1)

  pub portion-size : (r : ℕ) → r ≡ list_size p.count 1 → r ≤ room
  portion-size r f = omega (arith, portion-fit.within)

  pub portion-skip : p.skip ≡ min before n
  portion-skip = ap (λ (q : Portion). q.skip) e

-- three portions, each after the one before
pub plan-made : (t : Tally) (before r r' : ℕ) (d u a : Portion) → d ≡ portion_in t.deletes before 1 list_words → r ≡ list_size d.count 1 → u ≡ portion_in t.updates (before - d.skip) 1 (list_words - r) → r' ≡ list_size u.count 1
    → a ≡ portion_in t.adds (before - d.skip - u.skip) 2 (list_words - r - r') → ◌≡◌ {A = Plan} (record { deletes = d; updates = u; adds = a }) (plan_of t before)
unfolding plan_of
plan-made t before r r' d u a e f g h i =
    let sd : before - d.skip ≡ before - t.deletes = omega (arith, portion-skip t.deletes before list_words d e) in
    let g' : u ≡ portion_in t.updates (before - t.deletes) 1 (list_words - r) = rw sd at g in
    let su : before - t.deletes - u.skip ≡ before - t.deletes - t.updates = omega (arith, portion-skip t.updates (before - t.deletes) (list_words - r) u g') in
    rw (i, sd, su, h, g', f, e)

-- no more are reported than remain
abbrev pub end_of : Plan → ℕ → ℕ
end_of p before = before + p.deletes.count + p.updates.count + p.adds.count

abbrev pub sum_of : Tally → ℕ
sum_of t = t.deletes + t.updates + t.adds

pub plan-most : (t : Tally) (p : Plan) (before : ℕ) → p ≡ plan_of t before → before ≤ sum_of t → end_of p before ≤ sum_of t
unfolding plan_of
plan-most t p before e h =
    rw e
    (let d = (fit-one (t.deletes - before) list_words).few in
    let u = (fit-one (t.updates - (before - t.deletes)) (list_words - list_size (fit_in (t.deletes - before) 1 list_words) 1)).few in
    let a = (fit-two (t.adds - (before - t.deletes - t.updates)) (list_words - list_size (fit_in (t.deletes - before) 1 list_words) 1 - list_size (fit_in (t.updates - (before - t.deletes)) 1 (list_words - list_size (fit_in (t.deletes - before) 1 list_words) 1)) 1)).few in
    omega arith)
