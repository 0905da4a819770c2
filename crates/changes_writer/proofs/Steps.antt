-- From one borrowed change to the next: those of a kind are passed over, or their operands are put.
use mathlib.Core.Path.{◌≡◌, ap, sym, ◌∙◌}
use mathlib.Core.List.{List, [], ◌∷◌, flat_map}
use Prim.Native.Nat.{ℕ, zero, suc, ◌+◌, ◌-◌, ◌*◌, ◌<◌, ◌≤◌}
use native.Mathlib.Omega.{arith}
use native.Mathlib.Numerals.{sub-one}
use lib.Dec.{eqb}
use lib.ListN.{length, get_or, take, drop}
use borrow.Author.Tests.{eqb-true, eqb-false}
use Rattle.words.specs.Pick.{pick}
use Rattle.words.proofs.Pick.{pick-cases}
use Rattle.buffer.specs.Put.{put}
use Rattle.buffer.proofs.Put.{put-long, put-none}
use Rattle.node_changes.specs.Changes.{Change, change, changes_at, of_kind}
use Rattle.node_changes.specs.Lists.{width, operands}
use Rattle.node_changes.proofs.Changes.{kind-there, kind-yes, kind-no}
use Rattle.node_changes.proofs.Windows.{AllKind, of-kind}
use Rattle.changes_writer.specs.Writer.{bytes_of}
use Rattle.changes_writer.specs.Plan.{entry_bytes}
use Rattle.changes_writer.proofs.Bytes.{operands-bytes, entries-long, put-entry, put-over}

drop-next : {A : Type 0} (n : ℕ) (x : A) (xs : List A) → 0 < n → drop n (x ∷ xs) ≡ drop (n - 1) xs
drop-next zero x xs h = absurd (omega arith)
drop-next (suc n) x xs h = rw sub-one

module _ (ws : List ℕ) (kind i n : ℕ) where
  -- the changes of the kind from a place on
  abbrev pub to_come : List Change
  to_come = of_kind kind (changes_at ws i)

  -- all but n of them are `rest`
  pub record Passing (rest : List Change) : Type 0 where
    pub there : n ≤ length to_come
    pub leaves : drop n to_come ≡ rest

  -- with n of them put at `to`, the bytes bs stand in d at `at`
  pub record Putting (d : List ℕ) (to : ℕ) (d₀ : List ℕ) (at : ℕ) (bs : List ℕ) : Type 0 where
    pub there : n ≤ length to_come
    pub long : length d ≡ length d₀
    pub place : to + length (entry_bytes (take n to_come)) ≡ at + length bs
    pub puts : put d to (entry_bytes (take n to_come)) ≡ put d₀ at bs

module _ (ws : List ℕ) (kind i n : ℕ) (some : 0 < n) where
  module _ (rest : List Change) (p : Passing ws kind i n rest) where
    pub pass-there : 3 ≤ length ws - i
    pass-there = kind-there ws i kind n some p.there

    pass-yes : get_or ws i 0 ≡ kind → Passing ws kind (i + 3) (n - 1) rest
    pass-yes e =
        let k = kind-yes ws i pass-there kind e in
        record {
          there = omega (arith, p.there, ap length k);
          leaves = sym (drop-next n _ (to_come ws kind (i + 3) n) some) ∙ ap (drop n) (sym k) ∙ p.leaves;
        }

    pass-no : (get_or ws i 0 ≡ kind → ⊥) → Passing ws kind (i + 3) (n - 0) rest
    pass-no e =
        let k = kind-no ws i pass-there kind e in
        let z : n - 0 ≡ n = omega arith in
        rw z (record { there = rw k at p.there; leaves = rw k at p.leaves })

    -- the change is passed
    pub pass-one : (m : ℕ) → m ≡ pick (eqb (get_or ws i 0) kind) 1 0 → Passing ws kind (i + 3) (n - m) rest
    pass-one m e =
        rw e
        (pick-cases (λ (x : ℕ). Passing ws kind (i + 3) (n - x) rest) (eqb (get_or ws i 0) kind) 1 0 (λ t. pass-yes (eqb-true _ _ t)) (λ t. pass-no (eqb-false _ _ t)))

  module _ (d : List ℕ) (to : ℕ) (d₀ : List ℕ) (at : ℕ) (bs : List ℕ) (p : Putting ws kind i n d to d₀ at bs) (room : at + length bs ≤ length d₀) where
    pub put-there : 3 ≤ length ws - i
    put-there = kind-there ws i kind n some p.there

    abbrev all : List ℕ
    all = entry_bytes (take n (to_come ws kind i n))

    -- what is put: of a change of another kind too
    abbrev pub here : Change
    here = change kind (get_or ws (i + 1) 0) (get_or ws (i + 2) 0)

    fits : to + length all ≤ length d
    fits = omega (arith, p.place, p.long)

    one-fits : (cs : List Change) → AllKind kind cs → n ≤ length cs → 4 * width kind ≤ length (entry_bytes (take n cs))
    one-fits [] k l = absurd (omega arith)
    one-fits (c ∷ cs) k l = omega (arith, entries-long c cs n some, ap width k.0)

    one-room : 4 * width kind ≤ length all
    one-room = one-fits (to_come ws kind i n) (of-kind kind (changes_at ws i)) p.there

    pub put-room : to + 4 * width kind ≤ length d
    put-room = omega (arith, one-room, fits)

    module _ (d' : List ℕ) (f : d' ≡ put d to (bytes_of (operands here))) where
      long : length d' ≡ length d₀
      long = put-long d d' to (bytes_of (operands here)) f ∙ p.long

      put-yes : get_or ws i 0 ≡ kind → Putting ws kind (i + 3) (n - 1) d' (to + 1 * (4 * width kind)) d₀ at bs
      put-yes e =
          let comes : to_come ws kind i n ≡ here ∷ to_come ws kind (i + 3) n = kind-yes ws i put-there kind e ∙ ap (λ (k : ℕ). change k (get_or ws (i + 1) 0) (get_or ws (i + 2) 0) ∷ to_come ws kind (i + 3) n) e in
          let more = rw (← comes) at (entries-long here (to_come ws kind (i + 3) n) n some) in
          let one : to + 1 * (4 * width kind) ≡ to + 4 * width kind = omega arith in
          let within : length all ≤ length d - to = omega (arith, fits) in
          rw one
          (record {
            there = omega (arith, p.there, ap length comes);
            long = long;
            place = omega (arith, more, p.place);
            puts = put-entry here (to_come ws kind (i + 3) n) n some d d' to f (rw comes at within) ∙ (rw comes at p.puts);
          })

      put-no : (get_or ws i 0 ≡ kind → ⊥) → Putting ws kind (i + 3) (n - 0) d' (to + 0 * (4 * width kind)) d₀ at bs
      put-no e =
          let k = kind-no ws i put-there kind e in
          let none' : n - 0 ≡ n = omega arith in
          let still : to + 0 * (4 * width kind) ≡ to = omega arith in
          let over : put d' to all ≡ put d to all = rw f (put-over d to (bytes_of (operands here)) all (omega (arith, one-room, operands-bytes here)) fits) in
          rw (none', still) (record { there = rw k at p.there; long = long; place = rw k at p.place; puts = rw k at (over ∙ p.puts) })

      -- the change is put
      pub put_one : (m : ℕ) → m ≡ pick (eqb (get_or ws i 0) kind) 1 0 → Putting ws kind (i + 3) (n - m) d' (to + m * (4 * width kind)) d₀ at bs
      put_one m e =
          rw e
          (pick-cases (λ (x : ℕ). Putting ws kind (i + 3) (n - x) d' (to + x * (4 * width kind)) d₀ at bs) (eqb (get_or ws i 0) kind) 1 0 (λ t. put-yes (eqb-true _ _ t)) (λ t. put-no (eqb-false _ _ t)))

-- none is left
module _ (ws : List ℕ) (kind i n : ℕ) (none' : n ≤ 0) where
  zero_left : n ≡ 0
  zero_left = omega arith

  pub pass-end : (rest : List Change) → Passing ws kind i n rest → to_come ws kind i n ≡ rest
  pass-end rest p = rw zero_left at p.leaves

  pub put-end : (d : List ℕ) (to : ℕ) (d₀ : List ℕ) (at : ℕ) (bs : List ℕ) → Putting ws kind i n d to d₀ at bs → d ≡ put d₀ at bs
  unfolding entry_bytes flat_map
  put-end d to d₀ at bs p = sym (put-none d to) ∙ (rw zero_left at p.puts)
