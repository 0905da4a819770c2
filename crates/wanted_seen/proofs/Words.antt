-- Words that differ in what is wanted back alone: what they mean, and what edits that differ as little leave of them.
use Prim.Native.Nat.{ℕ, zero, suc, ◌+◌, ◌<◌}
use mathlib.Core.Path.{◌≡◌, refl, ap, sym, ◌∙◌}
use mathlib.Core.Logic.{dite, ◌≢◌}
use mathlib.Core.List.{List, [], ◌∷◌, map}
use mathlib.Core.Bool.{false}
use native.Mathlib.Decide.{ℕ_discrete, dec_lt}
use native.Mathlib.Omega.{arith}
use lib.Dec.{ltb}
use lib.ListN.{get_or, set, length, length-set}
use lib.Seq.{get_or-set_same, get_or-set_other, set_out}
use borrow.Author.Tests.{ltb-true}
use Rattle.words.proofs.Pick.{both-cases, both-picks}
use Rattle.connector.specs.declared.Connector.{Connector}
use Rattle.connector.specs.Fields.{connector_words, wanted_column, with_wanted, word_of_wanted, step_of}
use Rattle.table.specs.Layout.{connector_limit, resource_limit, count_of, line_count_of, line_cell, row_cell, line_at, connector_at, put_row, columns_from, store_row, store_step}
use Rattle.table.specs.Model.{rows, table_of, Edit, row, step_row, move_line, add_row, add_line, write, writes}
use Rattle.table.proofs.Rows.{rows_same}
use Rattle.wanted_seen.specs.Seen.{DifferInWanted}

-- the same connector, not wanted back
abbrev pub bare : Connector → Connector
bare c = with_wanted false c

-- ---- what the words mean
map_rows : {A B : Type 0} (f : A → B) (g : ℕ → A) (i n : ℕ) → map f (rows g i n) ≡ rows (λ j. f (g j)) i n
unfolding rows
map_rows f g i zero = refl
map_rows f g i (suc n) = ap (λ l. f (g i) ∷ l) (map_rows f g (suc i) n)

module _ (t t' : List ℕ) (a : DifferInWanted t t') where
  same_row : (i : ℕ) → i < connector_limit → bare (connector_at t' i) ≡ bare (connector_at t i)
  unfolding connector_at
  same_row i h =
      let e : (f : ℕ) → f < 9 → get_or t (row_cell f i) 0 ≡ get_or t' (row_cell f i) 0 = λ f q. a.others (row_cell f i) (λ j l z. omega arith) in
      rw (e 0 (omega arith), e 1 (omega arith), e 2 (omega arith), e 3 (omega arith), e 4 (omega arith), e 5 (omega arith), e 6 (omega arith), e 7 (omega arith), e 8 (omega arith))

  same_line : (j : ℕ) → j < resource_limit → line_at t' j ≡ line_at t j
  same_line j h = rw (a.others (line_cell 0 j) (λ i l z. omega arith), a.others (line_cell 1 j) (λ i l z. omega arith))

  same_count : count_of t ≡ count_of t'
  same_count = rw (a.others 0 (λ i l z. omega arith))

  same_lines : line_count_of t ≡ line_count_of t'
  same_lines = rw (a.others 1 (λ i l z. omega arith))

  pub same-connectors : map bare (table_of t).connectors ≡ map bare (table_of t').connectors
  unfolding table_of
  same-connectors =
      rw (map_rows bare (connector_at t) 0 (count_of t), map_rows bare (connector_at t') 0 (count_of t'), ← same_count)
      (rows_same (λ j. bare (connector_at t' j)) (λ j. bare (connector_at t j)) 0 (count_of t) (λ j p q. sym (same_row j (omega arith))))

  pub same-ledger : (table_of t).ledger ≡ (table_of t').ledger
  unfolding table_of
  same-ledger = rw (← same_lines) (rows_same (line_at t') (line_at t) 0 (line_count_of t) (λ j p q. sym (same_line j (omega arith))))

  -- ---- a word is put into both
  set_same : (x v : ℕ) → DifferInWanted (set t x v) (set t' x v)
  set_same x v = record { size = length-set t x v ∙ a.size ∙ sym (length-set t' x v); others = each }
    where
      each : (y : ℕ) → ((i : ℕ) → i < connector_limit → y ≢ row_cell wanted_column i) → get_or (set t x v) y 0 ≡ get_or (set t' x v) y 0
      each y h =
          dite (ℕ_discrete y x)
          (λ (p : y ≡ x).
          dite (dec_lt x (length t))
          (λ l. rw p (get_or-set_same t x v 0 l ∙ sym (get_or-set_same t' x v 0 (omega (arith, a.size)))))
          (λ l. rw (set_out t x v (omega arith), set_out t' x v (omega (arith, a.size))) (a.others y h)))
          (λ p. get_or-set_other t x y v 0 p ∙ a.others y h ∙ sym (get_or-set_other t' x y v 0 p))

  -- any two into the last column
  set_last : (i v v' : ℕ) → i < connector_limit → DifferInWanted (set t (row_cell wanted_column i) v) (set t' (row_cell wanted_column i) v')
  set_last i v v' l =
      let x = row_cell wanted_column i in
      record {
        size = length-set t x v ∙ a.size ∙ sym (length-set t' x v');
        others = λ y h. get_or-set_other t x y v 0 (h i l) ∙ a.others y h ∙ sym (get_or-set_other t' x y v' 0 (h i l));
      }

put_same : (t t' : List ℕ) → DifferInWanted t t' → (i : ℕ) (ps : List (ℕ × ℕ)) → DifferInWanted (put_row t i ps) (put_row t' i ps)
put_same t t' a i [] = a
put_same t t' a i (p ∷ ps) = put_same (set t (row_cell p.0 i) p.1) (set t' (row_cell p.0 i) p.1) (set_same t t' a (row_cell p.0 i) p.1) i ps

put-like : (t t' : List ℕ) → DifferInWanted t t' → (i : ℕ) (ps qs : List (ℕ × ℕ)) → ps ≡ qs → DifferInWanted (put_row t i ps) (put_row t' i qs)
put-like t t' a i ps qs e = rw e (put_same t t' a i qs)

-- the words of every column but the last
abbrev before_last : Connector → List (ℕ × ℕ)
before_last c = columns_from (connector_words c) 0 9

-- edits that differ in what is wanted back alone
pub data LikeEdit : Edit → Edit → Type 0 where
  rows-like : (i : ℕ) (c c' : Connector) → bare c ≡ bare c' → LikeEdit (row i c) (row i c')
  same-edit : (e : Edit) → LikeEdit e e

pub data LikeEdits : List Edit → List Edit → Type 0 where
  no-edits : LikeEdits [] []
  more-edits : {e e' : Edit} {es es' : List Edit} → LikeEdit e e' → LikeEdits es es' → LikeEdits (e ∷ es) (e' ∷ es')

module _ (t t' : List ℕ) (a : DifferInWanted t t') where
  stored-like : (i : ℕ) (c c' : Connector) → i < connector_limit → bare c ≡ bare c' → DifferInWanted (store_row t i c) (store_row t' i c')
  unfolding store_row
  stored-like i c c' l e =
      set_last (put_row t i (before_last c)) (put_row t' i (before_last c')) (put-like t t' a i (before_last c) (before_last c') (ap before_last e)) i (word_of_wanted c.wanted) (word_of_wanted c'.wanted) l

  pub write-like : {e e' : Edit} → LikeEdit e e' → DifferInWanted (write t e) (write t' e')
  unfolding write store_step
  write-like (rows-like i c c' q) = rw (← same_count t t' a) (both-cases DifferInWanted (ltb i (count_of t)) (λ z. stored-like i c c' (omega (arith, ltb-true i (count_of t) z)) q) (λ _. a))
  write-like (same-edit (row i c)) = rw (← same_count t t' a) (both-cases DifferInWanted (ltb i (count_of t)) (λ z. stored-like i c c (omega (arith, ltb-true i (count_of t) z)) refl) (λ _. a))
  write-like (same-edit (step_row i s w)) = rw (← same_count t t' a) (both-picks DifferInWanted (ltb i (count_of t)) (put_same t t' a i (step_of s w)) a)
  write-like (same-edit (move_line j k)) = rw (← same_lines t t' a) (both-picks DifferInWanted (ltb j (line_count_of t)) (set_same t t' a (line_cell 1 j) k) a)
  write-like (same-edit (add_row c)) = rw (← same_count t t' a) (both-cases DifferInWanted (ltb (count_of t) connector_limit) (λ z. set_same _ _ (stored-like (count_of t) c c (ltb-true (count_of t) connector_limit z) refl) 0 (count_of t + 1)) (λ _. a))
  write-like (same-edit (add_line k)) =
      let j = line_count_of t in
      rw (← same_lines t t' a)
      (both-picks DifferInWanted (ltb j resource_limit) (set_same _ _ (set_same _ _ (set_same t t' a (line_cell 0 j) k) (line_cell 1 j) 0) 1 (j + 1)) a)

pub writes-like : (t t' : List ℕ) → DifferInWanted t t' → {es es' : List Edit} → LikeEdits es es' → DifferInWanted (writes t es) (writes t' es')
writes-like t t' a no-edits = a
writes-like t t' a (more-edits {e = d} {e' = d'} e es) = writes-like (write t d) (write t' d') (write-like t t' a e) es
