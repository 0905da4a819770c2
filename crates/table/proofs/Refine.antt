-- The words and the model: what is read of the words is read of the model, and any edits of the words are the same edits of the model.
use Prim.Native.Nat.{ℕ, ◌+◌, ◌≤◌, ◌<◌}
use mathlib.Core.Path.{◌≡◌, refl, ap, sym, fun_ext, ◌∙◌}
use mathlib.Core.Logic.{◌≢◌}
use mathlib.Core.List.{List, [], ◌∷◌, ◌++◌}
use native.Mathlib.Omega.{arith}
use native.Mathlib.Nat.{zero-add}
use borrow.Author.Tests.{ltb-true, ltb-false, lt-ltb, le-ltb}
use lib.Dec.{ltb}
use lib.ListN.{get_or, set, length, length-set, replicate, get_or-eq_default}
use lib.Seq.{get_or-set_same, get_or-set_other, set_out}
use Rattle.words.proofs.Pick.{pick-cases, pick_yes, pick_no}
use Rattle.states.specs.declared.State.{State}
use Rattle.states.specs.declared.Walk.{Walk}
use Rattle.connector.specs.declared.Connector.{Connector}
use Rattle.connector.specs.Fields.{connector_from, connector_words, step_of, with_step}
use Rattle.table.specs.Layout.{connector_limit, resource_limit, word_count, count_of, line_count_of, line_cell, row_cell, Line, line_at, put_row, connector_at, all_columns, store_row, store_step, put_line}
use Rattle.table.specs.Model.{Model, empty_model, blank_connector, blank_line, rows, table_of, Edit, row, step_row, move_line, add_row, add_line, write, writes, moved_to, add_up_to, edit, edits}
use Rattle.table.proofs.Rows.{length-rows, get_d_rows, rows_same, rows-set, rows_more}
use Rattle.table.proofs.Cells.{length-put_row, put_row-before, other_row, stored_row, stepped-row}

-- ---- what is read
module _ (t : List ℕ) where
  pub length-connectors : length (table_of t).connectors ≡ count_of t
  unfolding table_of
  length-connectors = length-rows _ _ _

  pub length-ledger : length (table_of t).ledger ≡ line_count_of t
  unfolding table_of
  length-ledger = length-rows _ _ _

  pub connector-read : (i : ℕ) → i < count_of t → get_or (table_of t).connectors i blank_connector ≡ connector_at t i
  unfolding table_of
  connector-read i h = get_d_rows (connector_at t) 0 (count_of t) i blank_connector h ∙ ap (connector_at t) (zero-add i)

  pub connector-past : (i : ℕ) → count_of t ≤ i → get_or (table_of t).connectors i blank_connector ≡ blank_connector
  connector-past i h = get_or-eq_default (table_of t).connectors blank_connector (rw length-connectors h)

  pub line_read : (j : ℕ) → j < line_count_of t → get_or (table_of t).ledger j blank_line ≡ line_at t j
  unfolding table_of
  line_read j h = get_d_rows (line_at t) 0 (line_count_of t) j blank_line h ∙ ap (line_at t) (zero-add j)

  pub line-past : (j : ℕ) → line_count_of t ≤ j → get_or (table_of t).ledger j blank_line ≡ blank_line
  line-past j h = get_or-eq_default (table_of t).ledger blank_line (rw length-ledger h)

-- ---- tables of words that differ
model : {a b : List Connector} {l m : List Line} → a ≡ b → l ≡ m → ◌≡◌ {A = Model} (record { connectors = a; ledger = l }) (record { connectors = b; ledger = m })
model p q = cc

module _ (t u : List ℕ) where
  -- the ledger stands in the words before the rows, the count of connectors aside
  same-ledger : ((k : ℕ) → 0 < k → k < row_cell 0 0 → get_or u k 0 ≡ get_or t k 0) → (table_of u).ledger ≡ (table_of t).ledger
  unfolding table_of
  same-ledger h =
      rw (h 1 (omega arith) (omega arith))
      (rows_same (line_at t) (line_at u) 0 (line_count_of t) (λ j p q. cc (h (line_cell 0 j) (omega arith) (omega arith), h (line_cell 1 j) (omega arith) (omega arith))))

  -- the connectors stand in the first word and in the rows
  same_row : ((k : ℕ) → row_cell 0 0 ≤ k → get_or u k 0 ≡ get_or t k 0) → (i : ℕ) → connector_at u i ≡ connector_at t i
  unfolding connector_at
  same_row h i = ap connector_from (fun_ext (λ g. h (row_cell g i) (omega arith)))

  same-connectors : get_or u 0 0 ≡ get_or t 0 0 → ((i : ℕ) → i < connector_limit → connector_at u i ≡ connector_at t i) → (table_of u).connectors ≡ (table_of t).connectors
  unfolding table_of
  same-connectors e h = rw e (rows_same (connector_at t) (connector_at u) 0 (count_of t) (λ i p q. h i (omega arith)))

-- ---- one edit of what is there
module _ (t : List ℕ) (n : length t ≡ word_count) where
  -- words put into row i, which then means c
  module _ (i : ℕ) (h : i < count_of t) (ps : List (ℕ × ℕ)) (c : Connector) (e : connector_at (put_row t i ps) i ≡ c) where
    put-connectors : (table_of (put_row t i ps)).connectors ≡ set (table_of t).connectors i c
    unfolding table_of
    put-connectors =
        rw (put_row-before t i 0 ps (omega arith))
        (rows-set (connector_at t) (connector_at (put_row t i ps)) c 0 (count_of t) i (rw zero-add e) (λ j p q. other_row i (omega arith) t ps j (omega arith) (omega arith)))

    refine-put : table_of (put_row t i ps) ≡ record { connectors = set (table_of t).connectors i c; ledger = (table_of t).ledger }
    refine-put = model put-connectors (same-ledger t (put_row t i ps) (λ k p q. put_row-before t i k ps q))

  refine-row : (i : ℕ) (c : Connector) → i < count_of t → table_of (store_row t i c) ≡ edit (table_of t) (row i c)
  unfolding store_row
  refine-row i c h = refine-put i h (all_columns (connector_words c)) c (stored_row i (omega arith) t n c)

  refine-step : (i : ℕ) (s : State) (w : Walk) → i < count_of t → table_of (store_step t i s w) ≡ edit (table_of t) (step_row i s w)
  unfolding store_step
  refine-step i s w h = rw (connector-read t i h) (refine-put i h (step_of s w) (with_step s w (connector_at t i)) (stepped-row i (omega arith) t n s w))

  length-store : (i : ℕ) (c : Connector) → length (store_row t i c) ≡ word_count
  unfolding store_row
  length-store i c = length-put_row t i (all_columns (connector_words c)) ∙ n

  length-step : (i : ℕ) (s : State) (w : Walk) → length (store_step t i s w) ≡ word_count
  unfolding store_step
  length-step i s w = length-put_row t i (step_of s w) ∙ n

  module _ (j k : ℕ) (h : j < line_count_of t) where
    moved-words : (w : ℕ) → w ≢ line_cell 1 j → get_or (set t (line_cell 1 j) k) w 0 ≡ get_or t w 0
    moved-words w o = get_or-set_other t (line_cell 1 j) w k 0 o

    moved-line : line_at (set t (line_cell 1 j) k) j ≡ moved_to k (line_at t j)
    moved-line = cc (get_or-set_same t (line_cell 1 j) k 0 (omega arith), moved-words (line_cell 0 j) (omega arith))

    moved-ledger : (table_of (set t (line_cell 1 j) k)).ledger ≡ set (table_of t).ledger j (moved_to k (line_at t j))
    unfolding table_of
    moved-ledger =
        rw (moved-words 1 (omega arith))
        (rows-set (line_at t) (line_at (set t (line_cell 1 j) k)) (moved_to k (line_at t j)) 0 (line_count_of t) j (rw zero-add moved-line) (λ i p q. cc (moved-words (line_cell 0 i) (omega arith), moved-words (line_cell 1 i) (omega arith))))

    refine-line : table_of (set t (line_cell 1 j) k) ≡ edit (table_of t) (move_line j k)
    refine-line =
        rw (line_read t j h)
        (model (same-connectors t (set t (line_cell 1 j) k) (moved-words 0 (omega arith)) (λ i p. same_row t (set t (line_cell 1 j) k) (λ w q. moved-words w (omega arith)) i)) moved-ledger)

-- a connector or a line that is not there
no_row : (t : List ℕ) (i : ℕ) (c : Connector) → count_of t ≤ i → set (table_of t).connectors i c ≡ (table_of t).connectors
no_row t i c h = set_out (table_of t).connectors i c (rw (length-connectors t) h)

no_line : (t : List ℕ) (j : ℕ) (l : Line) → line_count_of t ≤ j → set (table_of t).ledger j l ≡ (table_of t).ledger
no_line t j l h = set_out (table_of t).ledger j l (rw (length-ledger t) h)

-- ---- one more, where there is room
added : {A : Type 0} (limit n : ℕ) (xs : List A) (x : A) → length xs ≡ n → n < limit → add_up_to limit xs x ≡ xs ++ (x ∷ [])
unfolding add_up_to
added limit n xs x e h = pick_yes (ltb (length xs) limit) (xs ++ (x ∷ [])) xs (rw e (lt-ltb n limit h))

full : {A : Type 0} (limit n : ℕ) (xs : List A) (x : A) → length xs ≡ n → limit ≤ n → add_up_to limit xs x ≡ xs
unfolding add_up_to
full limit n xs x e h = pick_no (ltb (length xs) limit) (xs ++ (x ∷ [])) xs (rw e (le-ltb n limit h))

module _ (t : List ℕ) (n : length t ≡ word_count) (c : Connector) (h : count_of t < connector_limit) where
  stored : List ℕ
  stored = store_row t (count_of t) c

  grown : List ℕ
  grown = set stored 0 (count_of t + 1)

  length-stored : length stored ≡ word_count
  unfolding stored
  length-stored = length-store t n (count_of t) c

  beside : (k : ℕ) → k ≢ 0 → get_or grown k 0 ≡ get_or stored k 0
  unfolding grown
  beside k ne = get_or-set_other stored 0 k (count_of t + 1) 0 ne

  before : (k : ℕ) → 0 < k → k < row_cell 0 0 → get_or grown k 0 ≡ get_or t k 0
  unfolding stored store_row
  before k p q = beside k (omega arith) ∙ put_row-before t (count_of t) k (all_columns (connector_words c)) q

  old_row : (j : ℕ) → j < count_of t → connector_at grown j ≡ connector_at t j
  unfolding stored store_row
  old_row j p = same_row stored grown (λ k q. beside k (omega arith)) j ∙ other_row (count_of t) h t (all_columns (connector_words c)) j (omega arith) (omega arith)

  new_row : connector_at grown (count_of t) ≡ c
  unfolding stored
  new_row = same_row stored grown (λ k q. beside k (omega arith)) (count_of t) ∙ stored_row (count_of t) h t n c

  one_more : count_of grown ≡ count_of t + 1
  unfolding grown
  one_more = rw (get_or-set_same stored 0 (count_of t + 1) 0 (omega (arith, length-stored))) (omega arith)

  more-connectors : (table_of grown).connectors ≡ (table_of t).connectors ++ (c ∷ [])
  unfolding table_of
  more-connectors = rw one_more (rows_more (connector_at t) (connector_at grown) c (count_of t) new_row old_row)

  refine-add-row : table_of (set (store_row t (count_of t) c) 0 (count_of t + 1)) ≡ edit (table_of t) (add_row c)
  unfolding stored grown
  refine-add-row = rw (added connector_limit (count_of t) (table_of t).connectors c (length-connectors t) h) (model more-connectors (same-ledger t grown before))

  length-add-row : length (set (store_row t (count_of t) c) 0 (count_of t + 1)) ≡ word_count
  unfolding stored
  length-add-row = length-set stored 0 (count_of t + 1) ∙ length-stored

module _ (t : List ℕ) (n : length t ≡ word_count) (k : ℕ) (h : line_count_of t < resource_limit) where
  kinded : List ℕ
  kinded = set t (line_cell 0 (line_count_of t)) k

  pooled : List ℕ
  pooled = set kinded (line_cell 1 (line_count_of t)) 0

  extended : List ℕ
  extended = set pooled 1 (line_count_of t + 1)

  length-kinded : length kinded ≡ word_count
  unfolding kinded
  length-kinded = length-set t (line_cell 0 (line_count_of t)) k ∙ n

  length-pooled : length pooled ≡ word_count
  unfolding pooled
  length-pooled = length-set kinded (line_cell 1 (line_count_of t)) 0 ∙ length-kinded

  past-count : (w : ℕ) → w ≢ 1 → get_or extended w 0 ≡ get_or pooled w 0
  unfolding extended
  past-count w o = get_or-set_other pooled 1 w (line_count_of t + 1) 0 o

  past-place : (w : ℕ) → w ≢ line_cell 1 (line_count_of t) → get_or pooled w 0 ≡ get_or kinded w 0
  unfolding pooled
  past-place w o = get_or-set_other kinded (line_cell 1 (line_count_of t)) w 0 0 o

  past-kind : (w : ℕ) → w ≢ line_cell 0 (line_count_of t) → get_or kinded w 0 ≡ get_or t w 0
  unfolding kinded
  past-kind w o = get_or-set_other t (line_cell 0 (line_count_of t)) w k 0 o

  past-line : (w : ℕ) → w ≢ 1 → w ≢ line_cell 0 (line_count_of t) → w ≢ line_cell 1 (line_count_of t) → get_or extended w 0 ≡ get_or t w 0
  past-line w a b c = past-count w a ∙ past-place w c ∙ past-kind w b

  old-line : (j : ℕ) → j < line_count_of t → line_at extended j ≡ line_at t j
  old-line j p = cc (past-line (line_cell 0 j) (omega arith) (omega arith) (omega arith), past-line (line_cell 1 j) (omega arith) (omega arith) (omega arith))

  new_line : line_at extended (line_count_of t) ≡ record { kind = k; at = 0 }
  unfolding kinded pooled
  new_line =
      cc (
        past-count (line_cell 0 (line_count_of t)) (omega arith),
        past-place (line_cell 0 (line_count_of t)) (omega arith),
        get_or-set_same t (line_cell 0 (line_count_of t)) k 0 (omega arith),
        past-count (line_cell 1 (line_count_of t)) (omega arith),
        get_or-set_same kinded (line_cell 1 (line_count_of t)) 0 0 (omega (arith, length-kinded)),
      )

  one-line-more : line_count_of extended ≡ line_count_of t + 1
  unfolding extended
  one-line-more = rw (get_or-set_same pooled 1 (line_count_of t + 1) 0 (omega (arith, length-pooled))) (omega arith)

  more-ledger : (table_of extended).ledger ≡ (table_of t).ledger ++ (record { kind = k; at = 0 } ∷ [])
  unfolding table_of
  more-ledger = rw one-line-more (rows_more (line_at t) (line_at extended) (record { kind = k; at = 0 }) (line_count_of t) new_line old-line)

  kept-connectors : (table_of extended).connectors ≡ (table_of t).connectors
  kept-connectors =
      same-connectors t extended (past-line 0 (omega arith) (omega arith) (omega arith))
      (λ i p. same_row t extended (λ w q. past-line w (omega arith) (omega arith) (omega arith)) i)

  refine-add-line : table_of (set (put_line t (line_count_of t) k) 1 (line_count_of t + 1)) ≡ edit (table_of t) (add_line k)
  unfolding kinded pooled extended
  refine-add-line = rw (added resource_limit (line_count_of t) (table_of t).ledger (record { kind = k; at = 0 }) (length-ledger t) h) (model kept-connectors more-ledger)

  length-add-line : length (set (put_line t (line_count_of t) k) 1 (line_count_of t + 1)) ≡ word_count
  unfolding kinded pooled
  length-add-line = length-set pooled 1 (line_count_of t + 1) ∙ length-pooled

-- ---- any edits in a row: the one law that a history needs
-- u is a table again, and means what t means after the edit e
abbrev Refines : List ℕ → Edit → List ℕ → Type 0
Refines t e u = (table_of u ≡ edit (table_of t) e) × (length u ≡ word_count)

refine-one : (t : List ℕ) (e : Edit) → length t ≡ word_count → Refines t e (write t e)
unfolding write
refine-one t (row i c) n =
    pick-cases
    (Refines t (row i c))
    (ltb i (count_of t))
    (store_row t i c)
    t
    (λ e. (refine-row t n i c (ltb-true i (count_of t) e), length-store t n i c))
    (λ e. (model (sym (no_row t i c (ltb-false i (count_of t) e))) refl, n))
refine-one t (step_row i s w) n =
    pick-cases
    (Refines t (step_row i s w))
    (ltb i (count_of t))
    (store_step t i s w)
    t
    (λ e. (refine-step t n i s w (ltb-true i (count_of t) e), length-step t n i s w))
    (λ e. (model (sym (no_row t i (with_step s w (get_or (table_of t).connectors i blank_connector)) (ltb-false i (count_of t) e))) refl, n))
refine-one t (move_line j k) n =
    pick-cases
    (Refines t (move_line j k))
    (ltb j (line_count_of t))
    (set t (line_cell 1 j) k)
    t
    (λ e. (refine-line t n j k (ltb-true j (line_count_of t) e), length-set t (line_cell 1 j) k ∙ n))
    (λ e. (model refl (sym (no_line t j (moved_to k (get_or (table_of t).ledger j blank_line)) (ltb-false j (line_count_of t) e))), n))
refine-one t (add_row c) n =
    pick-cases
    (Refines t (add_row c))
    (ltb (count_of t) connector_limit)
    (set (store_row t (count_of t) c) 0 (count_of t + 1))
    t
    (λ e. (refine-add-row t n c (ltb-true (count_of t) connector_limit e), length-add-row t n c (ltb-true (count_of t) connector_limit e)))
    (λ e. (model (sym (full connector_limit (count_of t) (table_of t).connectors c (length-connectors t) (ltb-false (count_of t) connector_limit e))) refl, n))
refine-one t (add_line k) n =
    pick-cases
    (Refines t (add_line k))
    (ltb (line_count_of t) resource_limit)
    (set (put_line t (line_count_of t) k) 1 (line_count_of t + 1))
    t
    (λ e. (refine-add-line t n k (ltb-true (line_count_of t) resource_limit e), length-add-line t n k (ltb-true (line_count_of t) resource_limit e)))
    (λ e. (model refl (sym (full resource_limit (line_count_of t) (table_of t).ledger (record { kind = k; at = 0 }) (length-ledger t) (ltb-false (line_count_of t) resource_limit e))), n))

pub refine : (t : List ℕ) (es : List Edit) → length t ≡ word_count → (table_of (writes t es) ≡ edits (table_of t) es) × (length (writes t es) ≡ word_count)
refine t [] n = (refl, n)
refine t (e ∷ es) n =
    let r = refine-one t e n in
    let q = refine (write t e) es r.1 in
    (q.0 ∙ ap (λ m. edits m es) r.0, q.1)

-- the empty table
pub refine-fresh : table_of (replicate word_count 0) ≡ empty_model
unfolding table_of rows
refine-fresh = refl
