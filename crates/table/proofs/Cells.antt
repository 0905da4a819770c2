-- What stands where after words were put into a row: the row has them, every other row and all before the rows is as it was.
use Prim.Native.Nat.{ℕ, ◌<◌}
use mathlib.Core.Path.{◌≡◌, refl, ap, fun_ext, ◌∙◌}
use mathlib.Core.Logic.{◌≢◌}
use mathlib.Core.List.{List, [], ◌∷◌}
use mathlib.Core.Bool.{Bool, true, false}
use native.Mathlib.Omega.{arith}
use borrow.Author.Tests.{ltb-true, eqb-true, eqb-false}
use lib.Dec.{eqb, ltb}
use lib.ListN.{get_or, set, length, length-set}
use lib.Seq.{get_or-set_same, get_or-set_other}
use Rattle.words.specs.Pick.{pick}
use Rattle.words.proofs.Pick.{pick-and, pick-cases}
use Rattle.states.specs.declared.State.{State}
use Rattle.states.specs.declared.Walk.{Walk}
use Rattle.connector.specs.declared.Connector.{Connector}
use Rattle.connector.specs.Fields.{columns, connector_from, connector_words, step_of, with_step}
use Rattle.states.proofs.Words.{state-word, page-word}
use Rattle.connector.proofs.Words.{wanted-word}
use Rattle.table.specs.Layout.{connector_limit, word_count, row_cell, put_row, all_columns, connector_at, store_row, store_step}

-- the word of column g after the words ps were put over the word w
abbrev put_over : ℕ → List (ℕ × ℕ) → ℕ → ℕ
put_over g [] w = w
put_over g (p ∷ ps) w = put_over g ps (pick (eqb g p.0) p.1 w)

-- the words ps go into columns that there are
abbrev in_columns : List (ℕ × ℕ) → Bool
in_columns [] = true
in_columns (p ∷ ps) = pick (ltb p.0 columns) (in_columns ps) false

pub length-put_row : (t : List ℕ) (i : ℕ) (ps : List (ℕ × ℕ)) → length (put_row t i ps) ≡ length t
length-put_row t i [] = refl
length-put_row t i (p ∷ ps) = length-put_row (set t (row_cell p.0 i) p.1) i ps ∙ length-set t (row_cell p.0 i) p.1

pub put_row-before : (t : List ℕ) (i k : ℕ) (ps : List (ℕ × ℕ)) → k < row_cell 0 0 → get_or (put_row t i ps) k 0 ≡ get_or t k 0
put_row-before t i k [] h = refl
put_row-before t i k (p ∷ ps) h = put_row-before (set t (row_cell p.0 i) p.1) i k ps h ∙ get_or-set_other t (row_cell p.0 i) k p.1 0 (omega arith)

module _ (i : ℕ) (hi : i < connector_limit) where
  other-cell : (t : List ℕ) (g j : ℕ) (ps : List (ℕ × ℕ)) → j < connector_limit → j ≢ i → get_or (put_row t i ps) (row_cell g j) 0 ≡ get_or t (row_cell g j) 0
  other-cell t g j [] hj n = refl
  other-cell t g j (p ∷ ps) hj n = other-cell (set t (row_cell p.0 i) p.1) g j ps hj n ∙ get_or-set_other t (row_cell p.0 i) (row_cell g j) p.1 0 (omega arith)

  one_cell : (t : List ℕ) (f g v : ℕ) → length t ≡ word_count → f < columns → get_or (set t (row_cell f i) v) (row_cell g i) 0 ≡ pick (eqb g f) v (get_or t (row_cell g i) 0)
  one_cell t f g v n h =
      pick-cases
      (λ w. get_or (set t (row_cell f i) v) (row_cell g i) 0 ≡ w)
      (eqb g f)
      v
      (get_or t (row_cell g i) 0)
      (λ e. let z : row_cell g i ≡ row_cell f i = omega (arith, eqb-true g f e) in rw z (get_or-set_same t (row_cell f i) v 0 (omega arith)))
      (λ e. get_or-set_other t (row_cell f i) (row_cell g i) v 0 (λ z. eqb-false g f e (omega arith)))

  own-cell : (t : List ℕ) (g : ℕ) (ps : List (ℕ × ℕ)) → length t ≡ word_count → in_columns ps ≡ true → get_or (put_row t i ps) (row_cell g i) 0 ≡ put_over g ps (get_or t (row_cell g i) 0)
  own-cell t g [] n h = refl
  own-cell t g (p ∷ ps) n h =
      let c = pick-and (ltb p.0 columns) (in_columns ps) h in
      rw (← one_cell t p.0 g p.1 n (ltb-true p.0 columns c.0))
      (own-cell (set t (row_cell p.0 i) p.1) g ps (length-set t (row_cell p.0 i) p.1 ∙ n) c.1)

  module _ (t : List ℕ) (ps : List (ℕ × ℕ)) where
    pub other_row : (j : ℕ) → j < connector_limit → j ≢ i → connector_at (put_row t i ps) j ≡ connector_at t j
    unfolding connector_at
    other_row j hj n = ap connector_from (fun_ext (λ g. other-cell t g j ps hj n))

    own_row : length t ≡ word_count → in_columns ps ≡ true → connector_at (put_row t i ps) i ≡ connector_from (λ g. put_over g ps (get_or t (row_cell g i) 0))
    unfolding connector_at
    own_row n h = ap connector_from (fun_ext (λ g. own-cell t g ps n h))

  module _ (t : List ℕ) (n : length t ≡ word_count) where
    pub stored_row : (c : Connector) → connector_at (store_row t i c) i ≡ c
    unfolding connector_at store_row pick
    stored_row c = own_row t (all_columns (connector_words c)) n refl ∙ rw (state-word c.state, page-word c.walk.page, wanted-word c.wanted)

    pub stepped-row : (s : State) (w : Walk) → connector_at (store_step t i s w) i ≡ with_step s w (connector_at t i)
    unfolding connector_at store_step pick
    stepped-row s w = own_row t (step_of s w) n refl ∙ rw (state-word s, page-word w.page)
