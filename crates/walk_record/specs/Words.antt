-- A connector record kept as words, in the order of the table's columns. Any words are a record.
use Rattle.std.specs.Prelude.{ℕ, ℤ, List, [], ◌∷◌, set}
use Rattle.words.specs.Pick.{pick}
use Rattle.connector.specs.Fields.{connector_of, step_of}
use Rattle.stepped.specs.declared.Stepped.{Stepped}
use Rattle.table.specs.Model.{Model}
use Rattle.unowned.specs.Unowned.{unowned}
use Rattle.walk.specs.Step.{Outcome, step}
use Rattle.step_status.specs.Status.{step_number}
use Rattle.step_status.specs.Status.{is_refusal}

-- a place and its word, in turn
abbrev pub put_words : List ℕ → List (ℕ × ℕ) → List ℕ
put_words t [] = t
put_words t (p ∷ ps) = put_words (set t p.0 p.1) ps

-- the words after a step: a refusal changes none, any other answer the state and the walk of its connector
unfoldable pub carried : List ℕ → Stepped → List ℕ
carried t s = pick (is_refusal s.status) t (put_words t (step_of s.connector.state s.connector.walk))

-- document 01's number, the words afterwards, and the work area afterwards
pub record Walked : Type 0 where
  pub number : ℤ
  pub words : List ℕ
  pub area : List ℕ

abbrev pub walked_by : List ℕ → Outcome → Walked
walked_by t o = record { number = step_number o.stepped.status; words = carried t o.stepped; area = o.area }

-- one step of the walk of the record that the words mean, read as the table reads a row: a word that is no state is Unusable, a word that is no page is None, any last word but 1 is not wanted back. The table says what is unowned
unfoldable pub walk_record : Model → List ℕ → List ℕ → List ℕ → List ℕ → Walked
walk_record m t area s st = walked_by t (step (unowned m (connector_of t).partition) (connector_of t) area s st)
