-- The table that the words mean, as a list of connectors and a ledger; the searches in it, and the edits of it.
use Rattle.std.specs.Prelude.{ℕ, zero, suc, ◌+◌, List, [], ◌∷◌, ◌++◌, Bool, eqb, leb, ltb, get_or, set, length}
use Rattle.words.specs.Pick.{pick, every}
use Rattle.states.specs.declared.State.{State}
use Rattle.states.specs.declared.Walk.{Walk}
use Rattle.connector.specs.declared.Connector.{Connector}
use Rattle.states.specs.States.{in_use}
use Rattle.kinds.specs.Kinds.{slot}
use Rattle.connector.specs.Fields.{new_connector, with_step}
pub use Rattle.table.specs.Layout.{Line}
use Rattle.table.specs.Layout.{connector_limit, resource_limit, count_of, line_count_of, line_cell, line_at, connector_at, store_row, store_step, put_line}

pub record Model : Type 0 where
  pub connectors : List Connector
  pub ledger : List Line

abbrev pub empty_model : Model
empty_model = record { connectors = []; ledger = [] }

-- what is read where no connector or line is
abbrev pub blank_connector : Connector
blank_connector = new_connector 0 0 0 0

abbrev pub blank_line : Line
blank_line = record { kind = 0; at = 0 }

-- f i, f (i + 1), ..: n of them
unfoldable pub rows : {A : Type 0} → (ℕ → A) → ℕ → ℕ → List A
rows f i zero = []
rows f i (suc n) = f i ∷ rows f (suc i) n

-- the meaning of the words
unfoldable pub table_of : List ℕ → Model
table_of t = record { connectors = rows (connector_at t) 0 (count_of t); ledger = rows (line_at t) 0 (line_count_of t) }

-- the place of the first that passes, or the length
unfoldable pub position : {A : Type 0} → (A → Bool) → List A → ℕ
position p [] = 0
position p (x ∷ xs) = pick (p x) 0 (suc (position p xs))

abbrev pub has_index : ℕ → Connector → Bool
has_index k c = eqb c.index.0 k

-- a slot below the connector with index k, of whatever partition, that is not Unusable; one whose parent is 0 was given none
abbrev pub slot_below : ℕ → Connector → Bool
slot_below k c = every (eqb c.kind slot ∷ leb 1 c.parent.0 ∷ eqb c.parent.0 k ∷ in_use c.state ∷ [])

-- connector i becomes c; connector i gets a state and a walk; the resource of line j stands at the connector with index k, 0 for the pool; one connector more; one line of a kind more, in the pool.
-- An edit of a connector or a line that is not there, or one more where the limit is reached, changes nothing
pub data Edit : Type 0 where
  row : ℕ → Connector → Edit
  step_row : ℕ → State → Walk → Edit
  move_line : ℕ → ℕ → Edit
  add_row : Connector → Edit
  add_line : ℕ → Edit

-- an edit of the words
unfoldable pub write : List ℕ → Edit → List ℕ
write t (row i c) = pick (ltb i (count_of t)) (store_row t i c) t
write t (step_row i s w) = pick (ltb i (count_of t)) (store_step t i s w) t
write t (move_line j k) = pick (ltb j (line_count_of t)) (set t (line_cell 1 j) k) t
write t (add_row c) = pick (ltb (count_of t) connector_limit) (set (store_row t (count_of t) c) 0 (count_of t + 1)) t
write t (add_line k) = pick (ltb (line_count_of t) resource_limit) (set (put_line t (line_count_of t) k) 1 (line_count_of t + 1)) t

abbrev pub writes : List ℕ → List Edit → List ℕ
writes t [] = t
writes t (e ∷ es) = writes (write t e) es

-- the same line, with its resource at another connector
abbrev pub moved_to : ℕ → Line → Line
moved_to k l = record { kind = l.kind; at = k }

-- one more at the end, where there are fewer than the limit
unfoldable pub add_up_to : {A : Type 0} → ℕ → List A → A → List A
add_up_to limit xs x = pick (ltb (length xs) limit) (xs ++ (x ∷ [])) xs

-- the same edit of the model
abbrev pub edit : Model → Edit → Model
edit m (row i c) = record { connectors = set m.connectors i c; ledger = m.ledger }
edit m (step_row i s w) = record { connectors = set m.connectors i (with_step s w (get_or m.connectors i blank_connector)); ledger = m.ledger }
edit m (move_line j k) = record { connectors = m.connectors; ledger = set m.ledger j (moved_to k (get_or m.ledger j blank_line)) }
edit m (add_row c) = record { connectors = add_up_to connector_limit m.connectors c; ledger = m.ledger }
edit m (add_line k) = record { connectors = m.connectors; ledger = add_up_to resource_limit m.ledger (record { kind = k; at = 0 }) }

abbrev pub edits : Model → List Edit → Model
edits m [] = m
edits m (e ∷ es) = edits (edit m e) es
