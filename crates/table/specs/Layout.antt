-- The table's words: where each stands, and what the words of a connector and of a line mean. Any words are a table.
use Rattle.std.specs.Prelude.{ℕ, zero, suc, ◌+◌, ◌*◌, min, List, [], ◌∷◌, get_or, set}
use Rattle.states.specs.declared.State.{State}
use Rattle.states.specs.declared.Walk.{Walk}
use Rattle.connector.specs.declared.Connector.{Connector}
use Rattle.connector.specs.Fields.{columns, connector_from, connector_words, step_of}

abbrev pub connector_limit : ℕ
connector_limit = 1024

abbrev pub resource_limit : ℕ
resource_limit = 1024

-- two counts, the ledger's two columns, a connector's columns
abbrev pub word_count : ℕ
word_count = 2 + 2 * resource_limit + columns * connector_limit

-- how many connectors and how many lines there are: a count over the limit reads as the limit
abbrev pub count_of : List ℕ → ℕ
count_of t = min (get_or t 0 0) connector_limit

abbrev pub line_count_of : List ℕ → ℕ
line_count_of t = min (get_or t 1 0) resource_limit

-- the place of line j's word in the ledger's column f: 0 kind, 1 where it stands
abbrev pub line_cell : ℕ → ℕ → ℕ
line_cell f j = 2 + f * resource_limit + j

-- the place of connector i's word in column f
abbrev pub row_cell : ℕ → ℕ → ℕ
row_cell f i = 2 + 2 * resource_limit + f * connector_limit + i

-- a line of document 01's ledger: the resource's kind, and the index of the connector where it stands, 0 for the pool. Resource j + 1 has line j
pub record Line : Type 0 where
  pub kind : ℕ
  pub at : ℕ

abbrev pub line_at : List ℕ → ℕ → Line
line_at t j = record { kind = get_or t (line_cell 0 j) 0; at = get_or t (line_cell 1 j) 0 }

unfoldable pub connector_at : List ℕ → ℕ → Connector
connector_at t i = connector_from (λ f. get_or t (row_cell f i) 0)

-- words into row i: a column and its word, in turn
abbrev pub put_row : List ℕ → ℕ → List (ℕ × ℕ) → List ℕ
put_row t i [] = t
put_row t i (p ∷ ps) = put_row (set t (row_cell p.0 i) p.1) i ps

-- n columns from f on, with their words of ws
abbrev pub columns_from : List ℕ → ℕ → ℕ → List (ℕ × ℕ)
columns_from ws f zero = []
columns_from ws f (suc n) = (f, get_or ws f 0) ∷ columns_from ws (suc f) n

-- every column
abbrev pub all_columns : List ℕ → List (ℕ × ℕ)
all_columns ws = columns_from ws 0 columns

unfoldable pub store_row : List ℕ → ℕ → Connector → List ℕ
store_row t i c = put_row t i (all_columns (connector_words c))

-- a connector's state and walk only
unfoldable pub store_step : List ℕ → ℕ → State → Walk → List ℕ
store_step t i s w = put_row t i (step_of s w)

-- a line of a kind, in the pool
abbrev pub put_line : List ℕ → ℕ → ℕ → List ℕ
put_line t j kind = set (set t (line_cell 0 j) kind) (line_cell 1 j) 0
