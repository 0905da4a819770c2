-- A connector and a line of the ledger as words, copied out.
use Rattle.std.specs.Prelude.{ℕ, ◌-◌, ◌≡◌, Err, List, [], ◌∷◌, ltb, ℤ, pos, get_or, length}
use Rattle.words.specs.Pick.{pick}
use Rattle.connector.specs.Fields.{connector_words}
use Rattle.table.specs.Model.{Line, Model, blank_connector, blank_line}
use Rattle.call_status.specs.Status.{CallStatus, accepted, call_number}
use Rattle.calls.specs.Calls.{at_index, is_resource}
use Rattle.call_status.specs.declared.CallRefusal.TheVariants.{NoConnector, NoResource}

-- kind, and the index of the connector where it stands, 0 for the pool
abbrev pub line_words : Line → List ℕ
line_words l = l.kind ∷ l.at ∷ []

-- a look's status, and the words that it leaves
pub record Look : Type 0 where
  pub status : CallStatus
  pub words : List ℕ

-- row i, counted from 0; nothing is written where there is none
unfoldable pub connector_look : Model → ℕ → List ℕ → Look
connector_look m i out =
    pick (ltb i (length m.connectors))
    (record { status = accepted; words = connector_words (get_or m.connectors i blank_connector) })
    (record { status = Err NoConnector; words = out })

-- resource r, counted from 1; nothing is written where there is none
unfoldable pub resource_look : Model → ℕ → List ℕ → Look
resource_look m r out =
    pick (is_resource m r)
    (record { status = accepted; words = line_words (get_or m.ledger (r - 1) blank_line) })
    (record { status = Err NoResource; words = out })

-- a look's answer and the words that it leaves are the definition's
abbrev pub Looked : {S : Type 0} → (CallStatus → S) → S → List ℕ → Look → Type 0
Looked number s words l = (s ≡ number l.status) × (words ≡ l.words)

-- the row of the first connector with index k, counted from 0, or the number of the refusal
unfoldable pub found_row : Model → ℕ → ℤ
found_row m k = at_index m k (λ i c. pos i) (call_number (Err NoConnector))
