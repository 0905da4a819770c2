-- Where the -1 of a record's walk comes from: document 02, Ticket 11.
use Rattle.std.specs.Prelude.{ℕ, List}
use Rattle.connector.specs.Fields.{connector_of}
use Rattle.table.specs.Model.{Model}
use Rattle.unowned.specs.Unowned.{unowned}
use Rattle.faults.specs.Faults.{step_fault}

-- the offset of the step of the record that the words mean
unfoldable pub record_fault : Model → List ℕ → List ℕ → List ℕ → List ℕ → ℕ
record_fault m t area s st = step_fault (unowned m (connector_of t).partition) (connector_of t) area s st
