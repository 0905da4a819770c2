-- The platform wants a connector back: document 02, Ticket 6.
use Rattle.std.specs.Prelude.{ℕ, Err, [], ◌∷◌, eqb}
use Rattle.words.specs.Pick.{pick}
use Rattle.connector.specs.declared.Connector.{Connector}
use Rattle.connector.specs.Fields.{wanted_back}
use Rattle.table.specs.Model.{Model, row}
use Rattle.call_status.specs.declared.CallRefusal.TheVariants.{NoConnector, Empty}
use Rattle.call_status.specs.Status.{CallStatus, accepted}
use Rattle.calls.specs.Calls.{Answer, decided, refused, at_index}

-- what holds nothing cannot be wanted back
unfoldable pub want_back_status : Connector → CallStatus
want_back_status c = pick (eqb c.resource.0 0) (Err Empty) accepted

abbrev pub want_back_at : ℕ → Connector → Answer CallStatus
want_back_at i c = decided (want_back_status c) (row i (wanted_back c) ∷ [])

unfoldable pub want_back : Model → ℕ → Answer CallStatus
want_back m k = at_index m k want_back_at (refused (Err NoConnector))
