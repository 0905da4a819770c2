-- `adding::add_connector` meets its contract.
use mathlib.Core.Path.{sym, ◌∙◌}
use Rattle.std.proofs.lemmas.Result.{err_from_is_err_and}
use Rattle.calls.specs.Calls.{add_connector}
use Rattle.calls.proofs.Look.{decided-no, decided-yes}
use Rattle.adding.proofs.add_connector.Goals as goal

pub returns-in_err-add_connector_status : goal.returns-in_err-add_connector_status
unfolding add_connector
returns-in_err-add_connector_status c = let p = err_from_is_err_and c.from_residual.result c.from_residual.ensures.1 in rw (p.1, p.2) (decided-no _ _ _ _ (sym c.add_connector_status.ensures ∙ c.in_err-add_connector_status.was))

pub returns : goal.returns
unfolding add_connector
returns c = decided-yes _ _ _ _ (sym c.add_connector_status.ensures ∙ c.in_ok-add_connector_status.was) (rw (← c.new_connector.ensures) c.push_connector.ensures)
