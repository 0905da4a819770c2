-- `platform::retract_at` meets its contract.
use mathlib.Core.Path.{sym, ◌∙◌}
use Rattle.std.proofs.lemmas.Result.{err_from_is_err_and}
use Rattle.table.specs.Model.{table_of}
use Rattle.calls.specs.Calls.{to_pool}
use Rattle.calls.proofs.Look.{decided-no, decided-yes, writes-append}
use Rattle.platform.proofs.retract_at.Goals as goal

pub returns-in_err-retract_status : goal.returns-in_err-retract_status
returns-in_err-retract_status c = let p = err_from_is_err_and c.from_residual.result c.from_residual.ensures.1 in rw (p.1, p.2) (decided-no _ _ _ _ (sym c.retract_status.ensures ∙ c.in_err-retract_status.was))

pub returns : goal.returns
returns c =
    let a = c.args in
    decided-yes _ _ _ _ (sym c.retract_status.ensures ∙ c.in_ok-retract_status.was)
    (rw (writes-append _ (to_pool (table_of a.t.now) a.c.resource.0 a.c.index.0) _, ← c.to_pool.ensures, ← c.vacated.ensures) c.store.ensures)
