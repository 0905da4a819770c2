-- `want_back::want_back_at` meets its contract.
use mathlib.Core.Path.{sym, ◌∙◌}
use Rattle.std.proofs.lemmas.Result.{err_from_is_err_and}
use Rattle.calls.proofs.Look.{decided-no, decided-yes}
use Rattle.want_back.proofs.want_back_at.Goals as goal

pub returns-in_err-want_back_status : goal.returns-in_err-want_back_status
returns-in_err-want_back_status c = let p = err_from_is_err_and c.from_residual.result c.from_residual.ensures.1 in rw (p.1, p.2) (decided-no _ _ _ _ (sym c.want_back_status.ensures ∙ c.in_err-want_back_status.was))

pub returns : goal.returns
returns c = decided-yes _ _ _ _ (sym c.want_back_status.ensures ∙ c.in_ok-want_back_status.was) (rw (← c.wanted_back.ensures) c.store.ensures)
