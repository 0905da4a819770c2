-- `platform::place_at` meets its contract.
use mathlib.Core.Path.{ap, sym, ◌∙◌}
use native.Mathlib.Omega.{arith}
use Rattle.std.proofs.lemmas.Result.{err_from_is_err_and}
use Rattle.call_status.specs.Status.{is_accepted}
use Rattle.calls.proofs.Look.{decided-no, decided-yes, placed, one_up}
use Rattle.table.specs.Model.{table_of}
use Rattle.platform.proofs.place_at.Goals as goal

pub returns-in_err-place_status : goal.returns-in_err-place_status
returns-in_err-place_status c = let p = err_from_is_err_and c.from_residual.result c.from_residual.ensures.1 in rw (p.1, p.2) (decided-no _ _ _ _ (sym c.place_status.ensures ∙ c.in_err-place_status.was))

pub overflow_sub-j : goal.overflow_sub-j
overflow_sub-j c =
    let a = c.args in
    let h = one_up (table_of a.t.now) a.r.0 (placed (table_of a.t.now) a.r.0 a.c (ap is_accepted (sym c.place_status.ensures ∙ c.in_ok-place_status.was))) in
    omega arith

pub returns : goal.returns
returns c = decided-yes _ _ _ _ (sym c.place_status.ensures ∙ c.in_ok-place_status.was) (rw (← c.set_line.ensures, ← c.hold.ensures) c.store.ensures)
