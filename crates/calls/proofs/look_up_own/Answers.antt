-- `calls::look_up_own` meets its contract.
use borrow.Author.Tests.{eq-eqb, ne_eqb}
use mathlib.Core.Path.{sym, ◌∙◌}
use Rattle.words.proofs.Pick.{pick_yes, pick_no}
use Rattle.table.specs.Model.{table_of}
use Rattle.std.specs.Prelude.{None}
use Rattle.calls.proofs.Finding.{row, own-by}
use Rattle.calls.proofs.look_up_own.Goals as goal

pub returns-in_err-i : goal.returns-in_err-i
returns-in_err-i c =
    let a = c.args in
    c.from_residual.ensures ∙ sym (own-by (table_of a.t.now) a.partition a.k.0 row None c.look_up.result c.look_up.ensures c.in_err-i.was)

pub returns-then-c-partition : goal.returns-then-c-partition
returns-then-c-partition c =
    let a = c.args in
    sym (own-by (table_of a.t.now) a.partition a.k.0 row None c.look_up.result c.look_up.ensures c.in_ok-i.was ∙ pick_no _ _ _ (ne_eqb _ _ c.if-c-partition.true))

pub returns : goal.returns
returns c =
    let a = c.args in
    sym (own-by (table_of a.t.now) a.partition a.k.0 row None c.look_up.result c.look_up.ensures c.in_ok-i.was ∙ pick_yes _ _ _ (eq-eqb _ _ c.if-c-partition.false))
