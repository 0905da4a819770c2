-- `statuses::walk_tree` meets its contract.
use mathlib.Core.Path.{refl, ap, ◌∙◌}
use Prim.Native.Nat.{◌+◌}
use native.Mathlib.Omega.{arith}
use borrow.Author.Tests.{not-true, not-false}
use lib.ListN.{length}
use Rattle.table.specs.Model.{table_of}
use Rattle.statuses.proofs.Text.{no_connector, no_table, area-made, area-size, over-one, over-two}
use Rattle.statuses.proofs.walk_tree.Goals as goal

pub returns-then-not-p : goal.returns-then-not-p
returns-then-not-p c =
    let a = c.args in
    let page = area-made 4096 _ (omega arith) c.put_word.ensures in
    let e = over-one (table_of no_connector) no_table a.structure.now a.strings.now a.text.now c.walk_over-p.result c.walk_over-p.new.text (length a.structure.now + 2) _ _ refl
    c.own_connector.ensures page c.walk_over-p.ensures.1 (not-true _ c.if-not-p.true) in
    (e.0, e.1, omega (arith, c.walk_over-p.ensures.0, c.requires))

pub walk_over-requires : goal.walk_over-requires
walk_over-requires c = omega (arith, c.walk_over-p.ensures.0, c.walk_over-p.auto.text, c.requires)

pub returns : goal.returns
returns c =
    let a = c.args in
    let page = area-made 4096 _ (omega arith) c.put_word.ensures in
    let run = area-made 8192 _ (omega arith) c.put_word-2.ensures in
    let e = over-two (table_of no_connector) no_table a.structure.now a.strings.now a.text.now c.walk_over-p.result c.walk_over-p.new.text (length a.structure.now + 2) _ _ refl
    c.own_connector.ensures page c.walk_over-p.ensures.1 (not-false _ c.if-not-p.false)
    c.walk_over.result c.walk_over.new.text _ run (c.walk_over.ensures.2 (ap length run ∙ area-size 8192)) c.walk_over.ensures.1 in
    (e.0, e.1, omega (arith, c.walk_over-p.ensures.0, c.walk_over.ensures.0, c.requires))
