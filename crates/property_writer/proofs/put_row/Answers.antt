-- `property_writer::put_row` meets its contract.
use mathlib.Core.Path.{ap, sym, ◌∙◌}
use Prim.Native.Nat.{◌+◌}
use native.Mathlib.Omega.{arith}
use Rattle.table.specs.Layout.{connector_at}
use Rattle.table.proofs.Refine.{connector-read}
use Rattle.property_sizes.specs.Arrays.{is_listed}
use Rattle.buffer.proofs.Put.{put-none}
use Rattle.property_writer.proofs.Rows.{entry-yes, entry-no}
use Rattle.property_writer.proofs.put_row.Goals as goal

pub returns-then-is_listed : goal.returns-then-is_listed
unfolding connector_at
returns-then-is_listed c =
    let a = c.args in
    let yes = sym (c.is_listed.ensures ∙ ap (is_listed a.partition) (connector-read a.t.now a.i c.requires.0)) ∙ c.if-is_listed.true in
    let p = c.put_entry-n.ensures in
    rw (entry-yes a.property a.partition (connector_at a.t.now a.i) yes) (p.0, ap (λ n. a.at + n) p.1)

pub returns : goal.returns
returns c =
    let a = c.args in
    let no = sym (c.is_listed.ensures ∙ ap (is_listed a.partition) (connector-read a.t.now a.i c.requires.0)) ∙ c.if-is_listed.false in
    rw (entry-no a.property a.partition (connector_at a.t.now a.i) no) (sym (put-none a.dst.now a.at), omega arith)
