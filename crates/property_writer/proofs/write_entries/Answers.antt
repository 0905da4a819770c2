use mathlib.Core.Path.{◌≡◌, sym, ◌∙◌}
use Prim.Native.Nat.{◌-◌}
use native.Mathlib.Omega.{arith}
use Rattle.table.specs.Layout.{connector_at, count_of}
use Rattle.table.specs.Model.{table_of}
use Rattle.buffer.proofs.Put.{put-none}
use Rattle.property_writer.proofs.Rows.{entries-end, entries-long, put_next}
use Rattle.property_writer.proofs.write_entries.Goals as goal

pub loop-i-init : goal.loop-i-init
unfolding table_of
loop-i-init c =
    let e : c.used_rows-i-end.result - 0 ≡ count_of c.args.t.now = omega arith in
    record { place = rw e; written = rw e }

pub put_row-at-requires : goal.put_row-at-requires
put_row-at-requires c =
    let a = c.args in
    let long = entries-long a.property a.partition (connector_at a.t.now) c.loop-i.i c.used_rows-i-end.result c.loop-i-test.true in
    (omega arith, omega (arith, c.requires), omega (arith, c.requires))

pub loop-i-preserved : goal.loop-i-preserved
loop-i-preserved c =
    let a = c.args in
    let n = c.used_rows-i-end.result in
    let p = c.put_row-at.ensures in
    let h = c.loop-i-test.true in
    let long = entries-long a.property a.partition (connector_at a.t.now) c.loop-i.i n h in
    record {
      place = omega (arith, p.1);
      written =
          put_next a.property a.partition (connector_at a.t.now) c.loop-i.i n c.loop-i.dst _ c.loop-i.at c.put_row-at.result h p.0 p.1 (omega (arith, c.requires))
          ∙ c.loop-i.invariant.written;
    }

pub returns : goal.returns
returns c =
    let a = c.args in
    let e = entries-end a.property a.partition (connector_at a.t.now) c.loop-i.i c.used_rows-i-end.result c.loop-i-test.false in
    sym (put-none c.loop-i.dst c.loop-i.at) ∙ rw e at c.loop-i.invariant.written
