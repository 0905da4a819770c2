use mathlib.Core.Path.{◌≡◌, refl}
use Prim.Native.Nat.{◌-◌}
use native.Mathlib.Omega.{arith}
use Rattle.table.specs.Layout.{connector_at, count_of}
use Rattle.table.specs.Model.{table_of}
use Rattle.property_sizes.specs.Arrays.{is_listed, listed}
use Rattle.property_sizes.proofs.Arrays.{toward-first, toward-row, toward-end, toward-last}
use Rattle.property_sizes.proofs.measure.Goals as goal

pub loop-i-init : goal.loop-i-init
unfolding table_of listed
loop-i-init c =
    let a = c.args in
    let e : c.used_rows-i-end.result - 0 ≡ count_of a.t.now = omega arith in
    record { count_most = omega arith; names-most = omega arith; types-most = omega arith; toward = rw e (toward-first _ (listed a.partition (table_of a.t.now)) refl refl refl) }

pub loop-i-preserved : goal.loop-i-preserved
loop-i-preserved c =
    let a = c.args in
    let n = c.used_rows-i-end.result in
    let w = c.with_row-s.ensures in
    let i = c.loop-i.invariant in
    record {
      count_most = omega (arith, w.one);
      names-most = omega (arith, w.names_more);
      types-most = omega (arith, w.types_more);
      toward = toward-row (is_listed a.partition) (connector_at a.t.now) c.loop-i.i n c.loop-i.s _ _ c.loop-i-test.true w i.toward;
    }

pub returns : goal.returns
returns c =
    let a = c.args in
    let n = c.used_rows-i-end.result in
    let e = toward-end (is_listed a.partition) (connector_at a.t.now) c.loop-i.i n c.loop-i.s _ c.loop-i-test.false c.loop-i.invariant.toward in
    let s = toward-last c.loop-i.s (listed a.partition (table_of a.t.now)) e in
    record { count = s.0; names = s.1; types = s.2; count_most = omega arith; names-most = omega arith; types-most = omega arith }
