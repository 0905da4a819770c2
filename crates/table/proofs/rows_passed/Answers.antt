use mathlib.Core.Path.{◌≡◌, refl, sym, ap, ◌∙◌}
use native.Mathlib.Omega.{arith}
use lib.Dec.{eqb}
use lib.ListN.{length, length-append}
use Rattle.table.specs.Model.{position}
use Rattle.table.proofs.Columns.{position-past, rest-past}
use Rattle.table.proofs.rows_passed.Goals as goal

pub loop-rows-init : goal.loop-rows-init
loop-rows-init c =
    let s = c.into_iter-rows-iterator.ensures.into_iter_gives in
    let r = c.chunks_exact-rows-items.ensures in
    rw (s, r.rest) (record { sixteen = r.size; left = refl; room = omega arith; first = omega arith })

pub overflow_add-passed : goal.overflow_add-passed
overflow_add-passed c =
    let s = c.in-Some.ensures.steps in
    omega (arith, ap length s.1.0, length-append c.in-Some.rows.now c.next.new.self.rest.now, c.chunks_exact-rows-items.ensures.count)

pub loop-rows-preserved : goal.loop-rows-preserved
loop-rows-preserved c =
    let i = c.loop-rows.invariant in
    let s = c.in-Some.ensures.steps in
    let n : length c.in-Some.rows.now ≡ 16 = s.1.1 ∙ i.sixteen in
    let e = s.1.0 in
    let p = position-past (λ k. eqb k c.args.index.0) c.in-Some.rows.now c.next.new.self.rest.now (sym c.contains.ensures.value ∙ c.if-contains.false) in
    let q = ap (position (λ k. eqb k c.args.index.0)) e in
    record {
      sixteen = s.0 ∙ i.sixteen;
      left = rw n at (rest-past c.loop-rows.passed c.args.column.now c.in-Some.rows.now c.next.new.self.rest.now (sym e ∙ i.left));
      room = omega (arith, ap length e, length-append c.in-Some.rows.now c.next.new.self.rest.now);
      first = omega arith;
    }

pub returns-in-None : goal.returns-in-None
returns-in-None c = let i = c.loop-rows.invariant in (omega arith, rw (← i.left) i.first)

pub returns-then-contains : goal.returns-then-contains
returns-then-contains c = let i = c.loop-rows.invariant in (omega arith, rw (← i.left) i.first)
