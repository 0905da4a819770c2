use mathlib.Core.Path.{◌≡◌, sym, ◌∙◌}
use Prim.Native.Nat.{◌+◌, ◌-◌}
use native.Mathlib.Omega.{arith}
use Rattle.words.specs.Pick.{pick}
use Rattle.property_texts.proofs.Texts.{texts-none, texts-out, scan-none, scan-out, scan-past, scan-more, none-told}
use Rattle.property_texts.proofs.scan_types.Goals as goal

pub loop-init : goal.loop-init
unfolding pick
loop-init c = let all : c.args.n - 0 ≡ c.args.n = omega arith in record { place = rw all; found = rw all }

pub returns-then-s-at : goal.returns-then-s-at
returns-then-s-at c =
    let s = c.args.s.now in
    let left = c.args.n - c.loop.counter in
    (sym (texts-out s c.loop.at left c.if-s-at.true) ∙ c.loop.invariant.place, sym (scan-out s c.loop.at left c.loop.unknown (omega arith) c.if-s-at.true) ∙ c.loop.invariant.found)

pub overflow_add-at : goal.overflow_add-at
overflow_add-at c = omega (arith, c.type_at-t.ensures.within)

pub overflow_add-at-in-loop : goal.overflow_add-at-in-loop
overflow_add-at-in-loop c = omega (arith, c.type_at-t.ensures.within)

pub loop-preserved : goal.loop-preserved
loop-preserved c =
    let s = c.args.s.now in
    let t = c.type_at-t in
    let left = c.args.n - c.loop.counter in
    let next : c.args.n - (c.loop.counter + 1) ≡ left - 1 = omega arith in
    let i = c.if-s-at.false in
    record {
      place = rw next (scan-past s c.loop.at left t.result t.ensures (omega arith) i ∙ c.loop.invariant.place);
      found = rw (next, none-told t.result.kind _ c.is_none-unknown.ensures) (scan-more s c.loop.at left t.result t.ensures (omega arith) i c.loop.unknown ∙ c.loop.invariant.found);
    }

pub returns : goal.returns
returns c =
    let s = c.args.s.now in
    let left = c.args.n - c.loop.counter in
    (sym (texts-none s c.loop.at left (omega arith)) ∙ c.loop.invariant.place, sym (scan-none s c.loop.at left c.loop.unknown (omega arith)) ∙ c.loop.invariant.found)
