use mathlib.Core.Path.{◌≡◌, sym, ◌∙◌}
use Prim.Native.Nat.{◌+◌, ◌-◌}
use native.Mathlib.Omega.{arith}
use Rattle.property_texts.proofs.Texts.{texts-none, texts-more, texts-out}
use Rattle.property_texts.proofs.past_texts.Goals as goal

pub loop-init : goal.loop-init
loop-init c = let all : c.args.n - 0 ≡ c.args.n = omega arith in rw all

pub returns-then-s-at : goal.returns-then-s-at
returns-then-s-at c = sym (texts-out c.args.s.now c.loop.at (c.args.n - c.loop.counter) c.if-s-at.true) ∙ c.loop.invariant

pub loop-preserved : goal.loop-preserved
loop-preserved c =
    let left = c.args.n - c.loop.counter in
    let next : c.args.n - (c.loop.counter + 1) ≡ left - 1 = omega arith in
    rw (next, c.length_at.ensures.0) (sym (texts-more c.args.s.now c.loop.at left (omega arith) c.if-s-at.false) ∙ c.loop.invariant)

pub returns : goal.returns
returns c = sym (texts-none c.args.s.now c.loop.at (c.args.n - c.loop.counter) (omega arith)) ∙ c.loop.invariant
