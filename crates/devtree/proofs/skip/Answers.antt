use mathlib.Core.Path.{refl, sym, ◌∙◌}
use native.Mathlib.Omega.{arith}
use lib.ListN.{length}
use Rattle.devtree.specs.Tokens.{skipped}
use Rattle.words.proofs.Bytes.{word_in}
use Rattle.devtree.proofs.Tokens.{skips-more, skips-other}
use Rattle.devtree.proofs.skip.Goals as goal

pub loop-p-init : goal.loop-p-init
unfolding skipped
loop-p-init c = (length c.args.s.now, omega arith, refl)

pub overflow_add-p : goal.overflow_add-p
overflow_add-p c =
    let a = c.args in
    let w = word_in a.s.now c.loop-p.p (λ z. omega (arith, c.word_at.ensures)) in
    omega arith

pub loop-p-smaller : goal.loop-p-smaller
loop-p-smaller c =
    let a = c.args in
    let w = word_in a.s.now c.loop-p.p (λ z. omega (arith, c.word_at.ensures)) in
    omega arith

pub loop-p-preserved : goal.loop-p-preserved
loop-p-preserved c =
    let a = c.args in
    skips-more a.s.now c.loop-p.p _ c.loop-p.invariant.0 c.loop-p.invariant.1 c.loop-p.invariant.2 (sym c.word_at.ensures ∙ c.loop-p-test.true)

pub returns : goal.returns
returns c =
    let a = c.args in
    skips-other a.s.now c.loop-p.p _ c.loop-p.invariant.0 c.loop-p.invariant.2 (λ e. c.loop-p-test.false (c.word_at.ensures ∙ e))
