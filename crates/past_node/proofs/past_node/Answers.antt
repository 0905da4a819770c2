use borrow.Author.Tests.{lt-leb, le-leb}
use mathlib.Core.Path.{◌≡◌, refl, sym, ◌∙◌}
use Prim.Native.Nat.{◌+◌, ◌<◌, ◌≤◌}
use native.Mathlib.Omega.{arith}
use lib.ListN.{length}
use Rattle.std.specs.Prelude.{Ok}
use Rattle.std.proofs.lemmas.Result.{err_from_is_err_and}
use Rattle.words.proofs.Pick.{pick_yes, pick_no}
use Rattle.devtree.specs.Tokens.{token_of}
use Rattle.past_node.specs.Past.{past_of}
use Rattle.past_node.proofs.Places.{at-fault, at-begin, at-end, at_other, moves}
use Rattle.past_node.proofs.past_node.Goals as goal
use Rattle.past_node.proofs.past_node.Goals.{In_ok-next}

-- the token that was met has one behind it
met : (c : In_ok-next) → past_of (token_of c.args.s.now c.args.strings.now c.skip-q.result c.word_at-kind.result) ≡ Ok c.in_ok-next.next
met c = sym c.past_token.ensures ∙ c.in_ok-next.was

onward : (c : In_ok-next) → (c.loop-next.p < c.in_ok-next.next) × (c.in_ok-next.next ≤ length c.args.s.now)
onward c = moves c.args.s.now c.args.strings.now c.loop-next.p _ _ c.skip-q.ensures c.word_at-kind.ensures _ (met c)

pub loop-next-init : goal.loop-next-init
loop-next-init c = refl

pub returns-in_err-next : goal.returns-in_err-next
returns-in_err-next c =
    let a = c.args in
    let p = err_from_is_err_and c.from_residual.result c.from_residual.ensures.1 in
    rw (p.1, p.2) (sym (c.loop-next.invariant ∙ at-fault a.s.now a.strings.now c.loop-next.p _ _ c.skip-q.ensures c.word_at-kind.ensures a.depth c.loop-next.below _ (sym c.past_token.ensures ∙ c.in_err-next.was)))

pub returns-then-left-below : goal.returns-then-left-below
returns-then-left-below c =
    let a = c.args in
    sym (c.loop-next.invariant
    ∙ at-begin a.s.now a.strings.now c.loop-next.p _ _ c.skip-q.ensures c.word_at-kind.ensures _ (met (goal.at.returns-then-left-below c).In_ok-next) a.depth c.loop-next.below c.in-1.is
    ∙ pick_yes _ _ _ (le-leb 8 (a.depth + c.loop-next.below) (omega (arith, c.saturating_sub-left.ensures))))

pub loop-next-smaller-else-left-below : goal.loop-next-smaller-else-left-below
loop-next-smaller-else-left-below c = let w = onward (goal.at.loop-next-smaller-else-left-below c).In_ok-next in omega arith

pub loop-next-preserved-else-left-below : goal.loop-next-preserved-else-left-below
loop-next-preserved-else-left-below c =
    let a = c.args in
    c.loop-next.invariant
    ∙ at-begin a.s.now a.strings.now c.loop-next.p _ _ c.skip-q.ensures c.word_at-kind.ensures _ (met (goal.at.loop-next-preserved-else-left-below c).In_ok-next) a.depth c.loop-next.below c.in-1.is
    ∙ pick_no _ _ _ (lt-leb 8 (a.depth + c.loop-next.below) (omega (arith, c.saturating_sub-left.ensures)))

pub returns-then-below-le1 : goal.returns-then-below-le1
returns-then-below-le1 c =
    let a = c.args in
    sym (c.loop-next.invariant
    ∙ at-end a.s.now a.strings.now c.loop-next.p _ _ c.skip-q.ensures c.word_at-kind.ensures _ (met (goal.at.returns-then-below-le1 c).In_ok-next) a.depth c.loop-next.below c.in-2.is
    ∙ pick_yes _ _ _ (le-leb c.loop-next.below 1 c.if-below-le1.true))

pub loop-next-smaller-else-below-le1 : goal.loop-next-smaller-else-below-le1
loop-next-smaller-else-below-le1 c = let w = onward (goal.at.loop-next-smaller-else-below-le1 c).In_ok-next in omega arith

pub loop-next-preserved-else-below-le1 : goal.loop-next-preserved-else-below-le1
loop-next-preserved-else-below-le1 c =
    let a = c.args in
    c.loop-next.invariant
    ∙ at-end a.s.now a.strings.now c.loop-next.p _ _ c.skip-q.ensures c.word_at-kind.ensures _ (met (goal.at.loop-next-preserved-else-below-le1 c).In_ok-next) a.depth c.loop-next.below c.in-2.is
    ∙ pick_no _ _ _ (lt-leb c.loop-next.below 1 c.if-below-le1.false)

pub loop-next-smaller : goal.loop-next-smaller
loop-next-smaller c = let w = onward (goal.at.loop-next-smaller c).In_ok-next in omega arith

pub loop-next-preserved : goal.loop-next-preserved
loop-next-preserved c =
    let a = c.args in
    let n = c.in_default.in_default-own.rest in
    c.loop-next.invariant
    ∙ at_other a.s.now a.strings.now c.loop-next.p _ _ c.skip-q.ensures c.word_at-kind.ensures _ (met (goal.at.loop-next-preserved c).In_ok-next) a.depth c.loop-next.below n.0.1 n.1
