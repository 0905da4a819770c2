use borrow.Author.Tests.{eq-eqb, ne_eqb}
use mathlib.Core.Path.{◌≡◌, sym, subst, ◌∙◌}
use Prim.Native.Nat.{ℕ}
use native.Mathlib.Omega.{arith}
use Rattle.words.proofs.Pick.{pick_yes, pick_no}
use Rattle.treecompare.specs.Lockstep.{in_step_from, resume, Forward}
use Rattle.token_pairs.specs.declared.Pair.{Pair}
use Rattle.treecompare.proofs.Lockstep.{after, Ahead, paired, resume-some, resume-none}
use Rattle.treecompare.proofs.+same_node.Goals as goal
use Rattle.treecompare.proofs.+same_node.Goals.{After-pair_at}

-- a turn of the loop, by the pair that it met
turn : (t : ℕ) (c : After-pair_at t) (r : Pair) → c.pair_at.result ≡ r
    → let a = c.args in
    (in_step_from a.a.now a.astrings.now a.b.now a.bstrings.now a.left a.at ≡ after a.a.now a.astrings.now a.b.now a.bstrings.now a.left r) × Ahead a.a.now c.loop-next.p.a r
turn t c r e =
    let a = c.args in
    let w = paired a.a.now a.astrings.now a.b.now a.bstrings.now c.loop-next.p r (sym c.pair_at.ensures ∙ e) in
    (c.loop-next.invariant.1 ∙ w.0 a.left, w.1)

pub returns-then-left-eq0-clause-at_value : goal.returns-then-left-eq0-clause-at_value
unfolding resume
returns-then-left-eq0-clause-at_value t c =
    let w = turn t (goal.at.returns-then-left-eq0-clause-at_value t c).After-pair_at _ c.in-Open.is in
    w.0 ∙ pick_yes _ _ _ (eq-eqb _ _ c.if-left-eq0.true)

pub loop-next-smaller-in-Open : goal.loop-next-smaller-in-Open
loop-next-smaller-in-Open t c =
    let w = turn t (goal.at.loop-next-smaller-in-Open t c).After-pair_at _ c.in-Open.is in
    let f = subst (Forward c.args.a.now c.in-Open.next) c.in_ok-p-in-Open.was c.same_node.ensures.forward in
    omega arith

pub loop-next-preserved-in-Open : goal.loop-next-preserved-in-Open
loop-next-preserved-in-Open t c =
    let w = turn t (goal.at.loop-next-preserved-in-Open t c).After-pair_at _ c.in-Open.is in
    let f = subst (Forward c.args.a.now c.in-Open.next) c.in_ok-p-in-Open.was c.same_node.ensures.forward in (
      omega arith,
      w.0
          ∙ pick_no _ _ _ (ne_eqb _ _ c.if-left-eq0.false)
          ∙ c.same_node.ensures.at_value
          ∙ resume-some _ _ _ _ _ _ _ c.in_ok-p-in-Open.was (omega arith) c.if-left-eq0.false,
    )

pub returns-in_err-p-in-Open-clause-at_value : goal.returns-in_err-p-in-Open-clause-at_value
returns-in_err-p-in-Open-clause-at_value t c =
    let w = turn t (goal.at.returns-in_err-p-in-Open-clause-at_value t c).After-pair_at _ c.in-Open.is in
    w.0
    ∙ pick_no _ _ _ (ne_eqb _ _ c.if-left-eq0.false)
    ∙ c.same_node.ensures.at_value
    ∙ resume-none _ _ _ _ _ _ c.in_err-p-in-Open.was
    ∙ sym (resume-none _ _ _ _ _ _ c.from_residual.ensures)

pub loop-next-smaller : goal.loop-next-smaller
loop-next-smaller t c = let w = turn t (goal.at.loop-next-smaller t c).After-pair_at _ c.in-Equal.is in omega arith

pub loop-next-preserved : goal.loop-next-preserved
loop-next-preserved t c = let w = turn t (goal.at.loop-next-preserved t c).After-pair_at _ c.in-Equal.is in (omega arith, w.0)

pub returns-in-Close-clause-at_value : goal.returns-in-Close-clause-at_value
returns-in-Close-clause-at_value t c = (turn t (goal.at.returns-in-Close-clause-at_value t c).After-pair_at _ c.in-Close.is).0

pub returns-in-Close-clause-forward : goal.returns-in-Close-clause-forward
returns-in-Close-clause-forward t c =
    let w = turn t (goal.at.returns-in-Close-clause-forward t c).After-pair_at _ c.in-Close.is in
    record { more = omega arith; inside = omega arith }

pub returns-in-Unlike-clause-at_value : goal.returns-in-Unlike-clause-at_value
unfolding resume
returns-in-Unlike-clause-at_value t c = (turn t (goal.at.returns-in-Unlike-clause-at_value t c).After-pair_at _ c.in-Unlike.is).0
