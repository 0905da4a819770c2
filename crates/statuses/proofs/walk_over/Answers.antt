use mathlib.Core.Path.{refl, sym, ◌∙◌}
use native.Mathlib.Omega.{arith}
use Rattle.words.specs.Pick.{pick}
use Rattle.table.specs.Model.{table_of}
use Rattle.statuses.specs.Statuses.{to_come}
use Rattle.statuses.proofs.Text.{same_then, none_left, Turned, ended, asked, replied, one-page, same_area, same_text}
use Rattle.statuses.proofs.walk_over.Goals as goal
use Rattle.statuses.proofs.walk_over.Goals.{After-put_status-at}

-- a turn of the loop
turned : (c : After-put_status-at) → Turned (table_of c.args.table.now) c.args.structure.now c.args.strings.now c.loop-left.text c.loop-left.area c.loop-left.at c.loop-left.left c.loop-left.c c.step-r.result c.put_status-at.new.text c.step-r.new.area c.put_status-at.result
turned c = record { more = c.loop-left-test.true; stepped = c.step-r.ensures.0; left = c.step-r.ensures.1; wrote = c.put_status-at.ensures.0; moved = c.put_status-at.ensures.1 }

pub loop-left-init : goal.loop-left-init
loop-left-init c = (refl, omega arith, refl, record { whole = refl; end = refl })

pub returns-then-is_last : goal.returns-then-is_last
unfolding to_come pick
returns-then-is_last c =
    let p = c.put_status-at in
    let e = same_then (ended (turned (goal.at.returns-then-is_last c).After-put_status-at) (sym c.is_last.ensures ∙ c.if-is_last.true)) c.loop-left.invariant.3 in
    rw c.pause.ensures (omega (arith, p.ensures.1, p.ensures.2, c.loop-left.invariant.1, c.loop-left-test.true), e, λ _. refl)

pub returns-then-is_asking : goal.returns-then-is_asking
unfolding to_come pick
returns-then-is_asking c =
    let p = c.put_status-at in
    let t = turned (goal.at.returns-then-is_asking c).After-put_status-at in
    let n = sym c.is_last.ensures ∙ c.if-is_last.false in
    let a = sym c.is_asking.ensures ∙ c.if-is_asking.true in
    rw c.pause-then-is_asking.ensures (omega (arith, p.ensures.1, p.ensures.2, c.loop-left.invariant.1), same_then (asked t n a) c.loop-left.invariant.3, λ z. absurd (omega (arith, one-page t a, c.loop-left.invariant.0)))

pub loop-left-preserved : goal.loop-left-preserved
loop-left-preserved c =
    let p = c.put_status-at in
    let t = turned (goal.at.loop-left-preserved c).After-put_status-at in
    let n = sym c.is_last.ensures ∙ c.if-is_last.false in
    let a = sym c.is_asking.ensures ∙ c.if-is_asking.false in
    (same_area t ∙ c.loop-left.invariant.0, omega (arith, p.ensures.1, p.ensures.2, c.loop-left.invariant.1), same_text t ∙ c.loop-left.invariant.2, same_then (replied t n a) c.loop-left.invariant.3)

pub returns : goal.returns
unfolding to_come pick
returns c = rw c.pause-2.ensures (omega (arith, c.loop-left.invariant.1), none_left _ _ _ _ _ _ c.loop-left-test.false c.loop-left.invariant.3, λ _. refl)
