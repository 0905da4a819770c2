use Prim.Native.Nat.{◌-◌}
use mathlib.Core.Path.{◌≡◌, sym, ◌∙◌}
use native.Mathlib.Omega.{arith}
use lib.ListN.{length}
use Rattle.name_places.specs.Names.{place_of}
use Rattle.name_places.proofs.Places.{first-here, first_next, first-end}
use Rattle.name_places.proofs.find_name.Goals as goal

pub loop-p-init : goal.loop-p-init
unfolding place_of
loop-p-init c =
    let e : length c.args.used.now - 0 ≡ length c.args.used.now = omega arith in
    rw e

pub returns-then-name_here : goal.returns-then-name_here
returns-then-name_here c = (sym (first-here _ _ c.loop-p.p c.loop-p-test.true (sym c.name_here.ensures ∙ c.if-name_here.true)) ∙ c.loop-p.invariant, omega arith)

pub loop-p-preserved : goal.loop-p-preserved
loop-p-preserved c = sym (first_next _ _ c.loop-p.p c.loop-p-test.true (sym c.name_here.ensures ∙ c.if-name_here.false)) ∙ c.loop-p.invariant

pub returns : goal.returns
returns c =
    let e : length c.args.used.now ≡ c.loop-p.p = omega arith in
    (e ∙ sym (first-end _ _ c.loop-p.p c.loop-p-test.false) ∙ c.loop-p.invariant, omega arith)
