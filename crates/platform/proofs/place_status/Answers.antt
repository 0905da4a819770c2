-- `platform::place_status` meets its contract.
use borrow.Author.Tests.{eq-eqb, ne_eqb}
use mathlib.Core.Path.{sym, ◌∙◌}
use native.Mathlib.Omega.{arith}
use Rattle.words.specs.Pick.{pick}
use Rattle.calls.specs.Calls.{place_status}
use Rattle.calls.proofs.Look.{one_up}
use Rattle.platform.proofs.place_status.Goals as goal

pub returns-then-not-is_resource : goal.returns-then-not-is_resource
unfolding place_status pick
returns-then-not-is_resource c = simp (sym c.is_resource.ensures ∙ c.if-not-is_resource.true)

pub overflow_sub-j : goal.overflow_sub-j
overflow_sub-j c = let e = one_up _ _ (sym c.is_resource.ensures ∙ c.if-not-is_resource.false) in omega (arith, e)

pub returns-then-line_kind-c : goal.returns-then-line_kind-c
unfolding place_status pick
returns-then-line_kind-c c = simp (sym c.is_resource.ensures ∙ c.if-not-is_resource.false, ← c.line_kind.ensures, ne_eqb _ _ c.if-line_kind-c.true)

pub returns-then-line_at-ne0 : goal.returns-then-line_at-ne0
unfolding place_status pick
returns-then-line_at-ne0 c = simp (sym c.is_resource.ensures ∙ c.if-not-is_resource.false, ← c.line_kind.ensures, eq-eqb _ _ c.if-line_kind-c.false, ← c.line_at.ensures, ne_eqb _ _ c.if-line_at-ne0.true)

pub returns-then-c-ne0 : goal.returns-then-c-ne0
unfolding place_status pick
returns-then-c-ne0 c = simp (sym c.is_resource.ensures ∙ c.if-not-is_resource.false, ← c.line_kind.ensures, eq-eqb _ _ c.if-line_kind-c.false, ← c.line_at.ensures, eq-eqb _ _ c.if-line_at-ne0.false, ne_eqb _ _ c.if-c-ne0.true)

pub returns : goal.returns
unfolding place_status pick
returns c = simp (sym c.is_resource.ensures ∙ c.if-not-is_resource.false, ← c.line_kind.ensures, eq-eqb _ _ c.if-line_kind-c.false, ← c.line_at.ensures, eq-eqb _ _ c.if-line_at-ne0.false, eq-eqb _ _ c.if-c-ne0.false)
