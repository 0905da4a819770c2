-- `calls::to_pool` meets its contract.
use borrow.Author.Tests.{eq-eqb, ne_eqb, leb-true}
use mathlib.Core.Path.{sym, ◌∙◌}
use native.Mathlib.Omega.{arith}
use Rattle.words.specs.Pick.{pick, every}
use Rattle.words.proofs.Pick.{every-each}
use Rattle.calls.specs.Calls.{is_resource, to_pool}
use Rattle.calls.proofs.to_pool.Goals as goal

pub returns-then-not-is_resource : goal.returns-then-not-is_resource
unfolding to_pool every pick
returns-then-not-is_resource c = simp (sym c.is_resource.ensures ∙ c.if-not-is_resource.true)

pub overflow_sub-j : goal.overflow_sub-j
unfolding is_resource
overflow_sub-j c = let e = every-each _ (sym c.is_resource.ensures ∙ c.if-not-is_resource.false) in omega (arith, leb-true)

pub returns-then-at-k : goal.returns-then-at-k
unfolding to_pool every pick
returns-then-at-k c = simp (sym c.is_resource.ensures ∙ c.if-not-is_resource.false, ← c.line_at-at.ensures, ne_eqb _ _ c.if-at-k.true)

pub returns : goal.returns
unfolding to_pool every pick
returns c = simp (sym c.is_resource.ensures ∙ c.if-not-is_resource.false, ← c.line_at-at.ensures, eq-eqb _ _ c.if-at-k.false) c.set_line.ensures
