-- `adding::add_resource_status` meets its contract.
use borrow.Author.Tests.{le-leb, lt-leb}
use mathlib.Core.Path.{sym, ◌∙◌}
use Rattle.words.specs.Pick.{pick}
use Rattle.calls.specs.Calls.{add_resource_status}
use Rattle.adding.proofs.add_resource_status.Goals as goal

pub returns-then-not-known : goal.returns-then-not-known
unfolding add_resource_status pick
returns-then-not-known c = simp (sym c.known.ensures ∙ c.if-not-known.true)

pub returns-then-line_count-ge-RESOURCES : goal.returns-then-line_count-ge-RESOURCES
unfolding add_resource_status pick
returns-then-line_count-ge-RESOURCES c = simp (sym c.known.ensures ∙ c.if-not-known.false, ← c.line_count.ensures, le-leb _ _ c.if-line_count-ge-RESOURCES.true)

pub returns : goal.returns
unfolding add_resource_status pick
returns c = simp (sym c.known.ensures ∙ c.if-not-known.false, ← c.line_count.ensures, lt-leb _ _ c.if-line_count-ge-RESOURCES.false)
