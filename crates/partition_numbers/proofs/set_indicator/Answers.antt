-- `partition_numbers::set_indicator` meets its contract.
use mathlib.Core.Path.{◌≡◌, ap, ◌∙◌}
use mir.Syntax.{w32}
use mir.Val.{to_z, of_z}
use Rattle.connector.specs.Orders.{order_number}
use borrow.Author.Rules.{rules}
use Rattle.partition_numbers.proofs.set_indicator.Goals as goal

pub returns : goal.returns
returns c =
    let e : to_z w32 (of_z w32 c.status_number.result) ≡ c.status_number.result = search rules in
    (e ∙ c.status_number.ensures ∙ ap order_number c.set_indicator-s.ensures.0, c.set_indicator-s.ensures.1)
