-- `partition_numbers::get_sensor` meets its contract.
use mathlib.Core.Path.{◌≡◌, ap, sym, ◌∙◌}
use mir.Syntax.{w32}
use mir.Val.{to_z, of_z}
use Rattle.connector.specs.Orders.{order_number}
use Rattle.calls.specs.Calls.{Sensed, sensed}
use borrow.Author.Rules.{rules}
use Rattle.partition_numbers.proofs.get_sensor.Goals as goal

pub returns-in-Ok : goal.returns-in-Ok
returns-in-Ok c =
    let s = ap sensed (sym c.in-Ok.is) ∙ c.get_sensor.ensures in
    (ap (λ (s : Sensed). order_number s.status) s, ap (λ (s : Sensed). s.value) s)

pub returns-in-Err : goal.returns-in-Err
returns-in-Err c =
    let s = ap sensed (sym c.in-Err.is) ∙ c.get_sensor.ensures in
    let e : to_z w32 (of_z w32 c.from.result) ≡ c.from.result = search rules in
    (e ∙ c.from.ensures ∙ ap (λ (s : Sensed). order_number s.status) s, ap (λ (s : Sensed). s.value) s)
