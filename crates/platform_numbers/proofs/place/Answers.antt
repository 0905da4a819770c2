-- `platform_numbers::place` meets its contract.
use mathlib.Core.Path.{◌≡◌, ap, ◌∙◌}
use mir.Syntax.{w32}
use mir.Val.{to_z, of_z}
use Rattle.call_status.specs.Status.{call_number}
use borrow.Author.Rules.{rules}
use Rattle.platform_numbers.proofs.place.Goals as goal

pub returns : goal.returns
returns c =
    let e : to_z w32 (of_z w32 c.status_number.result) ≡ c.status_number.result = search rules in
    (e ∙ c.status_number.ensures ∙ ap call_number c.place-s.ensures.0, c.place-s.ensures.1)
