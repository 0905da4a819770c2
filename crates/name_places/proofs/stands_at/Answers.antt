-- `name_places::stands_at` meets its contract.
use mathlib.Core.Path.{sym, ap, ◌∙◌}
use native.Mathlib.Omega.{arith}
use lib.ListN.{length, length-drop}
use borrow.Author.Tests.{ltb-true}
use Rattle.std.proofs.lemmas.List.{take_rest}
use Rattle.words.specs.Pick.{pick}
use Rattle.name_places.proofs.Places.{stands-rest, stands-short}
use Rattle.name_places.proofs.stands_at.Goals as goal
use Rattle.name_places.proofs.stands_at.Goals.{then-n-rest, else-n-rest}

pub returns-then-eq : goal.returns-then-eq
unfolding pick
returns-then-eq c =
    let a = c.args in
    elim c.if-n-rest.branch [
      | then-n-rest w ↦ rw (stands-rest a.name.now a.used.now a.p _ (take_rest a.used.now a.p) w.if-n-rest.true, ← w.eq.ensures, ← w.value-is, c.if-eq.true)
      | else-n-rest w ↦ absurd (omega (arith, ltb-true _ _ (sym w.value-is ∙ c.if-eq.true)))
    ]

pub returns-else-eq : goal.returns-else-eq
unfolding pick
returns-else-eq c =
    let a = c.args in
    elim c.if-n-rest.branch [
      | then-n-rest w ↦ rw (stands-rest a.name.now a.used.now a.p _ (take_rest a.used.now a.p) w.if-n-rest.true, ← w.eq.ensures, ← w.value-is, c.if-eq.false)
      | else-n-rest w ↦ c.if-eq.false ∙ sym (stands-short a.name.now a.used.now a.p (omega (arith, length-drop a.p a.used.now, ap length (take_rest a.used.now a.p))))
    ]
