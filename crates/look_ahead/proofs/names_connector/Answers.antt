-- `look_ahead::names_connector` meets its contract.
use mathlib.Core.Path.{◌≡◌, sym, ap, ◌∙◌}
use mathlib.Core.Bool.{false≢true}
use Prim.Native.Nat.{min, ◌-◌}
use native.Mathlib.Omega.{arith}
use lib.ListN.{length}
use borrow.Author.Tests.{ne_eqb, eqb-true, eqb-false}
use Rattle.words.specs.Bytes.{part}
use Rattle.buffer.proofs.Put.{part-size, part-least}
use Rattle.devtree.specs.Names.{same_name}
use Rattle.sent.specs.Sent.{my_drc_index}
use Rattle.look_ahead.proofs.Names.{other-size, other_length, by_name}
use Rattle.look_ahead.proofs.names_connector.Goals as goal
use Rattle.look_ahead.proofs.names_connector.Goals.{then-size-eq4, else-size-eq4}

pub returns-then-min-eq16 : goal.returns-then-min-eq16
returns-then-min-eq16 c =
    let a = c.args in
    elim c.if-size-eq4.branch [
      | then-size-eq4 w ↦
          let whole : 16 ≡ min a.n (length a.strings.now - a.name) = sym (eqb-true _ _ (sym w.value-is ∙ c.if-min-eq16.true)) ∙ omega (arith, w.min.ensures, w.room.ensures) in
          c.is_index_name.ensures
          ∙ ap (λ x. same_name x my_drc_index) (ap (part a.strings.now a.name) whole ∙ part-least a.strings.now a.name a.n)
          ∙ sym (by_name (part a.strings.now a.name a.n) a.size w.if-size-eq4.true)
      | else-size-eq4 w ↦ absurd (false≢true (sym (ne_eqb _ _ w.if-size-eq4.false) ∙ sym w.value-is ∙ c.if-min-eq16.true))
    ]

pub returns-else-min-eq16 : goal.returns-else-min-eq16
returns-else-min-eq16 c =
    let a = c.args in
    c.if-min-eq16.false
    ∙ elim c.if-size-eq4.branch [
      | then-size-eq4 w ↦
          let other = eqb-false _ _ (sym w.value-is ∙ c.if-min-eq16.false) in
          sym (other_length (part a.strings.now a.name a.n) a.size (λ e. other (omega (arith, w.min.ensures, w.room.ensures, part-size a.strings.now a.name a.n, e))))
      | else-size-eq4 w ↦ sym (other-size (part a.strings.now a.name a.n) a.size w.if-size-eq4.false)
    ]
