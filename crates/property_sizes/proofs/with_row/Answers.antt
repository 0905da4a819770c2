-- `property_sizes::with_row` meets its contract.
use mathlib.Core.Path.{refl, ap, sym, ◌∙◌}
use Prim.Native.Nat.{◌+◌}
use native.Mathlib.Omega.{arith}
use Rattle.table.specs.Layout.{connector_at}
use Rattle.table.proofs.Refine.{connector-read}
use Rattle.property_sizes.specs.Arrays.{is_listed}
use Rattle.property_sizes.proofs.Arrays.{keep-yes, keep-no, added-one, added_none}
use Rattle.property_sizes.proofs.with_row.Goals as goal

pub returns-then-not-is_listed : goal.returns-then-not-is_listed
returns-then-not-is_listed c =
    let a = c.args in
    let no = sym (c.is_listed.ensures ∙ ap (is_listed a.partition) (connector-read a.t.now a.i c.requires.0)) ∙ c.if-not-is_listed.true in
    rw (keep-no (is_listed a.partition) (connector_at a.t.now a.i) no) (added_none a.s)

pub returns : goal.returns
unfolding connector_at
returns c =
    let a = c.args in
    let yes = sym (c.is_listed.ensures ∙ ap (is_listed a.partition) (connector-read a.t.now a.i c.requires.0)) ∙ c.if-not-is_listed.false in
    let name = c.entry_length-name.ensures in
    let text = c.entry_length-text.ensures in
    rw (keep-yes (is_listed a.partition) (connector_at a.t.now a.i) yes)
    (added-one a.s _ (connector_at a.t.now a.i) refl (ap (λ n. a.s.names + n) name.0) (ap (λ n. a.s.types + n) text.0) (omega arith) (omega arith))
