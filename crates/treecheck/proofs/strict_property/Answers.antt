-- `treecheck::strict_property` meets its contract.
use mathlib.Core.Path.{◌≡◌, sym, ap, ◌∙◌}
use mathlib.Core.Bool.{Bool}
use native.Mathlib.Omega.{arith}
use Prim.Native.Nat.{◌+◌, ◌≤◌}
use lib.ListN.{length}
use Rattle.std.specs.Bool.{then_some}
use Rattle.words.specs.Bytes.{word_at}
use Rattle.devtree.specs.Tokens.{up4}
use Rattle.devtree.proofs.Here.{property-read, property-space}
use Rattle.treecheck.proofs.Past.{strict-property, no-strict-property}
use Rattle.treecheck.proofs.strict_property.Goals as goal
use Rattle.treecheck.proofs.strict_property.Goals.{In_ok-next}

-- where the token ends
space : (c : In_ok-next) → (c.in_ok-next.next ≡ c.args.at + 12 + up4 (word_at c.args.s.now (c.args.at + 4))) × (c.in_ok-next.next ≤ length c.args.s.now)
space c = property-space c.args.s.now c.args.strings.now c.args.at _ (sym (c.past_property.ensures ∙ property-read _ _ _ _ _ c.requires.0 c.requires.1) ∙ c.in_ok-next.was)

pub returns-in_err-next : goal.returns-in_err-next
returns-in_err-next c = c.from_residual.ensures ∙ sym (no-strict-property c.args.s.now c.args.strings.now c.args.at (sym (c.past_property.ensures ∙ property-read _ _ _ _ _ c.requires.0 c.requires.1) ∙ c.in_err-next.was))

pub overflow_add-at : goal.overflow_add-at
overflow_add-at c = let w = space (goal.at.overflow_add-at c).In_ok-next in omega arith

pub overflow_add-at-2 : goal.overflow_add-at-2
overflow_add-at-2 c = let w = space (goal.at.overflow_add-at-2 c).In_ok-next in omega arith

pub overflow_add-at-3 : goal.overflow_add-at-3
overflow_add-at-3 c = let w = space (goal.at.overflow_add-at-3 c).In_ok-next in omega (arith, c.word_at-len.ensures)

pub overflow_sub-next : goal.overflow_sub-next
overflow_sub-next c = let w = space (goal.at.overflow_sub-next c).In_ok-next in omega (arith, c.word_at-len.ensures)

pub zero_before-requires : goal.zero_before-requires
zero_before-requires c = let w = space (goal.at.zero_before-requires c).In_ok-next in (omega (arith, c.word_at-len.ensures), omega (arith, c.word_at-len.ensures), w.1)

pub returns : goal.returns
returns c =
    let w = space (goal.at.returns c).In_ok-next in
    c.then_some.ensures ∙ ap (λ (b : Bool). then_some b c.in_ok-next.next) c.zero_before.ensures
    ∙ sym (strict-property c.args.s.now c.args.strings.now c.args.at c.word_at-len.result c.in_ok-next.next c.word_at-len.ensures (sym (c.past_property.ensures ∙ property-read _ _ _ _ _ c.requires.0 c.requires.1) ∙ c.in_ok-next.was) (omega (arith, c.word_at-len.ensures)))
