-- `treecheck::strict_begin` meets its contract.
use mathlib.Core.Path.{◌≡◌, sym, ap, ◌∙◌}
use mathlib.Core.Bool.{Bool}
use native.Mathlib.Omega.{arith}
use Prim.Native.Nat.{◌+◌, ◌≤◌}
use lib.ListN.{length}
use Rattle.std.specs.Bool.{then_some}
use Rattle.devtree.specs.Tokens.{up4}
use Rattle.devtree.proofs.Here.{begin-read, begin-space}
use Rattle.treecheck.proofs.Past.{strict-begin, no-strict-begin}
use Rattle.treecheck.proofs.strict_begin.Goals as goal
use Rattle.treecheck.proofs.strict_begin.Goals.{In_ok-next}

-- where the token ends
space : (c : In_ok-next) → (c.in_ok-next.next ≡ c.args.at + 4 + up4 (c.args.n + 1)) × (c.in_ok-next.next ≤ length c.args.s.now)
space c = rw c.requires.1 (begin-space c.args.s.now c.args.at _ c.requires.0 (sym (c.past_begin.ensures ∙ begin-read _ _ _ c.requires.1) ∙ c.in_ok-next.was))

pub returns-in_err-next : goal.returns-in_err-next
returns-in_err-next c = c.from_residual.ensures ∙ sym (no-strict-begin c.args.s.now c.args.at (sym (c.past_begin.ensures ∙ begin-read _ _ _ c.requires.1) ∙ c.in_err-next.was))

pub overflow_add-at-2 : goal.overflow_add-at-2
overflow_add-at-2 c = let w = space (goal.at.overflow_add-at-2 c).In_ok-next in omega arith

pub overflow_sub-next : goal.overflow_sub-next
overflow_sub-next c = let w = space (goal.at.overflow_sub-next c).In_ok-next in omega arith

pub zero_before-requires : goal.zero_before-requires
zero_before-requires c = let w = space (goal.at.zero_before-requires c).In_ok-next in (omega arith, omega arith, w.1)

pub returns : goal.returns
returns c =
    let w = space (goal.at.returns c).In_ok-next in
    c.then_some.ensures ∙ ap (λ (b : Bool). then_some b c.in_ok-next.next) c.zero_before.ensures
    ∙ sym (strict-begin c.args.s.now c.args.at c.args.n c.in_ok-next.next c.requires.1 (sym (c.past_begin.ensures ∙ begin-read _ _ _ c.requires.1) ∙ c.in_ok-next.was) (omega arith))
