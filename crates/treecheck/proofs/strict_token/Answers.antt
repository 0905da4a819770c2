-- `treecheck::strict_token` meets its contract. Padding lies between a name or a value and the next token.
use mathlib.Core.Path.{sym, ◌∙◌}
use Prim.Native.Nat.{◌+◌, ◌<◌, ◌≤◌}
use native.Mathlib.Omega.{arith}
use lib.ListN.{length}
use borrow.Enum.Refused.{opened}
use Rattle.words.specs.Pick.{pick}
use Rattle.devtree.specs.Check.{clean}
use Rattle.devtree.proofs.Tokens.{lies}
use Rattle.treecheck.specs.Scan.{strict, strict_at}
use Rattle.treecheck.proofs.Scan.{strict_other}
use Rattle.treecheck.proofs.strict_token.Goals as goal
use Rattle.treecheck.proofs.strict_token.Goals.{In-Begin, In-Property}

-- where a name and the token end
named : (c : In-Begin) → (c.in-Begin.name_at + c.in-Begin.name_len < c.in-Begin.next) × (c.in-Begin.next ≤ length c.args.s.now)
named c =
    let a = c.args in
    let w = lies a.s.now a.strings.now a.at _ (sym c.read_token-t.ensures ∙ c.in-Begin.is) in
    omega arith

-- where a value and the token end
valued : (c : In-Property) → (c.in-Property.value_at + c.in-Property.value_len ≤ c.in-Property.next) × (c.in-Property.next ≤ length c.args.s.now)
valued c =
    let a = c.args in
    let w = lies a.s.now a.strings.now a.at _ (sym c.read_token-t.ensures ∙ c.in-Property.is) in
    omega arith

pub overflow_add-end : goal.overflow_add-end
overflow_add-end c = let w = named (goal.at.overflow_add-end c).In-Begin in omega arith

pub overflow_sub-next : goal.overflow_sub-next
overflow_sub-next c = let w = named (goal.at.overflow_sub-next c).In-Begin in omega arith

pub overflow_add-end-in-Property : goal.overflow_add-end-in-Property
overflow_add-end-in-Property c = let w = valued (goal.at.overflow_add-end-in-Property c).In-Property in omega arith

pub overflow_sub-next-in-Property : goal.overflow_sub-next-in-Property
overflow_sub-next-in-Property c = let w = valued (goal.at.overflow_sub-next-in-Property c).In-Property in omega arith

pub returns-then-zero_at : goal.returns-then-zero_at
unfolding strict_at strict clean pick
returns-then-zero_at c = simp (← c.read_token-t.ensures, c.in-Begin.is, ← c.zero_at.ensures, c.if-zero_at.true)

pub returns-else-zero_at : goal.returns-else-zero_at
unfolding strict_at strict clean pick
returns-else-zero_at c = simp (← c.read_token-t.ensures, c.in-Begin.is, ← c.zero_at.ensures, c.if-zero_at.false)

pub returns-then-zero_at-2 : goal.returns-then-zero_at-2
unfolding strict_at strict clean pick
returns-then-zero_at-2 c = simp (← c.read_token-t.ensures, c.in-Property.is, ← c.zero_at-in-Property.ensures, c.if-zero_at-2.true)

pub returns-else-zero_at-2 : goal.returns-else-zero_at-2
unfolding strict_at strict clean pick
returns-else-zero_at-2 c = simp (← c.read_token-t.ensures, c.in-Property.is, ← c.zero_at-in-Property.ensures, c.if-zero_at-2.false)

pub returns-in_default : goal.returns-in_default
unfolding strict_at
returns-in_default c = rw (← c.read_token-t.ensures) (sym (strict_other c.args.s.now c.read_token-t.result (opened c.in_default.in_default-own.keys3)))
