use borrow.Author.Rules.{rules}
use Prim.Native.Nat.{◌+◌}
use mathlib.Core.Path.{◌≡◌, refl, ap, sym, ◌∙◌}
use native.Mathlib.Omega.{arith}
use lib.Count.{count_trailing_zeros, trailing_le}
use lib.ListN.{drop_of_length-le}
use Rattle.words.specs.Pick.{pick}
use Rattle.table.specs.Model.{table_of}
use Rattle.table.proofs.Refine.{length-ledger}
use Rattle.pool.specs.Pool.{block, is_free, number_from, free_lowest}
use Rattle.pool.proofs.Masks.{block-lowest, block_none}
use Rattle.pool.proofs.free_lowest.Goals as goal

pub returns-then-not-known : goal.returns-then-not-known
unfolding free_lowest pick
returns-then-not-known c = rw (sym c.known.ensures ∙ c.if-not-known.true)

pub loop-start-init : goal.loop-start-init
loop-start-init c = (omega (arith, length-ledger c.args.t.now), refl, refl)

pub overflow_add-number : goal.overflow_add-number
overflow_add-number c = omega (arith, trailing_le 64 c.mask-m.result)

pub overflow_add-number-then-m-ne0 : goal.overflow_add-number-then-m-ne0
overflow_add-number-then-m-ne0 c = omega (arith, trailing_le 64 c.mask-m.result)

pub returns-then-m-ne0 : goal.returns-then-m-ne0
unfolding free_lowest pick
returns-then-m-ne0 c =
    let a = c.args in
    let k = sym c.known.ensures ∙ c.if-not-known.false in
    let e = block-lowest (is_free a.kind) c.loop-start.start block (c.loop-start.start + 1) (table_of a.t.now).ledger (λ z. c.if-m-ne0.true (c.mask-m.ensures ∙ z)) in
    rw k (omega (arith, e, ap (count_trailing_zeros 64) c.mask-m.ensures, c.loop-start.invariant.2))

pub loop-start-preserved : goal.loop-start-preserved
loop-start-preserved c =
    let a = c.args in
    let z : c.loop-start.start + 64 + 1 ≡ c.loop-start.start + 1 + 64 = omega arith in
    (search rules, omega arith, rw z (sym (block_none (is_free a.kind) c.loop-start.start block (c.loop-start.start + 1) (table_of a.t.now).ledger (sym c.mask-m.ensures ∙ c.if-m-ne0.false)) ∙ c.loop-start.invariant.2))

pub returns : goal.returns
unfolding free_lowest number_from pick
returns c =
    let a = c.args in
    let k = sym c.known.ensures ∙ c.if-not-known.false in
    let z = drop_of_length-le (table_of a.t.now).ledger {i = c.loop-start.start} (omega arith) in
    rw k (rw z at c.loop-start.invariant.2)
