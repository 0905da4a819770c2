-- `memory_expanding::block_after` meets its contract.
use Rattle.std.proofs.Common.{◌≡◌, None, arith, rules, refl, ap, ◌∙◌}
use Rattle.memory_lists.specs.Blocks.{block_of}
use Rattle.memory_lists.proofs.Blocks.{same_block}
use Rattle.memory_expanding.specs.Expanding.{block_after, leaves}
use Rattle.memory_expanding.proofs.Expanding.{stays, far, high}
use Rattle.memory_expanding.proofs.block_after.Goals as goal

pub returns-in_err-far : goal.returns-in_err-far
returns-in_err-far c =
    let e : c.from_residual.result ≡ None = search rules in
    let h = rw (c.in_err-far.was, c.from.ensures) at c.checked_mul.ensures in
    rw e (far (block_after c.args.size c.args.n c.args.first) (omega (arith, h)))

pub returns-in_err-checked_add : goal.returns-in_err-checked_add
returns-in_err-checked_add c =
    let e : c.from_residual-in_err-checked_add.result ≡ None = search rules in
    let f = rw (c.in_ok-far.was, c.from.ensures) at c.checked_mul.ensures in
    let h = rw c.in_err-checked_add.was at c.checked_add.ensures in
    rw e (far (block_after c.args.size c.args.n c.args.first) (omega (arith, h, f.1)))

pub returns-in_err-checked_add-2 : goal.returns-in_err-checked_add-2
returns-in_err-checked_add-2 c =
    let e : c.from_residual-in_err-checked_add-2.result ≡ None = search rules in
    let h = rw c.in_err-checked_add-2.was at c.checked_add-2.ensures in
    rw e (high (block_after c.args.size c.args.n c.args.first) (omega (arith, h)))

pub returns : goal.returns
returns c =
    let f = rw (c.in_ok-far.was, c.from.ensures) at c.checked_mul.ensures in
    let address = rw c.in_ok-checked_add.was at c.checked_add.ensures in
    let index = rw c.in_ok-checked_add-2.was at c.checked_add-2.ensures in
    let b = c.args.first in
    let same : block_of c.in_ok-checked_add.field-0 c.in_ok-checked_add-2.field-0 b.associativity b.flags ≡ block_after c.args.size c.args.n b = same_block (omega (arith, address.1, f.1)) index.1 refl refl in
    (same, ap leaves same ∙ stays (block_after c.args.size c.args.n b) (omega (arith, address.0, f.1)) index.0)
