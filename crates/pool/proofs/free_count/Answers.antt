use borrow.Author.Rules.{rules}
use Prim.Native.Nat.{◌+◌}
use mathlib.Core.Path.{◌≡◌, refl, sym, ◌∙◌}
use native.Mathlib.Omega.{arith}
use lib.Count.{ones}
use lib.ListN.{drop, drop_of_length-le}
use Rattle.words.specs.Pick.{pick}
use Rattle.table.specs.Model.{table_of}
use Rattle.table.proofs.Refine.{length-ledger}
use Rattle.pool.specs.Pool.{block, is_free, how_many, free_count}
use Rattle.pool.proofs.Masks.{block-count, how_many-most}
use Rattle.pool.proofs.free_count.Goals as goal

pub returns-then-not-known : goal.returns-then-not-known
unfolding free_count pick
returns-then-not-known c = rw (sym c.known.ensures ∙ c.if-not-known.true)

pub loop-start-init : goal.loop-start-init
loop-start-init c = (omega (arith, length-ledger c.args.t.now), refl, omega arith)

pub overflow_add-n : goal.overflow_add-n
overflow_add-n c =
    let a = c.args in
    omega (
      arith,
      (let it : (let a = c.args in how_many (is_free a.kind) (drop c.loop-start.start (table_of a.t.now).ledger) ≡ ones c.mask.result + how_many (is_free a.kind) (drop (c.loop-start.start + block) (table_of a.t.now).ledger)) = let a = c.args in
          rw c.mask.ensures (block-count (is_free a.kind) c.loop-start.start block (table_of a.t.now).ledger) in it),
      c.loop-start.invariant.2,
      how_many-most (is_free a.kind) (table_of a.t.now).ledger,
      length-ledger a.t.now,
    )

pub loop-start-preserved : goal.loop-start-preserved
loop-start-preserved c = (
  search rules,
  omega arith,
  omega (
    arith,
    (let it : (let a = c.args in how_many (is_free a.kind) (drop c.loop-start.start (table_of a.t.now).ledger) ≡ ones c.mask.result + how_many (is_free a.kind) (drop (c.loop-start.start + block) (table_of a.t.now).ledger)) = let a = c.args in
        rw c.mask.ensures (block-count (is_free a.kind) c.loop-start.start block (table_of a.t.now).ledger) in it),
    c.loop-start.invariant.2,
  ),
)

pub returns : goal.returns
unfolding free_count how_many pick
returns c =
    let a = c.args in
    let k = sym c.known.ensures ∙ c.if-not-known.false in
    let z = drop_of_length-le (table_of a.t.now).ledger {i = c.loop-start.start} (omega arith) in
    rw k (omega (arith, rw z at c.loop-start.invariant.2))
