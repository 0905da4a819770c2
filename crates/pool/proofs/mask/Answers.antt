-- `pool::mask` meets its contract: of a block that is not whole, the bits of the lines in use.
use Prim.Native.Nat.{◌-◌, min}
use mathlib.Core.Path.{◌≡◌, ap, sym, ◌∙◌}
use native.Mathlib.Omega.{arith}
use lib.ListN.{length}
use lib.Pow.{pow_pos}
use Rattle.table.specs.Layout.{line_at}
use Rattle.table.specs.Model.{rows, table_of}
use Rattle.pool.specs.Pool.{block, is_free, mask_of}
use Rattle.pool.proofs.Lines.{bit-shift, lines_from, mask_first}
use Rattle.pool.proofs.mask.Goals as goal

pub returns-then-n-ge-BLOCK : goal.returns-then-n-ge-BLOCK
returns-then-n-ge-BLOCK c =
    let a = c.args in
    let t = a.t.now in
    let e : min block (length (table_of t).ledger - a.start) ≡ block = omega arith in
    c.whole_mask-m.ensures ∙ sym (ap (mask_of (is_free a.kind)) (lines_from t block a.start ∙ ap (rows (line_at t) a.start) e))

pub nonzero_rem-result : goal.nonzero_rem-result
nonzero_rem-result c =
    let n = c.block_length-n.result in
    rw (bit-shift n (omega arith)) (pow_pos n)

pub returns : goal.returns
returns c =
    let a = c.args in
    let t = a.t.now in
    let n = c.block_length-n.result in
    let e : n ≡ min block (length (table_of t).ledger - a.start) = c.block_length-n.ensures in
    rw (bit-shift n (omega arith), c.whole_mask-m.ensures, lines_from t block a.start, ← e)
    (mask_first (is_free a.kind) (line_at t) n block a.start (omega arith))
