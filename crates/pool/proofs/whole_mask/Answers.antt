-- `pool::whole_mask` meets its contract: two halves.
use Rattle.table.specs.Layout.{line_at}
use Rattle.pool.specs.Pool.{is_free}
use Rattle.pool.proofs.Lines.{mask-rows}
use Rattle.pool.proofs.whole_mask.Goals as goal

pub returns : goal.returns
returns c =
    let a = c.args in
    rw (c.half_mask-low.ensures, c.half_mask-high.ensures, mask-rows (is_free a.kind) (line_at a.t.now) 32 32 a.start)
