-- `changes_reader::write_entries` meets its contract.
use Rattle.std.proofs.Common.{◌≡◌, ◌<◌, ◌-◌, ◌+◌, ◌*◌, ◌≤◌, length, sym, ◌∙◌, arith}
use Rattle.buffer.proofs.Put.{put-long}
use Rattle.node_changes.specs.Lists.{width}
use Rattle.changes_reader.proofs.Reader.{put-no-more, entries_none, put-entry, rest-fits, node-inside, index-inside}
use Rattle.changes_reader.proofs.write_entries.Goals as goal

pub slice_bounds-entry-end : goal.slice_bounds-entry-end
slice_bounds-entry-end c =
    let a = c.args in
    omega (arith, c.operand_count-step.ensures.0, rest-fits c.loop.at (a.count - c.loop.counter) (width a.kind) (length a.area.now) (omega arith) c.loop.invariant.within)

pub loop-preserved : goal.loop-preserved
loop-preserved c =
    let a = c.args in
    let i = c.loop.invariant in
    let n = a.count - c.loop.counter in
    let some : 0 < n = omega arith in
    let less : a.count - (c.loop.counter + 1) ≡ n - 1 = omega arith in
    let fits = rest-fits c.loop.at n (width a.kind) (length a.area.now) some i.within in
    let here : c.loop.at + 4 * width a.kind ≤ length a.area.now = omega (arith, fits) in
    let long : c.loop.at + 4 * c.operand_count-step.result - c.loop.at ≡ 4 * width a.kind = omega (arith, c.operand_count-step.ensures.0) in
    let node = c.word_at.ensures ∙ node-inside a.kind a.area.now c.loop.at _ here long in
    let index = c.index_at.ensures ∙ index-inside a.kind a.area.now c.loop.at _ here long in
    rw (less, c.operand_count-step.ensures.0)
    (record {
      within = fits;
      room = omega (arith, i.room, put-long _ _ _ _ c.put_change.ensures);
      long = put-long _ _ _ _ c.put_change.ensures ∙ i.long;
      puts = put-entry a.kind a.area.now c.loop.at c.loop.out _ c.loop.i n _ _ some i.room node index c.put_change.ensures ∙ i.puts;
    })

pub returns : goal.returns
returns c =
    let a = c.args in
    sym (put-no-more c.loop.out c.loop.i _ (entries_none a.kind a.area.now c.loop.at (a.count - c.loop.counter) (omega arith))) ∙ c.loop.invariant.puts
