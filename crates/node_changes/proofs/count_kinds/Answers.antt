-- `node_changes::count_kinds` meets its contract.
use Rattle.std.proofs.Common.{◌≡◌, ◌/◌, length, arith}
use Rattle.node_changes.specs.Changes.{delete, update, add, changes_in, tally_of}
use Rattle.node_changes.proofs.Changes.{counted-more, counted-all, kinds-most, length-changes}
use Rattle.node_changes.proofs.count_kinds.Goals as goal

pub overflow_add-t : goal.overflow_add-t
overflow_add-t c = let ws = c.args.changes.now in omega (arith, kinds-most (changes_in ws), length-changes ws, c.loop-change.invariant.deletes)

pub overflow_add-t-in-loop-change : goal.overflow_add-t-in-loop-change
overflow_add-t-in-loop-change c = let ws = c.args.changes.now in omega (arith, kinds-most (changes_in ws), length-changes ws, c.loop-change.invariant.updates)

pub overflow_add-t-in-loop-change-2 : goal.overflow_add-t-in-loop-change-2
overflow_add-t-in-loop-change-2 c = let ws = c.args.changes.now in omega (arith, kinds-most (changes_in ws), length-changes ws, c.loop-change.invariant.adds)

pub loop-change-preserved : goal.loop-change-preserved
loop-change-preserved c =
    let i = c.loop-change.invariant in
    let es = c.as_chunks.ensures in
    let next = counted-more c.args.changes.now _ c.as_chunks.result.0.now c.loop-change.change-index in
    record {
      deletes = next _ delete _ es.front es.front_len c.loop-change-test.true c.one_of.ensures.0 i.deletes;
      updates = next _ update _ es.front es.front_len c.loop-change-test.true c.one_of-in-loop-change.ensures.0 i.updates;
      adds = next _ add _ es.front es.front_len c.loop-change-test.true c.one_of-in-loop-change-2.ensures.0 i.adds;
    }

pub returns : goal.returns
unfolding tally_of
returns c =
    let ws = c.args.changes.now in
    let i = c.loop-change.invariant in
    let n = c.loop-change.change-index in
    let all : n ≡ length ws / 3 = omega (arith, c.as_chunks.ensures.front_len) in
    rw (← counted-all ws n _ delete all i.deletes, ← counted-all ws n _ update all i.updates, ← counted-all ws n _ add all i.adds)
