-- `node_changes::count_kinds` meets its contract: what is counted and the changes to come add up to all of each kind.
use Rattle.node_changes.specs.Changes.{delete, update, add}
use Rattle.node_changes.proofs.Changes.{Counted}
use Rattle.node_changes.proofs.count_kinds.Given as goal

abbrev pub invariant-loop-change : goal.invariant-loop-change
invariant-loop-change l =
    record {
      deletes : Counted l.changes l.change-index l.t.deletes delete;
      updates : Counted l.changes l.change-index l.t.updates update;
      adds : Counted l.changes l.change-index l.t.adds add;
    }
