-- `partition::carry` meets its contract.
use Rattle.table.specs.Model.{table_of}
use Rattle.calls.specs.Calls.{order_edits, to_pool}
use Rattle.calls.proofs.Look.{writes-append}
use Rattle.partition.proofs.carry.Goals as goal

pub returns-in-Kept : goal.returns-in-Kept
unfolding order_edits
returns-in-Kept c = rw (c.in-Kept.is)

pub returns-in-Moved : goal.returns-in-Moved
unfolding order_edits
returns-in-Moved c = rw (c.in-Moved.is) c.store.ensures

pub returns-in-Released : goal.returns-in-Released
unfolding order_edits
returns-in-Released c = rw (c.in-Released.is, writes-append _ (to_pool (table_of c.args.t.now) c.args.c.resource.0 c.args.c.index.0) _, ← c.to_pool.ensures) c.store-in-Released.ensures
