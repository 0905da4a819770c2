-- `adding::add_connector_status` meets its contract: each test of the code decides one of the definition's.
use borrow.Author.Tests.{le-leb, lt-leb}
use mathlib.Core.Path.{◌≡◌, sym, ◌∙◌}
use mathlib.Core.Bool.{true, false}
use Rattle.kinds.specs.Kinds.{kind_fits}
use Rattle.table.specs.Model.{table_of, has_index}
use Rattle.words.specs.Pick.{pick, every, any}
use Rattle.calls.specs.Calls.{parent_fits, add_connector_status}
use Rattle.calls.proofs.Look.{index-used, index-free}
use Rattle.adding.proofs.add_connector_status.Goals as goal
use Rattle.adding.proofs.add_connector_status.Goals.{Else-not-kind_fits, Else-find-count, Else-not-parent_fits, then-partition-lt1-via-then-partition-lt1, then-partition-lt1-via-else-partition-lt1+then-partition-gt-PARTITIONS}

-- ---- what each place of the code knows

-- the index's kind is the kind
kind_ok : (c : Else-not-kind_fits) → kind_fits c.args.kind c.args.k.0 ≡ true
kind_ok c = sym c.kind_fits.ensures ∙ c.if-not-kind_fits.false

-- no connector has the index
index_ok : (c : Else-find-count) → any (has_index c.args.k.0) (table_of c.args.t.now).connectors ≡ false
index_ok c = index-free (table_of c.args.t.now) c.args.k.0 c.find.result c.count.result c.find.ensures c.count.ensures c.if-find-count.false

parent-ok : (c : Else-not-parent_fits) → parent_fits (table_of c.args.t.now) c.args.kind c.args.partition c.args.parent.0 ≡ true
parent-ok c = sym c.parent_fits.ensures ∙ c.if-not-parent_fits.false

-- ---- the goals

pub returns-then-not-kind_fits : goal.returns-then-not-kind_fits
unfolding add_connector_status pick
returns-then-not-kind_fits c = simp (sym c.kind_fits.ensures ∙ c.if-not-kind_fits.true)

pub returns-then-find-count : goal.returns-then-find-count
unfolding add_connector_status pick
returns-then-find-count c =
    let at = goal.at.returns-then-find-count c in
    simp (kind_ok at.Else-not-kind_fits, index-used (table_of c.args.t.now) c.args.k.0 c.find.result c.count.result c.find.ensures c.count.ensures c.if-find-count.true)

pub returns-then-partition-lt1 : goal.returns-then-partition-lt1
unfolding add_connector_status every pick
returns-then-partition-lt1 c =
    let at = goal.at.returns-then-partition-lt1 c in
    elim c.then-partition-lt1.branch [
      | then-partition-lt1-via-then-partition-lt1 w ↦ simp (kind_ok at.Else-not-kind_fits, index_ok at.Else-find-count, lt-leb _ _ w.if-partition-lt1.true)
      | then-partition-lt1-via-else-partition-lt1+then-partition-gt-PARTITIONS w ↦ simp (kind_ok at.Else-not-kind_fits, index_ok at.Else-find-count, le-leb _ _ w.if-partition-lt1.false, lt-leb _ _ w.if-partition-gt-PARTITIONS.true)
    ]

pub returns-then-not-parent_fits : goal.returns-then-not-parent_fits
unfolding add_connector_status every pick
returns-then-not-parent_fits c =
    let at = goal.at.returns-then-not-parent_fits c in
    simp (
      kind_ok at.Else-not-kind_fits,
      index_ok at.Else-find-count,
      le-leb _ _ c.if-partition-lt1.false,
      le-leb _ _ c.if-partition-gt-PARTITIONS.false,
      sym c.parent_fits.ensures ∙ c.if-not-parent_fits.true,
    )

pub returns-then-count-ge-CONNECTORS : goal.returns-then-count-ge-CONNECTORS
unfolding add_connector_status every pick
returns-then-count-ge-CONNECTORS c =
    let at = goal.at.returns-then-count-ge-CONNECTORS c in
    simp (
      kind_ok at.Else-not-kind_fits,
      index_ok at.Else-find-count,
      le-leb _ _ c.if-partition-lt1.false,
      le-leb _ _ c.if-partition-gt-PARTITIONS.false,
      parent-ok at.Else-not-parent_fits,
      ← c.count-2.ensures,
      le-leb _ _ c.if-count-ge-CONNECTORS.true,
    )

pub returns : goal.returns
unfolding add_connector_status every pick
returns c =
    let at = goal.at.returns c in
    simp (
      kind_ok at.Else-not-kind_fits,
      index_ok at.Else-find-count,
      le-leb _ _ c.if-partition-lt1.false,
      le-leb _ _ c.if-partition-gt-PARTITIONS.false,
      parent-ok at.Else-not-parent_fits,
      ← c.count-2.ensures,
      lt-leb _ _ c.if-count-ge-CONNECTORS.false,
    )
