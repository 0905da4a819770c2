-- `changes_writer::is_sound` meets its contract: the tests in its order.
use Rattle.std.proofs.Common.{arith}
use Rattle.std.proofs.lemmas.Grind.{common_steps}
use Rattle.words.specs.Pick.{pick, every}
use Rattle.node_changes.proofs.Changes.{length-changes}
use Rattle.changes_writer.specs.Writer.{is_sound}
use Rattle.changes_writer.proofs.is_sound.Goals as goal

pub returns-then-work-eq-AREA_BYTES : goal.returns-then-work-eq-AREA_BYTES
unfolding is_sound every pick
returns-then-work-eq-AREA_BYTES c = rw (length-changes c.args.changes.now) (grind (arith, common_steps))

pub returns-else-work-eq-AREA_BYTES : goal.returns-else-work-eq-AREA_BYTES
unfolding is_sound every pick
returns-else-work-eq-AREA_BYTES c = rw (length-changes c.args.changes.now) (grind (arith, common_steps))
