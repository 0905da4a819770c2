-- `changes_reader::write_entries` meets its contract: the words that are put and those to come add up to all.
use Rattle.std.specs.Prelude.{◌≡◌, ◌+◌, ◌-◌, ◌*◌, ◌≤◌, length}
use Rattle.buffer.specs.Put.{put}
use Rattle.node_changes.specs.Lists.{width}
use Rattle.changes_reader.specs.Reader.{change_words, entries_at}
use Rattle.changes_reader.proofs.write_entries.Given as goal

abbrev pub invariant-loop : goal.invariant-loop
invariant-loop l =
    let left = l.count - l.counter in
    record {
      within : l.at + 4 * (left * width l.kind) ≤ length l.area;
      room : 3 * left ≤ length l.out - l.i;
      long : length l.out ≡ length l.initial.out;
      puts : put l.out l.i (change_words (entries_at l.kind left l.area l.at)) ≡ put l.initial.out l.to (change_words (entries_at l.kind l.count l.area l.from));
    }
