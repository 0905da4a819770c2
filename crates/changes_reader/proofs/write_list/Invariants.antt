-- `changes_reader::write_list` meets its contract: the words that are put and those of the operators to come add up to all.
use Rattle.std.specs.Prelude.{◌≡◌, ◌+◌, ◌-◌, ◌*◌, ◌≤◌, length, IsOk}
use Rattle.buffer.specs.Put.{put}
use Rattle.node_changes.specs.Lists.{area_bytes}
use Rattle.changes_reader.specs.Reader.{change_words, read_area, read_from}
use Rattle.changes_reader.specs.Scan.{changes_of}
use Rattle.changes_reader.proofs.write_list.Given as goal

abbrev pub invariant-loop-w : goal.invariant-loop-w
invariant-loop-w l =
    let cs = changes_of (read_from l.area l.at) in
    record {
      within : l.at ≤ area_bytes;
      whole : IsOk (read_from l.area l.at);
      room : l.to + 3 * length cs ≤ length l.out;
      long : length l.out ≡ length l.initial.out;
      puts : put l.out l.to (change_words cs) ≡ put l.initial.out 0 (change_words (changes_of (read_area l.area)));
    }

abbrev pub decreases-loop-w : goal.decreases-loop-w
decreases-loop-w l = length l.area - l.at
