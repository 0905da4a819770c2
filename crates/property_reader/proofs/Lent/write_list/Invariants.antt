-- `property_reader::Lent::write_list` meets its contract: what is put and the entries to come add up to the list.
use mathlib.Core.Path.{◌≡◌}
use mathlib.Core.Bool.{false}
use Prim.Native.Nat.{◌+◌, ◌-◌, ◌*◌, ◌≤◌}
use lib.ListN.{length}
use Rattle.buffer.specs.Put.{put}
use Rattle.property_texts.specs.Texts.{past_texts, unknown_in}
use Rattle.property_reader.specs.Reader.{list_from}
use Rattle.property_reader.proofs.Lent.write_list.Given as goal

abbrev pub invariant-loop-i : goal.invariant-loop-i
invariant-loop-i l =
    let left = l.n - l.i in
    record {
      ended : past_texts left l.self.types.now l.text ≤ length l.self.types.now;
      are_known : unknown_in left l.self.types.now l.text ≡ false;
      written : put l.out (12 * l.i) (list_from l.self.indexes.now l.self.domains.now l.self.types.now left (4 + 4 * l.i) l.text) ≡ put l.initial.out 0 (list_from l.self.indexes.now l.self.domains.now l.self.types.now l.n 4 4);
    }
