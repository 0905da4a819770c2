-- `changes_reader::read_updates` meets its contract.
use Rattle.std.proofs.Common.{refl, sym, ◌∙◌, arith}
use Rattle.changes_reader.specs.Reader.{read_area}
use Rattle.changes_reader.proofs.Reader.{words_long, found-changes, no_room, all_written}
use Rattle.changes_reader.proofs.read_updates.Goals as goal

pub returns-then-out-words : goal.returns-then-out-words
returns-then-out-words c =
    let t = found-changes (read_area c.args.area.now) _ (sym c.in_ok-words.was ∙ c.scan_lists.ensures.count) in
    no_room c.args.area.now c.args.out.now c.if-area-ne-AREA_BYTES.false t.0 t.1 (omega (arith, t.2, words_long t.0))

pub write_list-requires : goal.write_list-requires
write_list-requires c =
    let t = found-changes (read_area c.args.area.now) _ (sym c.in_ok-words.was ∙ c.scan_lists.ensures.count) in
    rw t.1 (c.if-area-ne-AREA_BYTES.false, refl, omega (arith, t.2, words_long t.0))

pub returns : goal.returns
returns c =
    let t = found-changes (read_area c.args.area.now) _ (sym c.in_ok-words.was ∙ c.scan_lists.ensures.count) in
    all_written c.args.area.now c.args.out.now _ c.if-area-ne-AREA_BYTES.false t.0 t.1 _ t.2 c.if-out-words.false c.write_list.ensures
