-- `changes_reader::write_list` meets its contract.
use Rattle.std.proofs.Common.{◌≡◌, ◌+◌, ◌*◌, ◌≤◌, refl, sym, ◌∙◌, arith}
use native.Mathlib.Nat.{div-mul-le_self}
use Rattle.words.specs.Bytes.{word_at}
use Rattle.buffer.proofs.Put.{put_in, put-long}
use Rattle.node_changes.specs.Lists.{area_bytes, opcode_of, operands_after, width}
use Rattle.changes_reader.specs.Reader.{change_words, read_area}
use Rattle.changes_reader.specs.Scan.{changes_of}
use Rattle.changes_reader.proofs.Reader.{words_long, put-no-more, next_place, whole-end, next-whole, next-long, next-in, next-put}
use Rattle.changes_reader.proofs.write_list.Goals as goal

pub loop-w-init : goal.loop-w-init
loop-w-init c = record { within = omega arith; whole = c.requires.1; room = omega (arith, words_long (changes_of (read_area c.args.area.now))); long = refl; puts = refl }

pub write_entries-requires : goal.write_entries-requires
write_entries-requires c =
    let area = c.args.area.now in
    let more : word_at area c.loop-w.at ≡ 0 → ⊥ = λ z. c.loop-w-test.true (c.word_at.ensures ∙ z) in
    let long = next-long area c.loop-w.at c.loop-w.invariant.whole more c.word_at-w.ensures in
    let within : next_place c.loop-w.at c.word_at-w.result ≤ area_bytes = omega (arith, c.requires.0, next-in area c.loop-w.at c.loop-w.invariant.whole more c.word_at-w.ensures) in
    rw c.entry_count-n.ensures.0 (
      omega (arith, div-mul-le_self (operands_after c.word_at-w.result) (width (opcode_of c.word_at-w.result))),
      omega (arith, c.loop-w.invariant.room),
    )

pub loop-w-smaller : goal.loop-w-smaller
loop-w-smaller c =
    let area = c.args.area.now in
    let more : word_at area c.loop-w.at ≡ 0 → ⊥ = λ z. c.loop-w-test.true (c.word_at.ensures ∙ z) in
    omega (arith, next-in area c.loop-w.at c.loop-w.invariant.whole more c.word_at-w.ensures)

pub loop-w-preserved : goal.loop-w-preserved
loop-w-preserved c =
    let area = c.args.area.now in
    let i = c.loop-w.invariant in
    let more : word_at area c.loop-w.at ≡ 0 → ⊥ = λ z. c.loop-w-test.true (c.word_at.ensures ∙ z) in
    let w = c.word_at-w.ensures in
    let long = next-long area c.loop-w.at i.whole more w in
    let same = put-long _ _ _ _ c.write_entries.ensures in
    let next : c.loop-w.at + (4 + 4 * c.operands_after.result) ≡ c.loop-w.at + 4 + 4 * c.operands_after.result = omega arith in
    rw (next, c.operands_after.ensures.0, c.entry_count-n.ensures.0)
    (record {
      within = omega (arith, c.requires.0, next-in area c.loop-w.at i.whole more w);
      whole = next-whole area c.loop-w.at i.whole more w;
      room = omega (arith, i.room);
      long = same ∙ i.long;
      puts = next-put area c.loop-w.at i.whole more w c.loop-w.out _ c.loop-w.to (omega (arith, i.room)) (c.write_entries.ensures ∙ rw c.entry_count-n.ensures.0) ∙ i.puts;
    })

pub returns : goal.returns
returns c =
    let area = c.args.area.now in
    sym (put-no-more c.loop-w.out c.loop-w.to _ (whole-end area c.loop-w.at c.loop-w.invariant.whole (sym c.word_at.ensures ∙ c.loop-w-test.false)))
    ∙ c.loop-w.invariant.puts
    ∙ put_in c.args.out.now 0 (change_words (changes_of (read_area area))) (omega (arith, c.requires.2))
