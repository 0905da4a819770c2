use mathlib.Core.Path.{◌≡◌, ◌∙◌}
use Prim.Native.Nat.{◌+◌, ◌-◌, ◌*◌}
use native.Mathlib.Omega.{arith}
use Rattle.property_texts.proofs.Texts.{scan-past}
use Rattle.property_reader.proofs.Reader.{starts-in, put-entry, list-end, known-more, is-some}
use Rattle.property_reader.proofs.Lent.write_list.Goals as goal

pub loop-i-init : goal.loop-i-init
loop-i-init c =
    let all : c.args.n - 0 ≡ c.args.n = omega arith in
    record { ended = rw all c.requires.ended; are_known = rw all c.requires.are_known; written = rw all }

pub unwrap-requires : goal.unwrap-requires
unwrap-requires c =
    let s = c.args.self.now.types.now in
    let left = c.args.n - c.loop-i.i in
    let in-it = starts-in s c.loop-i.text left c.loop-i.invariant.ended in
    let k = known-more s c.loop-i.text left c.type_at-t.result c.type_at-t.ensures (omega arith) in-it c.loop-i.invariant.are_known in
    is-some _ k.0

pub overflow_add-text-in-loop-i : goal.overflow_add-text-in-loop-i
overflow_add-text-in-loop-i c =
    let in-it = starts-in c.args.self.now.types.now c.loop-i.text (c.args.n - c.loop-i.i) c.loop-i.invariant.ended in
    omega (arith, c.type_at-t.ensures.within)

pub loop-i-preserved : goal.loop-i-preserved
loop-i-preserved c =
    let a = c.args.self.now in
    let s = a.types.now in
    let left = c.args.n - c.loop-i.i in
    let next : c.args.n - (c.loop-i.i + 1) ≡ left - 1 = omega arith in
    let number : 4 + 4 * (c.loop-i.i + 1) ≡ 4 + 4 * c.loop-i.i + 4 = omega arith in
    let to : 12 * (c.loop-i.i + 1) ≡ 12 * c.loop-i.i + 12 = omega arith in
    let t = c.type_at-t in
    let in-it = starts-in s c.loop-i.text left c.loop-i.invariant.ended in
    let k = known-more s c.loop-i.text left t.result t.ensures (omega arith) in-it c.loop-i.invariant.are_known in
    record {
      ended = rw (next, scan-past s c.loop-i.text left t.result t.ensures (omega arith) in-it) c.loop-i.invariant.ended;
      are_known = rw next k.1;
      written =
          rw (next, number, to)
          (put-entry a.indexes.now a.domains.now s c.loop-i.out _ left (4 + 4 * c.loop-i.i) c.loop-i.text (12 * c.loop-i.i) _ _ _ t.result (omega arith) in-it (omega (arith, c.requires.has_room)) t.ensures c.unwrap.ensures c.word_at.ensures c.word_at-in-loop-i.ensures c.put_triple.ensures)
          ∙ c.loop-i.invariant.written;
    }

pub returns : goal.returns
returns c =
    let a = c.args.self.now in
    list-end a.indexes.now a.domains.now a.types.now c.loop-i.out c.args.out.now c.args.n (c.args.n - c.loop-i.i) (4 + 4 * c.loop-i.i) c.loop-i.text (12 * c.loop-i.i) (omega arith) c.requires.has_room c.loop-i.invariant.written
