-- `property_reader::read_properties` meets its contract.
use mathlib.Core.Path.{ap, sym, ◌∙◌}
use Rattle.std.proofs.lemmas.Result.{err_from_is_err_and}
use Rattle.property_reader.specs.Reader.{arrays, listing}
use Rattle.property_reader.proofs.Reader.{refused, whole, types-end, has_room, are_known}
use Rattle.property_reader.proofs.read_properties.Goals as goal

pub returns-in_err-written : goal.returns-in_err-written
returns-in_err-written c =
    let a = c.args in
    let all = arrays a.names.now a.indexes.now a.domains.now a.types.now in
    let n = c.word_at-n in
    let p = err_from_is_err_and c.from_residual.result c.from_residual.ensures.1 in
    rw (p.1, p.2) (refused n.result all a.out.now _ (sym c.answer_to.ensures ∙ c.in_err-written.was))
    ∙ ap (λ k. listing k all a.out.now) n.ensures

pub write_list-requires : goal.write_list-requires
write_list-requires c =
    let a = c.args in
    let all = arrays a.names.now a.indexes.now a.domains.now a.types.now in
    let e = sym c.answer_to.ensures ∙ c.in_ok-written.was in
    record { ended = types-end c.word_at-n.result all _ _ e; are_known = are_known c.word_at-n.result all _ _ e; has_room = has_room c.word_at-n.result all _ _ e }

pub returns : goal.returns
returns c =
    let a = c.args in
    let all = arrays a.names.now a.indexes.now a.domains.now a.types.now in
    let n = c.word_at-n in
    whole n.result all a.out.now _ _ (sym c.answer_to.ensures ∙ c.in_ok-written.was) c.write_list.ensures
    ∙ ap (λ k. listing k all a.out.now) n.ensures
