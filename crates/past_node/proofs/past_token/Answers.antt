-- `past_node::past_token` meets its contract.
use mathlib.Core.Path.{◌≡◌, ap, sym, ◌∙◌}
use native.Mathlib.Omega.{arith}
use Rattle.std.specs.Prelude.{ok_or}
use Rattle.words.proofs.Bytes.{word_in}
use Rattle.devtree.specs.Tokens.{token_of, past, broken}
use Rattle.devtree.proofs.Here.{begin-read, property-read}
use Rattle.past_node.proofs.Places.{past-is, past-one, past-two, past-three, past-other}
use Rattle.past_node.proofs.past_token.Goals as goal
use Rattle.past_node.proofs.past_token.Goals.{in-1, in-2, in-3, in_default}

pub overflow_add-q : goal.overflow_add-q
overflow_add-q c = let w = word_in c.args.s.now c.args.q (λ z. omega (arith, c.requires)) in omega arith

pub overflow_add-next : goal.overflow_add-next
overflow_add-next c = let w = word_in c.args.s.now c.args.q (λ z. omega (arith, c.requires)) in omega arith

pub overflow_add-q-in-3 : goal.overflow_add-q-in-3
overflow_add-q-in-3 c = let w = word_in c.args.s.now c.args.q (λ z. omega (arith, c.requires)) in omega arith

pub returns : goal.returns
returns c =
    let a = c.args in
    let e : past (token_of a.s.now a.strings.now a.q a.kind) ≡ c.match-kind.next = elim c.match-kind.branch [
      | in-1 w ↦ past-one _ _ _ _ w.in-1.is ∙ sym (w.past_begin-next.ensures ∙ begin-read _ _ _ w.name_length.ensures.0) ∙ sym w.next-is
      | in-2 w ↦ past-two _ _ _ _ w.in-2.is ∙ sym w.next-is
      | in-3 w ↦ past-three _ _ _ _ w.in-3.is ∙ sym (w.past_property-next.ensures ∙ property-read _ _ _ _ _ w.word_at-name.ensures w.name_length-in-3.ensures.0) ∙ sym w.next-is
      | in_default w ↦ let n = w.in_default.in_default-own.rest in past-other _ _ _ _ n.0.0.1 n.0.1 n.1 ∙ sym w.next-is
    ] in
    c.ok_or.ensures.value ∙ ap (λ m. ok_or c.match-kind.next (broken m)) c.min.ensures ∙ sym (past-is _ _ _ _ c.requires _ e)
