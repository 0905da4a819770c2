use mathlib.Core.Path.{◌≡◌, refl, ap, sym, ◌∙◌}
use native.Mathlib.Omega.{arith}
use Prim.Native.Nat.{◌+◌}
use Rattle.std.specs.Prelude.{Some, Ok, Err}
use Rattle.std.proofs.lemmas.Result.{err_from_is_err_and}
use Rattle.words.specs.Bytes.{word_at}
use Rattle.words.proofs.Bytes.{word_in}
use Rattle.words.specs.Pick.{pick}
use Rattle.sent.specs.Sent.{ahead}
use mathlib.Core.Bool.{Bool, true, false}
use Rattle.devtree.specs.Tokens.{property_at, past, broken, tokens}
use Rattle.devtree.proofs.Here.{property-read}
use Rattle.look_ahead.proofs.Looks.{ok-some, ok-none, node-ahead, fault-ahead, no-property-ahead, property-ahead, moves}
use Rattle.look_ahead.proofs.index_ahead.Goals as goal
use Rattle.look_ahead.proofs.index_ahead.Goals.{in_default-via-then-this-lt1, in_default-via-else-this-lt1+else-this-lt3, In_ok-next, After-names_connector}

-- the property token that was met has one behind it
met : (c : In_ok-next) → past (property_at c.args.s.now c.args.strings.now c.skip-q.result) ≡ Some c.in_ok-next.next
met c = let o : c.past_property.result ≡ Some c.in_ok-next.next = ok-some _ _ _ (sym c.ok_or.ensures.value ∙ c.in_ok-next.was) in sym (c.past_property.ensures ∙ property-read _ _ _ _ _ c.word_at-name.ensures c.name_length-n.ensures.0) ∙ o

pub loop-name-init : goal.loop-name-init
loop-name-init c = refl

pub returns-in-1 : goal.returns-in-1
returns-in-1 c =
    let a = c.args in
    sym (c.loop-name.invariant ∙ node-ahead a.s.now a.strings.now c.loop-name.p _ _ c.skip-q.ensures c.word_at.ensures (omega arith) (omega arith))

pub returns-in_default : goal.returns-in_default
returns-in_default c =
    let a = c.args in
    ap (λ m. Err (broken m)) c.min.ensures ∙ sym (c.loop-name.invariant
    ∙ elim c.in_default.branch [
      | in_default-via-then-this-lt1 w ↦ fault-ahead a.s.now a.strings.now c.loop-name.p _ _ c.skip-q.ensures c.word_at.ensures (λ e. omega arith) (λ e. omega arith) (λ e. omega arith)
      | in_default-via-else-this-lt1+else-this-lt3 w ↦ fault-ahead a.s.now a.strings.now c.loop-name.p _ _ c.skip-q.ensures c.word_at.ensures (λ e. omega arith) (λ e. omega arith) (λ e. omega arith)
    ])

pub overflow_add-q : goal.overflow_add-q
overflow_add-q c =
    let i = word_in c.args.s.now c.skip-q.result (λ z. omega (arith, c.word_at.ensures)) in
    omega arith

pub returns-in_err-next : goal.returns-in_err-next
returns-in_err-next c =
    let a = c.args in
    let p = err_from_is_err_and c.from_residual.result c.from_residual.ensures.1 in
    let o = ok-none _ _ _ (sym c.ok_or.ensures.value ∙ c.in_err-next.was) in
    rw (p.1, p.2, ← o.1) (sym (c.loop-name.invariant ∙ no-property-ahead a.s.now a.strings.now c.loop-name.p _ _ c.skip-q.ensures c.word_at.ensures c.in-3.is (sym (c.past_property.ensures ∙ property-read _ _ _ _ _ c.word_at-name.ensures c.name_length-n.ensures.0) ∙ o.0)))

pub overflow_add-q-in-loop-name : goal.overflow_add-q-in-loop-name
overflow_add-q-in-loop-name c =
    let i = word_in c.args.s.now c.skip-q.result (λ z. omega (arith, c.word_at.ensures)) in
    omega arith

pub overflow_add-q-then-names_connector : goal.overflow_add-q-then-names_connector
overflow_add-q-then-names_connector c =
    let a = c.args in
    let w = moves a.s.now a.strings.now c.loop-name.p _ _ c.skip-q.ensures c.word_at.ensures c.in-3.is _ (met (goal.at.overflow_add-q-then-names_connector c).In_ok-next) in
    omega arith

-- what stands ahead, by whether the property names a connector
named : (c : After-names_connector) → past (property_at c.args.s.now c.args.strings.now c.skip-q.result) ≡ Some c.in_ok-next.next → (b : Bool) → c.names_connector.result ≡ b
    → let a = c.args in
    ahead a.s.now a.strings.now (tokens a.s.now a.strings.now a.at) ≡ pick b (Ok (Some (record { 0 = word_at a.s.now (c.skip-q.result + 12) }))) (ahead a.s.now a.strings.now (tokens a.s.now a.strings.now c.in_ok-next.next))
named c m b e =
    let a = c.args in
    c.loop-name.invariant
    ∙ property-ahead a.s.now a.strings.now c.loop-name.p _ _ c.skip-q.ensures c.word_at.ensures c.in-3.is _ m
    ∙ rw (← c.word_at-name.ensures, ← c.name_length-n.ensures.0, ← c.word_at-in-loop-name.ensures, ← c.names_connector.ensures, e)

pub returns-then-names_connector : goal.returns-then-names_connector
unfolding pick
returns-then-names_connector c =
    let l = goal.at.returns-then-names_connector c in
    rw c.word_at-then-names_connector.ensures (sym (named l.After-names_connector (met l.In_ok-next) true c.if-names_connector.true))

pub loop-name-smaller : goal.loop-name-smaller
loop-name-smaller c =
    let a = c.args in
    let w = moves a.s.now a.strings.now c.loop-name.p _ _ c.skip-q.ensures c.word_at.ensures c.in-3.is _ (met (goal.at.loop-name-smaller c).In_ok-next) in
    omega arith

pub loop-name-preserved : goal.loop-name-preserved
unfolding pick
loop-name-preserved c =
    let l = goal.at.loop-name-preserved c in
    named l.After-names_connector (met l.In_ok-next) false c.if-names_connector.false
