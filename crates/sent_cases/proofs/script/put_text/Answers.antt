use Rattle.std.proofs.Common.{◌∙◌, ap, arith, rules, ℕ, ◌+◌, ◌*◌, ◌≡◌, get_or}
use Rattle.case_io.specs.Script.{digit_of}
use Rattle.sent_cases.specs.Script.{put_byte, put_text, reading}
use Rattle.sent_cases.proofs.Laws.{text-space, text-pair, text-end}
use Rattle.sent_cases.proofs.script.put_text.Goals as goal

pub loop-left-preserved-then-high-eq32 : goal.loop-left-preserved-then-high-eq32
loop-left-preserved-then-high-eq32 c =
    (text-space c.loop-left.left.now _ _ (omega arith) (omega arith) c.if-high-eq32.true ∙ c.loop-left.invariant.0, search rules)

pub loop-left-preserved : goal.loop-left-preserved
loop-left-preserved c =
    let s = c.loop-left.left.now in
    let x : c.digit.result * 16 + c.digit-else-high-eq32.result ≡ digit_of (get_or s 0 0) * 16 + digit_of (get_or s 1 0) = omega (arith, c.digit.ensures.value, c.digit-else-high-eq32.ensures.value) in
    (ap (put_text _) (c.put_byte-at.ensures ∙ ap (λ (b : ℕ). put_byte b (reading c.loop-left.out c.loop-left.at)) x) ∙ text-pair s _ _ (omega arith) (omega arith) c.if-high-eq32.false ∙ c.loop-left.invariant.0, search rules)

pub returns : goal.returns
returns c = text-end c.loop-left.left.now _ (omega arith) ∙ c.loop-left.invariant.0
