use Rattle.std.proofs.Common.{Option, ℕ, not, drop, ◌/◌, ◌≡◌, ◌≤◌, ◌+◌, ◌-◌, ◌*◌, length, get_or, ap, sym, refl, ◌∙◌, rules, arith}
use lib.Count.{count_trailing_zeros, trailing_of_zero}
use borrow.Author.Tests.{tests}
use Rattle.std.specs.Option.{unwrap_or}
use Rattle.words.specs.Bytes.{part, name_length}
use Rattle.std.specs.List.{position, position_or_len}
use Rattle.std.proofs.lemmas.Iterator.{YieldsList-from_slice}
use Rattle.std.proofs.lemmas.Iterator.Search.{position_from_yields_List}
use Rattle.std.proofs.lemmas.List.Sums.{prefix_len-le-length}
use Rattle.words.proofs.Bytes.{name-block, name-blocks, name-start}
use Rattle.words.proofs.Marks.{trailing-less}
use Rattle.words.proofs.Parts.{is_nul, part-le, name-eight, name-rest, position-is}
use Rattle.words.proofs.name_length.Goals as goal

pub loop-i-init : goal.loop-i-init
loop-i-init c = name-start c.args.limit c.args.s.now c.args.at

pub returns-then-m-ne0 : goal.returns-then-m-ne0
returns-then-m-ne0 c =
    let a = c.args in
    let i = c.loop-i.i in
    let long = rw (← c.window-name.ensures) at (part-le a.s.now a.at a.limit) in
    let eight = c.nuls-m.ensures ∙ name-eight a.s.now a.at a.limit i _ _ _ c.window-name.ensures c.as_chunks.ensures.front c.as_chunks.ensures.front_len c.loop-i-test.true in
    let left : 8 ≤ a.limit - 8 * i = omega (arith, c.as_chunks.ensures.front_len) in
    let less = trailing-less 64 c.nuls-m.result (omega arith) c.if-m-ne0.true in
    let here = name-block 8 a.limit (8 * i) a.s.now a.at left (omega arith) in
    omega (arith, c.loop-i.invariant)

pub loop-i-preserved : goal.loop-i-preserved
loop-i-preserved c =
    let a = c.args in
    let i = c.loop-i.i in
    let long = rw (← c.window-name.ensures) at (part-le a.s.now a.at a.limit) in
    let eight = c.nuls-m.ensures ∙ name-eight a.s.now a.at a.limit i _ _ _ c.window-name.ensures c.as_chunks.ensures.front c.as_chunks.ensures.front_len c.loop-i-test.true in
    let left : 8 ≤ a.limit - 8 * i = omega (arith, c.as_chunks.ensures.front_len) in
    let none = ap (count_trailing_zeros 64) c.if-m-ne0.false ∙ trailing_of_zero 64 in
    let on : 8 * (i + 1) ≡ 8 * i + 8 = omega arith in
    let past = name-blocks 8 a.limit (8 * i) a.s.now a.at left (omega arith) in
    rw on (omega (arith, c.loop-i.invariant))

pub returns : goal.returns
returns c =
    let a = c.args in
    let j = 8 * length c.as_chunks.result.0.now in
    let rest = c.as_chunks.result.1.now in
    let long = rw (← c.window-name.ensures) at (part-le a.s.now a.at a.limit) in
    let at_end : c.loop-i.i ≡ length c.as_chunks.result.0.now = omega arith in
    let e : c.position.result ≡ position is_nul rest = position_from_yields_List is_nul _ _ c.position.result c.position.ensures.ran (YieldsList-from_slice rest c.iter.ensures.rest) (λ x b q k. search (rules, tests)) in
    let found : c.unwrap_or.result ≡ position_or_len is_nul rest = c.unwrap_or.ensures ∙ ap (λ (o : Option ℕ). unwrap_or o (length rest)) e ∙ position-is rest in
    let many : length c.window-name.result.now / 8 * 8 ≡ j = omega (arith, c.as_chunks.ensures.front_len) in
    let cut : rest ≡ drop j (part a.s.now a.at a.limit) = c.as_chunks.ensures.back ∙ rw (many, c.window-name.ensures) in
    let last = name-rest a.s.now a.at a.limit j (omega (arith, c.as_chunks.ensures.front_len)) ∙ ap (position_or_len is_nul) (sym cut) in
    let all = rw at_end at c.loop-i.invariant in
    let short = prefix_len-le-length (λ b. not (is_nul b)) rest in
    (omega arith, omega (arith, c.as_chunks.ensures.front_len, c.as_chunks.ensures.back_len))
