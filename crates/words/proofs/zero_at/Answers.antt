-- `words::zero_at` meets its contract: a run that ends a word by that word.
use Rattle.std.proofs.Common.{◌≡◌, ℕ, ◌+◌, ◌-◌, ◌*◌, ◌%◌, ◌^◌, eqb, sym, ap, ◌∙◌, arith}
use Rattle.words.proofs.Padding.{zero-low}
use Rattle.words.proofs.Parts.{word-part}
use Rattle.words.proofs.zero_at.Goals as goal

pub returns-in-Some : goal.returns-in-Some
returns-in-Some c =
    let a = c.args in
    let place : a.at - 4 + a.n ≡ a.at + a.n - 4 = omega arith in
    let word = c.from_be_bytes.ensures ∙ word-part a.s.now _ (a.at + a.n - 4) (rw place at c.in-Some.ensures.1) in
    c.low_zero.ensures ∙ ap (λ (w : ℕ). eqb (w % 2 ^ (8 * a.n)) 0) word ∙ zero-low a.n a.s.now a.at (λ i. omega (arith, c.type_inv.s i)) c.if-n-le4.true c.if-at-ge4.true
