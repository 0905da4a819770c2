-- `words::plain_zero` meets its contract.
use Rattle.std.proofs.Common.{◌≡◌, rules, sym, ap, ◌∙◌}
use borrow.Author.Tests.{tests}
use Rattle.std.specs.List.{list_all}
use Rattle.std.proofs.lemmas.Iterator.{YieldsList-from_slice}
use Rattle.std.proofs.lemmas.Iterator.Search.{all_from_yields_List}
use Rattle.words.proofs.Parts.{is_nul, zero-all}
use Rattle.words.proofs.plain_zero.Goals as goal

pub returns : goal.returns
returns c =
    let a = c.args in
    let e : c.all.result ≡ list_all is_nul c.window.result.now = all_from_yields_List is_nul _ _ c.all.result c.all.ensures.ran (YieldsList-from_slice c.window.result.now c.iter.ensures.rest) (λ x b q k. search (rules, tests)) in
    e ∙ ap (list_all is_nul) c.window.ensures ∙ sym (zero-all a.n a.s.now a.at)
