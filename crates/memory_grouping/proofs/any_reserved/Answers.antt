-- `memory_grouping::any_reserved` meets its contract.
use Rattle.std.proofs.Common.{sym, ◌∙◌, rules, tests}
use Rattle.std.proofs.lemmas.Iterator.{YieldsList-from_slice}
use Rattle.std.proofs.lemmas.Iterator.Search.{any_from_yields_List}
use Rattle.memory_lists.specs.Lists.{reserved_at}
use Rattle.memory_lists.proofs.Lists.{any_listed}
use Rattle.memory_grouping.specs.Grouping.{not_zero}
use Rattle.memory_grouping.proofs.any_reserved.Goals as goal

pub returns : goal.returns
returns c =
    let es = c.args.entries.now in
    any_from_yields_List (λ e. not_zero (reserved_at e 0)) _ _ c.any.result c.any.ensures.ran (YieldsList-from_slice es c.iter.ensures.rest) (λ x b q k. search (rules, tests))
    ∙ sym (any_listed not_zero (λ e. reserved_at e 0) es)
