-- `memory_expanding::any_empty` meets its contract.
use Rattle.std.proofs.Common.{sym, ◌∙◌, rules, tests}
use Rattle.std.proofs.lemmas.Iterator.{YieldsList-from_slice}
use Rattle.std.proofs.lemmas.Iterator.Search.{any_from_yields_List}
use Rattle.memory_lists.specs.Lists.{set_at}
use Rattle.memory_lists.proofs.Lists.{any_listed}
use Rattle.memory_expanding.specs.Expanding.{is_empty}
use Rattle.memory_expanding.proofs.any_empty.Goals as goal

pub returns : goal.returns
returns c =
    let es = c.args.entries.now in
    any_from_yields_List (λ e. is_empty (set_at e 0)) _ _ c.any.result c.any.ensures.ran (YieldsList-from_slice es c.iter.ensures.rest) (λ x b q k. search (rules, tests))
    ∙ sym (any_listed is_empty (λ e. set_at e 0) es)
