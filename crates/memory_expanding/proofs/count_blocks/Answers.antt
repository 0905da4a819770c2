-- `memory_expanding::count_blocks` meets its contract.
use Rattle.std.proofs.Common.{◌∙◌, rules, tests}
use Rattle.std.proofs.lemmas.Iterator.{YieldsList-from_slice, YieldsList-from_map}
use Rattle.std.proofs.lemmas.Iterator.Consumers.{YieldsList-at, sum_by_from_yields_List}
use Rattle.words.specs.Bytes.{word_at}
use Rattle.memory_expanding.proofs.Expanding.{sum-counts}
use Rattle.memory_expanding.proofs.count_blocks.Goals as goal

pub returns : goal.returns
returns c =
    let es = c.args.entries.now in
    sum_by_from_yields_List (λ e. word_at e 0) es _ c.sum.result c.sum.ensures.ran
    (YieldsList-from_map _ (λ e. word_at e 0) (YieldsList-at c.map.ensures.source (YieldsList-from_slice es c.iter.ensures.rest)) c.map.ensures.closure (λ x r q k. search (rules, tests)))
    ∙ sum-counts es
