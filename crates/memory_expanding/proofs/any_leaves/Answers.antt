-- `memory_expanding::any_leaves` meets its contract.
use Rattle.std.proofs.Common.{◌∙◌, rules, tests}
use Rattle.std.proofs.lemmas.Iterator.{YieldsList-from_slice}
use Rattle.std.proofs.lemmas.Iterator.Search.{any_from_yields_List}
use Rattle.words.specs.Pick.{any}
use Rattle.memory_lists.specs.Blocks.{blocks_from}
use Rattle.memory_lists.specs.Lists.{set_at}
use Rattle.memory_expanding.specs.Expanding.{leaves}
use Rattle.memory_expanding.proofs.Expanding.{any_expanded}
use Rattle.memory_expanding.proofs.any_leaves.Goals as goal

pub returns : goal.returns
returns c =
    let es = c.args.entries.now in
    any_from_yields_List (λ e. any leaves (blocks_from c.args.size (set_at e 0).count (set_at e 0).first)) _ _ c.any.result c.any.ensures.ran (YieldsList-from_slice es c.iter.ensures.rest) (λ x b q k. search (rules, tests))
    ∙ any_expanded c.args.size es
