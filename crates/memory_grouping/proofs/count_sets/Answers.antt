-- `memory_grouping::count_sets` meets its contract.
use Rattle.std.proofs.Common.{rules, tests}
use Rattle.std.proofs.lemmas.Iterator.Consumers.{count_from_yields_List}
use Rattle.std.proofs.lemmas.Fn.{always_returns_same}
use Rattle.memory_grouping.proofs.Grouping.{sets_yielded}
use Rattle.memory_grouping.proofs.count_sets.Goals as goal

pub returns : goal.returns
returns c =
    let closure = c.chunk_by.ensures.closure in
    count_from_yields_List _ c.count.result c.count.ensures.ran
    (sets_yielded c.args.size _ c.args.entries.now c.chunk_by.ensures.rest (always_returns_same _ _ _ (λ a r f k. search (rules, tests))))
