-- `memory_grouping::put_sets` meets its contract.
use Rattle.std.proofs.Common.{sym, length, arith, rules, tests}
use mathlib.Core.List.{flat_map}
use Rattle.std.proofs.iter.Serving.{serving}
use Rattle.std.proofs.lemmas.Fn.{always_returns_same}
use Rattle.std.proofs.lemmas.Iterator.Consumers.{YieldsList-at, YieldsList-turn, YieldsList-end}
use Rattle.std.proofs.lemmas.List.{length_push, take_all}
use Rattle.buffer.proofs.Put.{put-none}
use Rattle.memory_lists.specs.Blocks.{grouped}
use Rattle.memory_lists.specs.Lists.{set_bytes}
use Rattle.memory_lists.proofs.Lists.{set_long, put_more}
use Rattle.memory_grouping.specs.Grouping.{blocks_of}
use Rattle.memory_grouping.proofs.Grouping.{sets_yielded}
use Rattle.memory_grouping.proofs.put_sets.Goals as goal

pub loop-set-init : goal.loop-set-init
unfolding flat_map
loop-set-init c =
    let made = c.into_iter-set-iterator.ensures.into_iter_gives in
    let closure = c.chunk_by-set-items.ensures.closure in
    record {
      can = grind serving;
      finite = search rules;
      sets = YieldsList-at made (sets_yielded c.args.size _ c.args.entries.now c.chunk_by-set-items.ensures.rest (always_returns_same _ _ _ (λ a r f k. search (rules, tests))));
      place = omega arith;
      bytes = sym (put-none _ 4);
    }

pub overflow_add-to : goal.overflow_add-to
overflow_add-to c =
    let i = c.loop-set.invariant in
    let turn = YieldsList-turn i.sets c.loop-set.yielded _ c.loop-set.yielded_by _ _ c.in-Some.set c.in-Some.is c.next.ensures.steps in
    omega (arith, turn.0)

pub loop-set-preserved : goal.loop-set-preserved
loop-set-preserved c =
    let i = c.loop-set.invariant in
    let turn = YieldsList-turn i.sets c.loop-set.yielded _ c.loop-set.yielded_by _ _ c.in-Some.set c.in-Some.is c.next.ensures.steps in
    let more = length_push c.loop-set.yielded c.in-Some.set in
    record {
      can = grind serving;
      finite = search rules;
      sets = i.sets;
      place = omega (arith, more);
      bytes = rw (more, c.put_set.ensures, i.bytes, i.place, c.block_of-first.ensures) (put_more set_bytes set_long c.args.out.now 4 _ (length c.loop-set.yielded) _ turn.0 turn.1 (omega arith));
    }

pub returns : goal.returns
returns c =
    let i = c.loop-set.invariant in
    let end = YieldsList-end i.sets c.loop-set.yielded _ c.loop-set.yielded_by _ _ c.in-None.is c.next.ensures.steps in
    rw (take_all (length c.loop-set.yielded) (grouped c.args.size (blocks_of c.args.entries.now)) (omega (arith, end.1))) at i.bytes
