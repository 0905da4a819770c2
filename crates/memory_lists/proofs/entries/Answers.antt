-- `memory_lists::entries` meets its contract.
use Rattle.std.proofs.Common.{◌≡◌, Ok, length, ℕ, ◌<◌, get_or, take, drop, sym, ◌∙◌, ap, arith, rules, ◌-◌, ◌/◌, ◌≤◌}
use Rattle.std.specs.Simd.{first_chunks}
use borrow.Author.Tests.{eq-eqb, ne_eqb}
use Rattle.words.proofs.Pick.{pick_yes, pick_no}
use Rattle.words.specs.First.{first_of}
use Rattle.memory_lists.specs.Converted.{counted}
use Rattle.memory_lists.proofs.Lists.{word-under, right-size, row_count, row_bytes}
use Rattle.memory_lists.proofs.entries.Goals as goal

pub returns-then-size-eq0-clause-count : goal.returns-then-size-eq0-clause-count
unfolding counted first_of
returns-then-size-eq0-clause-count c = pick_yes _ _ _ (eq-eqb _ _ c.if-size-eq0.true)

pub returns-then-wrong_size-clause-count : goal.returns-then-wrong_size-clause-count
unfolding counted first_of
returns-then-wrong_size-clause-count c = pick_no _ _ _ (ne_eqb _ _ c.if-size-eq0.false) ∙ pick_yes _ _ _ (sym c.wrong_size.ensures ∙ c.if-wrong_size.true)

pub slice_bounds-as_chunks-count : goal.slice_bounds-as_chunks-count
slice_bounds-as_chunks-count c = omega (arith, right-size c.args.list.now (sym c.wrong_size.ensures ∙ c.if-wrong_size.false))

pub slice_bounds-as_chunks-start : goal.slice_bounds-as_chunks-start
slice_bounds-as_chunks-start c = let k : 4 ≤ length c.args.list.now = omega (arith, right-size c.args.list.now (sym c.wrong_size.ensures ∙ c.if-wrong_size.false)) in search rules

pub returns-clause-count : goal.returns-clause-count
unfolding counted first_of
returns-clause-count c =
    let s = c.args.list.now in
    let w = sym c.wrong_size.ensures ∙ c.if-wrong_size.false in
    let f : length c.as_chunks.result.0.now ≡ length (take (length s - 4) (drop 4 s)) / 24 = c.as_chunks.ensures.front_len in
    pick_no _ _ _ (ne_eqb _ _ c.if-size-eq0.false) ∙ pick_no _ _ _ w ∙ ap Ok (sym (f ∙ row_count s w))

pub returns-clause-rows : goal.returns-clause-rows
returns-clause-rows c =
    let s = c.args.list.now in
    let w = sym c.wrong_size.ensures ∙ c.if-wrong_size.false in
    let f : c.as_chunks.result.0.now ≡ first_chunks 24 (length (take (length s - 4) (drop 4 s)) / 24) (take (length s - 4) (drop 4 s)) = c.as_chunks.ensures.front in
    f ∙ rw (row_count s w, row_bytes s)

pub returns-clause-few : goal.returns-clause-few
returns-clause-few c =
    let s = c.args.list.now in
    let w = sym c.wrong_size.ensures ∙ c.if-wrong_size.false in
    let f : length c.as_chunks.result.0.now ≡ length (take (length s - 4) (drop 4 s)) / 24 = c.as_chunks.ensures.front_len in
    let bytes : (i : ℕ) → get_or s i 0 < 256 = λ i. (c.type_inv.list i).fits in
    omega (arith, f ∙ row_count s w, word-under s bytes 0)
