-- `statuses::write_text` meets its contract.
use mathlib.Core.Path.{◌≡◌, ap, ◌∙◌}
use Prim.Native.Nat.{ℕ, ◌+◌, ◌-◌, ◌≤◌}
use native.Mathlib.Omega.{arith}
use lib.ListN.{length, take, drop}
use Rattle.words.specs.Bytes.{word_at}
use Rattle.statuses.specs.Statuses.{input_structure, input_strings}
use Rattle.statuses.proofs.Text.{checked-well, block_size, refused-written, structure-part, strings-part, too_short, ends-early, not-passed, passed}
use Rattle.statuses.proofs.write_text.Goals as goal
use Rattle.statuses.proofs.write_text.Goals.{Else-input-end}

pub returns-then-input-lt4 : goal.returns-then-input-lt4
returns-then-input-lt4 c = refused-written c.args.text.now _ c.args.input.now _ (too_short c.args.input.now c.if-input-lt4.true) c.put_line.ensures.0 c.put_line.ensures.1 c.requires

pub returns-then-input-end : goal.returns-then-input-end
returns-then-input-end c = refused-written c.args.text.now _ c.args.input.now _ (ends-early c.args.input.now c.if-input-lt4.false (omega (arith, c.if-input-end.true, c.word_at.ensures))) c.put_line-then-input-end.ensures.0 c.put_line-then-input-end.ensures.1 c.requires

-- the two blocks of an input that has them
parts : (c : Else-input-end) → (4 + word_at c.args.input.now 0 ≤ length c.args.input.now) × (take (4 + c.word_at.result - 4) (drop 4 c.args.input.now) ≡ input_structure c.args.input.now) × (take (length c.args.input.now - (4 + c.word_at.result)) (drop (4 + c.word_at.result) c.args.input.now) ≡ input_strings c.args.input.now)
parts c =
    let w = c.word_at in
    let e : 4 + w.result ≡ 4 + word_at c.args.input.now 0 = ap (λ (c : ℕ). 4 + c) w.ensures in
    (omega (arith, c.if-input-end.false), structure-part c.args.input.now (4 + w.result) e, strings-part c.args.input.now (4 + w.result) e)

pub returns-then-check_tree-eq0 : goal.returns-then-check_tree-eq0
returns-then-check_tree-eq0 c =
    let f = parts (goal.at.returns-then-check_tree-eq0 c).Else-input-end in
    refused-written c.args.text.now _ c.args.input.now _ (not-passed c.args.input.now c.if-input-lt4.false f.0 _ _ f.1 f.2 _ c.check_tree.ensures c.if-check_tree-eq0.true) c.put_line-then-check_tree-eq0.ensures.0 c.put_line-then-check_tree-eq0.ensures.1 c.requires

pub walk_tree-requires : goal.walk_tree-requires
walk_tree-requires c =
    let z = block_size _ _ (checked-well _ (λ e. c.if-check_tree-eq0.false (c.check_tree.ensures ∙ e))) in
    omega (arith, z, c.requires)

pub returns : goal.returns
returns c =
    let f = parts (goal.at.returns c).Else-input-end in
    rw (passed c.args.input.now c.if-input-lt4.false f.0 _ _ f.1 f.2 _ c.check_tree.ensures c.if-check_tree-eq0.false) c.walk_tree.ensures
