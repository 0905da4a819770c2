-- `name_order::all_differ` meets its contract: the copy has the names of the list.
use mathlib.Core.Path.{sym, ◌∙◌}
use Prim.Native.Nat.{◌+◌, ◌-◌}
use native.Mathlib.Omega.{arith}
use Rattle.name_order.proofs.Named.{list-is, unlisted-distinct, listed-distinct}
use Rattle.name_order.proofs.Names.{listed-copied}
use Rattle.name_order.proofs.all_differ.Goals as goal

pub returns-then-not-is_list : goal.returns-then-not-is_list
returns-then-not-is_list c =
    let a = c.args in
    sym (unlisted-distinct a.block.now a.names.now a.base a.top c.is_list.ensures (c.if-not-is_list.true))

pub overflow_sub-n : goal.overflow_sub-n
overflow_sub-n c = let a = c.args in (list-is _ _ a.base a.top (sym c.is_list.ensures ∙ c.if-not-is_list.false)).up

pub pairs_differ-requires : goal.pairs_differ-requires
pairs_differ-requires c =
    let a = c.args in
    let list = list-is _ _ a.base a.top (sym c.is_list.ensures ∙ c.if-not-is_list.false) in
    (list.up, list.inside, list.named)

pub returns-then-n-gt-NAMES : goal.returns-then-n-gt-NAMES
returns-then-n-gt-NAMES c =
    let a = c.args in
    rw c.pairs_differ.ensures (sym (listed-distinct a.block.now a.names.now a.base a.top c.is_list.ensures (c.if-not-is_list.false)))

pub copy_front-requires : goal.copy_front-requires
copy_front-requires c =
    let a = c.args in
    let list = list-is _ _ a.base a.top (sym c.is_list.ensures ∙ c.if-not-is_list.false) in
    (omega arith, omega arith)

pub sorted_differ-requires : goal.sorted_differ-requires
sorted_differ-requires c =
    let a = c.args in
    let list = list-is _ _ a.base a.top (sym c.is_list.ensures ∙ c.if-not-is_list.false) in
    (omega arith, λ i l h. rw (c.copy_front.ensures i h) (list.named (a.base + i) (omega arith) (omega arith)))

pub returns : goal.returns
returns c =
    let a = c.args in
    let r = c.copy_front in
    let same = listed-copied a.block.now a.names.now r.new.copy a.base (a.top - a.base) r.ensures in
    let differ = listed-distinct a.block.now a.names.now a.base a.top c.is_list.ensures (c.if-not-is_list.false) in
    rw (c.sorted_differ.ensures, same) (sym differ)
