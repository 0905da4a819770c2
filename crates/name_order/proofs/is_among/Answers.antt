-- `name_order::is_among` meets its contract.
use mathlib.Core.Path.{sym, ◌∙◌}
use Rattle.name_order.proofs.Named.{list-is, name-has, unlisted-found, unnamed-found, named-found}
use Rattle.name_order.proofs.is_among.Goals as goal

pub returns-then-not-is_list : goal.returns-then-not-is_list
returns-then-not-is_list c =
    let a = c.args in
    sym (unlisted-found a.block.now a.names.now a.base a.top c.is_list.ensures a.x (c.if-not-is_list.true))

pub returns-then-not-has_name : goal.returns-then-not-has_name
returns-then-not-has_name c =
    let a = c.args in
    sym (unnamed-found a.block.now a.names.now a.base a.top c.is_list.ensures a.x c.has_name.ensures (c.if-not-is_list.false) (c.if-not-has_name.true))

pub is_in-requires : goal.is_in-requires
is_in-requires c =
    let a = c.args in
    let list = list-is _ _ a.base a.top (sym c.is_list.ensures ∙ c.if-not-is_list.false) in
    (list.up, list.inside, list.named, name-has _ a.x (sym c.has_name.ensures ∙ c.if-not-has_name.false))

pub returns : goal.returns
returns c =
    let a = c.args in
    rw c.is_in.ensures (sym (named-found a.block.now a.names.now a.base a.top c.is_list.ensures a.x c.has_name.ensures (c.if-not-is_list.false) (c.if-not-has_name.false)))
