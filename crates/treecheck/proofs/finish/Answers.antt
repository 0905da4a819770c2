-- `treecheck::finish` meets its contract.
use mathlib.Core.Path.{sym, ◌∙◌}
use borrow.Enum.Refused.{opened}
use Rattle.treecheck.proofs.Scan.{last_end, not_last}
use Rattle.treecheck.proofs.finish.Goals as goal

pub returns-in-End : goal.returns-in-End
returns-in-End c =
    let a = c.args in
    sym (last_end a.s.now a.strings.now a.at _ _ (sym c.read_token.ensures ∙ c.in-End.is))

pub returns-in_default : goal.returns-in_default
returns-in_default c =
    let a = c.args in
    sym (not_last a.s.now a.strings.now a.at c.read_token.result (sym c.read_token.ensures) (opened c.in_default.in_default-own.keys2))
