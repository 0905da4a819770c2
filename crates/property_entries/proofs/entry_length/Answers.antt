-- `property_entries::entry_length` meets its contract.
use native.Mathlib.Omega.{arith}
use Rattle.property_entries.proofs.Entries.{name-length, name-short}
use Rattle.property_entries.proofs.entry_length.Goals as goal

pub returns-in-Names : goal.returns-in-Names
returns-in-Names c =
    let a = c.args in
    let p = c.prefix_length.ensures in
    let n = name-length a.kind a.index in
    rw c.in-Names.is (omega (arith, c.digit_count.ensures.0), omega (arith, c.digit_count.ensures.0, name-short a.kind a.index (omega arith)))
