-- `property_entries::put_name_here` meets its contract: what stands before the decimal, the decimal, and the NUL.
use Rattle.property_entries.proofs.Entries.{name-put}
use Rattle.property_entries.proofs.put_name_here.Goals as goal

pub returns : goal.returns
returns c =
    let a = c.args in
    let d = c.put_digits-digits.ensures in
    rw (d.0, d.1, c.put_prefix.ensures, c.prefix_length-n.ensures.0) (name-put a.dst.now a.at a.kind a.index c.requires)
