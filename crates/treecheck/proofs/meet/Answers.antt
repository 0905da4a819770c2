-- `treecheck::meet` meets its contract.
use Rattle.treecheck.proofs.Twins.{both-marks}
use Rattle.treecheck.proofs.meet.Goals as goal

pub returns-then-first : goal.returns-then-first
returns-then-first c =
    let law = both-marks c.args.marks.now _ _ c.args.m c.args.from _ _ c.requires.0 c.requires.2 c.raise-first.ensures.0 c.raise-first.ensures.1 c.raise-second.ensures.0 c.raise-second.ensures.1 in
    (law.1, law.2, law.3)

pub returns-else-first : goal.returns-else-first
returns-else-first c =
    let law = both-marks c.args.marks.now _ _ c.args.m c.args.from _ _ c.requires.0 c.requires.2 c.raise-first.ensures.0 c.raise-first.ensures.1 c.raise-second.ensures.0 c.raise-second.ensures.1 in
    (law.0, law.2, law.3)
