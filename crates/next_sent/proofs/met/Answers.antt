-- `next_sent::met` meets its contract.
use Rattle.next_sent.specs.Turns.{met}
use Rattle.next_sent.proofs.Turns.{met-other}
use Rattle.next_sent.proofs.met.Goals as goal

pub returns-in-Begin : goal.returns-in-Begin
unfolding met
returns-in-Begin c = rw c.in-Begin.is c.begun.ensures

pub returns-in_default : goal.returns-in_default
returns-in_default c = met-other _ _ _ _ c.args.token c.in_default.not-Begin
