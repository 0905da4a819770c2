use Rattle.connector.proofs.Connector.moved.Goals as goal

pub returns : goal.returns
returns c = rw c.with_step.ensures
