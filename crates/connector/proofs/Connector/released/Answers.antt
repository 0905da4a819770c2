use Rattle.connector.proofs.Connector.released.Goals as goal

pub returns : goal.returns
returns c = rw c.vacated.ensures
