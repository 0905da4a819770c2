-- `connector::Connector::vacated` meets its contract.
use Rattle.connector.proofs.Connector.vacated.Goals as goal

pub returns : goal.returns
returns c = rw c.new_connector.ensures
