-- `connector::new_connector` meets its contract.
use Rattle.connector.proofs.new_connector.Goals as goal

pub returns : goal.returns
returns c = cc
