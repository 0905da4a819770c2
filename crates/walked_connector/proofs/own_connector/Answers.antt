-- `walked_connector::own_connector` meets its contract.
use Rattle.walked_connector.proofs.own_connector.Goals as goal

pub returns : goal.returns
returns c = rw (c.changed.ensures, c.start_of_walk.ensures, c.new_connector-c.ensures)
