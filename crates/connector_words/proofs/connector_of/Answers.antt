-- `connector_words::connector_of` meets its contract.
use Rattle.connector_words.proofs.connector_of.Goals as goal

pub returns : goal.returns
returns c = rw (c.wanted_of.ensures, c.page_of.ensures, c.state_of.ensures)
