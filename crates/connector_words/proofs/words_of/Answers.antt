-- `connector_words::words_of` meets its contract.
use Rattle.connector_words.proofs.words_of.Goals as goal

pub returns : goal.returns
returns c = rw (c.word_of_page.ensures, c.word_of_state.ensures, c.word_of_wanted.ensures)
