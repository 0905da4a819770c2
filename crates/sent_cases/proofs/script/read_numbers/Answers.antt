-- `sent_cases::script::read_numbers` meets its contract: the words of what the text spells.
use Rattle.sent_cases.proofs.Laws.{number_is}
use Rattle.sent_cases.proofs.script.read_numbers.Goals as goal

pub returns : goal.returns
returns c =
    let p = c.put_text in
    let is = number_is _ p.new.out p.result in
    (is 0 _ p.ensures c.word_at.ensures, is 4 _ p.ensures c.word_at-2.ensures, is 8 _ p.ensures c.word_at-3.ensures, is 12 _ p.ensures c.word_at-4.ensures)
