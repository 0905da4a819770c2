-- `sent_cases::script::put_text` meets its contract: what is left of the text, put from here on, is what the text spells from the start.
use Rattle.std.proofs.Common.{◌≡◌, length}
use Rattle.sent_cases.specs.Script.{reading, put_text}
use Rattle.sent_cases.proofs.script.put_text.Given as goal

abbrev pub invariant-loop-left : goal.invariant-loop-left
invariant-loop-left l = (put_text l.left (reading l.out l.at) ≡ put_text l.text (reading l.initial.out l.from)) × (length l.out ≡ length l.initial.out)

abbrev pub decreases-loop-left : goal.decreases-loop-left
decreases-loop-left l = length l.left
