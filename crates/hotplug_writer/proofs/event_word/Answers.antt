-- `hotplug_writer::event_word` meets its contract.
use Rattle.hotplug_writer.proofs.Writer.{event-bytes}
use Rattle.hotplug_writer.proofs.event_word.Goals as goal

pub returns : goal.returns
returns c = let h = c.requires in event-bytes _ _ _ h.0 h.1 h.2
