-- `hotplug_writer::write_section` meets its contract.
use mathlib.Core.Path.{sym, ◌∙◌}
use Rattle.hotplug_writer.proofs.Writer.{numbers_fit}
use Rattle.hotplug_writer.proofs.write_section.Goals as goal

pub put_section-requires : goal.put_section-requires
put_section-requires c = numbers_fit c.args.format c.args.e _ (rw (← c.given.ensures) (sym c.fault_of.ensures ∙ c.in_ok-fault_of.was))
