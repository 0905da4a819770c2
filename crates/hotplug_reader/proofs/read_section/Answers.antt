-- `hotplug_reader::read_section` meets its contract.
use Rattle.hotplug_reader.proofs.Reader.{read_short}
use Rattle.hotplug_reader.proofs.read_section.Goals as goal

pub returns-then-s-lt-LEGACY_BYTES : goal.returns-then-s-lt-LEGACY_BYTES
returns-then-s-lt-LEGACY_BYTES c = read_short c.args.format c.args.s.now c.if-s-lt-LEGACY_BYTES.true
