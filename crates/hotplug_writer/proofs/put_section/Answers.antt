-- `hotplug_writer::put_section` meets its contract.
use native.Mathlib.Omega.{arith}
use Rattle.hotplug.proofs.Sections.{section-short}
use Rattle.hotplug_writer.proofs.Writer.{words-put}
use Rattle.hotplug_writer.proofs.put_section.Goals as goal

pub overflow_cast-section_bytes : goal.overflow_cast-section_bytes
overflow_cast-section_bytes c = omega (arith, c.section_bytes.ensures, (section-short c.args.format).1)

pub overflow_add-section_bytes : goal.overflow_add-section_bytes
overflow_add-section_bytes c = omega (arith, c.section_bytes.ensures, (section-short c.args.format).1)

pub returns : goal.returns
returns c =
    let a = c.args in
    words-put a.format a.e _ _ _ _ _ _ _ _ _ _ c.requires.0 c.section_bytes.ensures c.event_word.ensures c.index_or_count.ensures c.first_index.ensures
    c.put_word.ensures c.put_word-2.ensures c.put_word-3.ensures c.put_word-4.ensures c.put_word-5.ensures
