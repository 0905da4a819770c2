-- `statuses::walk_statuses` meets its contract.
use native.Mathlib.Omega.{arith}
use lib.ListN.{length}
use Rattle.statuses.specs.Statuses.{text_of}
use Rattle.statuses.proofs.Text.{written_out, all-or-none, none-fits}
use Rattle.statuses.proofs.walk_statuses.Goals as goal

pub returns-then-n-output : goal.returns-then-n-output
returns-then-n-output c =
    let a = c.args in
    (written_out _ (text_of a.input.now) c.write_text-n.new.text c.write_text-n.result a.output.now c.copy_bytes.new.dst c.write_text-n.ensures.0 c.write_text-n.ensures.1 c.write_text-n.ensures.2 c.copy_bytes.ensures, all-or-none (text_of a.input.now) c.write_text-n.result (length a.output.now) c.write_text-n.ensures.1 (omega (arith, c.if-n-output.true, c.copy_bytes.auto.dst)), c.if-n-output.true)

pub returns-else-n-output : goal.returns-else-n-output
returns-else-n-output c =
    let a = c.args in
    (written_out _ (text_of a.input.now) c.write_text-n.new.text c.write_text-n.result a.output.now c.copy_bytes.new.dst c.write_text-n.ensures.0 c.write_text-n.ensures.1 c.write_text-n.ensures.2 c.copy_bytes.ensures, none-fits (text_of a.input.now) c.write_text-n.result (length a.output.now) c.write_text-n.ensures.1 (omega (arith, c.if-n-output.false, c.copy_bytes.auto.dst)), omega arith)
