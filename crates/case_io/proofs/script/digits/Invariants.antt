-- `case_io::script::digits`: the value is that of the digits so far.
use Rattle.std.proofs.Common.{◌≡◌, ◌*◌, ◌<◌, take}
use Rattle.case_io.specs.Script.{digits_of}
use Rattle.case_io.proofs.script.digits.Given as goal

abbrev pub invariant-loop-b : goal.invariant-loop-b
invariant-loop-b l = (l.value ≡ digits_of l.kept l.base (take l.b-index l.f)) × (l.value < 16 * l.kept)
