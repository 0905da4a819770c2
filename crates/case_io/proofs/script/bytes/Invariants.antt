-- `case_io::script::bytes`: the bytes so far are written, and no others.
use Rattle.std.proofs.Common.{◌≡◌, ℕ, ◌<◌, length, slice_index, drop}
use Rattle.case_io.specs.Script.{byte_at}
use Rattle.case_io.proofs.script.bytes.Given as goal

abbrev pub invariant-loop-i : goal.invariant-loop-i
invariant-loop-i l =
    ((k : ℕ) → k < l.i → slice_index l.out k ≡ byte_at l.text k) × (drop l.i l.out ≡ drop l.i l.initial.out) × (length l.out ≡ length l.initial.out)
