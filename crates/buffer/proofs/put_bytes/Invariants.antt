-- `buffer::put_bytes` meets its contract: what is stored and what is left to store add up to the whole.
use Rattle.std.proofs.Common.{◌≡◌, ◌+◌, drop}
use lib.Seq.{sets}
use Rattle.buffer.proofs.put_bytes.Given as goal

abbrev pub invariant-loop-i : goal.invariant-loop-i
invariant-loop-i l = sets l.dst (l.at + l.i) (drop l.i l.bytes) ≡ sets l.initial.dst l.at l.bytes
