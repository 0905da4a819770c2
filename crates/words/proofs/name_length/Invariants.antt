-- `words::name_length` meets its contract: what was passed and what `name_length` finds from here add up to what it finds from the start.
use Rattle.std.proofs.Common.{◌≡◌, ◌+◌, ◌-◌, ◌*◌}
use Rattle.words.specs.Bytes.{name_length}
use Rattle.words.proofs.name_length.Given as goal

abbrev pub invariant-loop-i : goal.invariant-loop-i
invariant-loop-i l = name_length l.limit l.s l.at ≡ 8 * l.i + name_length (l.limit - 8 * l.i) l.s (l.at + 8 * l.i)
