-- `statuses::put_status` meets its contract.
use mathlib.Core.Path.{ap, ◌∙◌}
use Prim.Native.Nat.{ℕ, ◌+◌}
use native.Mathlib.Omega.{arith}
use Rattle.buffer.specs.Put.{put}
use Rattle.buffer.proofs.Put.{put_in}
use Rattle.status_lines.specs.Lines.{line_of}
use Rattle.status_lines.proofs.Lines.{counted-line}
use Rattle.statuses.proofs.put_status.Goals as goal

pub overflow_add-result : goal.overflow_add-result
overflow_add-result c =
    let k = counted-line c.args.status _ c.counted_line-line.ensures in
    omega (arith, k.1, k.2, c.requires)

pub returns : goal.returns
returns c =
    let k = counted-line c.args.status _ c.counted_line-line.ensures in
    let fits = put_in c.args.text.now c.args.at (line_of c.args.status) (omega (arith, k.2, c.requires)) in
    (c.copy_bytes.ensures ∙ ap (put c.args.text.now c.args.at) k.0 ∙ fits, ap (λ (n : ℕ). c.args.at + n) k.1, k.2)
