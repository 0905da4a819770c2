-- `treecheck::zero_before` meets its contract.
use mathlib.Core.Path.{ap, ◌∙◌}
use Prim.Native.Nat.{ℕ, ◌*◌, ◌%◌, ◌^◌}
use native.Mathlib.Omega.{arith}
use lib.Dec.{eqb}
use Rattle.words.proofs.Padding.{zero-before}
use Rattle.treecheck.proofs.zero_before.Goals as goal

pub returns : goal.returns
returns c =
    let a = c.args in
    let pre = c.requires in
    c.low_zero.ensures ∙ ap (λ (w : ℕ). eqb (w % 2 ^ (8 * a.n)) 0) c.word_at.ensures
    ∙ zero-before a.n a.s.now a.end (λ i. omega (arith, c.type_inv.s i)) pre.0 pre.1 pre.2
