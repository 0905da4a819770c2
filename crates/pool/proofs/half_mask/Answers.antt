use borrow.Author.Rules.{rules}
use Prim.Native.Nat.{◌+◌, ◌*◌, ◌^◌}
use mathlib.Core.Path.{◌≡◌, ap, ◌∙◌}
use native.Mathlib.Omega.{arith}
use lib.Pow.{pow_mono}
use Rattle.table.specs.Layout.{line_at}
use Rattle.table.specs.Model.{rows}
use Rattle.pool.specs.Pool.{bit_of, is_free, mask_of}
use Rattle.pool.proofs.Lines.{mask_next, mask-rows-lt, weight-at}
use Rattle.pool.proofs.half_mask.Goals as goal

pub loop-i-init : goal.loop-i-init
unfolding mask_of rows
loop-i-init c = search rules

pub overflow_add-m : goal.overflow_add-m
overflow_add-m c =
    let a = c.args in
    omega (
      arith,
      (let it : (let a = c.args in c.loop-i.m + c.weighed-m.result ≡ mask_of (is_free a.kind) (rows (line_at a.t.now) a.start (c.loop-i.i + 1))) = let a = c.args in
          let p = is_free a.kind in
          let f = line_at a.t.now in
          let bit = bit_of (p (f (a.start + c.loop-i.i))) in
          let w : c.weighed-m.result ≡ bit * 2 ^ c.loop-i.i = c.weighed-m.ensures ∙ ap (λ x. bit * x) (weight-at c.loop-i.i (omega arith)) in
          rw (c.loop-i.invariant.1, w) (mask_next p f c.loop-i.i a.start) in it),
      mask-rows-lt (is_free a.kind) (line_at a.t.now) (c.loop-i.i + 1) a.start,
      pow_mono {i = c.loop-i.i + 1} {j = 32} (omega arith),
    )

pub loop-i-preserved : goal.loop-i-preserved
loop-i-preserved c = (
  search rules,
  (let it : (let a = c.args in c.loop-i.m + c.weighed-m.result ≡ mask_of (is_free a.kind) (rows (line_at a.t.now) a.start (c.loop-i.i + 1))) = let a = c.args in
      let p = is_free a.kind in
      let f = line_at a.t.now in
      let bit = bit_of (p (f (a.start + c.loop-i.i))) in
      let w : c.weighed-m.result ≡ bit * 2 ^ c.loop-i.i = c.weighed-m.ensures ∙ ap (λ x. bit * x) (weight-at c.loop-i.i (omega arith)) in
      rw (c.loop-i.invariant.1, w) (mask_next p f c.loop-i.i a.start) in it),
)

pub returns : goal.returns
returns c =
    let z : c.loop-i.i ≡ 32 = omega arith in
    rw z at c.loop-i.invariant.1
