-- `devtree::past_begin` meets its contract.
use mathlib.Core.Path.{◌≡◌, sym, ◌∙◌}
use Prim.Native.Nat.{◌+◌, ◌-◌}
use native.Mathlib.Omega.{arith}
use lib.ListN.{length}
use Rattle.words.specs.Pick.{pick}
use Rattle.devtree.specs.Tokens.{begin_named}
use Rattle.devtree.proofs.Tokens.{begin-fits}
use Rattle.devtree.proofs.past_begin.Goals as goal
use Rattle.devtree.proofs.past_begin.Goals.{After-begin_fits}

-- the bytes after the token's first word
left : (c : After-begin_fits) → c.saturating_sub.result ≡ length c.args.s.now - (c.args.at + 4)
left c = omega (arith, c.room.ensures, c.saturating_sub.ensures)

pub overflow_add-n : goal.overflow_add-n
overflow_add-n c = let f = begin-fits c.args.n _ (sym c.begin_fits.ensures ∙ c.if-begin_fits.true) in omega arith

pub up4-requires : goal.up4-requires
up4-requires c = let f = begin-fits c.args.n _ (sym c.begin_fits.ensures ∙ c.if-begin_fits.true) in omega arith

pub overflow_add-result : goal.overflow_add-result
overflow_add-result c =
    let f = begin-fits c.args.n _ (sym c.begin_fits.ensures ∙ c.if-begin_fits.true) in
    omega (arith, f.2, c.room.ensures, c.saturating_sub.ensures)

pub overflow_add-result-then-begin_fits : goal.overflow_add-result-then-begin_fits
overflow_add-result-then-begin_fits c =
    let f = begin-fits c.args.n _ (sym c.begin_fits.ensures ∙ c.if-begin_fits.true) in
    omega (arith, f.2, c.room.ensures, c.saturating_sub.ensures, c.up4.ensures)

pub returns-then-begin_fits : goal.returns-then-begin_fits
unfolding begin_named pick
returns-then-begin_fits c = rw (← left (goal.at.returns-then-begin_fits c).After-begin_fits, ← c.begin_fits.ensures, c.if-begin_fits.true) (rw c.up4.ensures)

pub returns-else-begin_fits : goal.returns-else-begin_fits
unfolding begin_named pick
returns-else-begin_fits c = rw (← left (goal.at.returns-else-begin_fits c).After-begin_fits, ← c.begin_fits.ensures, c.if-begin_fits.false)
