-- `devtree::past_property` meets its contract.
use borrow.Author.Tests.{lt-ltb, le-ltb}
use mathlib.Core.Path.{◌≡◌}
use Prim.Native.Nat.{◌+◌, ◌-◌}
use native.Mathlib.Omega.{arith}
use lib.ListN.{length}
use Rattle.words.specs.Pick.{pick}
use Rattle.devtree.specs.Tokens.{property_of, property_named}
use Rattle.devtree.proofs.past_property.Goals as goal
use Rattle.devtree.proofs.past_property.Goals.{After-property_fits}

-- the bytes after the token's words, and what is tested
token : (c : After-property_fits) → let a = c.args in property_of a.s.now a.strings.now a.at a.name a.n ≡ property_named a.at a.name a.n c.room.result c.word_at-len.result (c.room-rest.result - 12)
unfolding property_of pick
token c =
    let a = c.args in
    let left : length a.s.now - (a.at + 12) ≡ c.room-rest.result - 12 = omega (arith, c.room-rest.ensures) in
    rw (left, ← c.room-rest.ensures, ← c.word_at-len.ensures, ← c.room.ensures) (simp (le-ltb _ _ c.if-rest-lt12.false))

pub returns-then-rest-lt12 : goal.returns-then-rest-lt12
unfolding property_of pick
returns-then-rest-lt12 c = simp (← c.room-rest.ensures, lt-ltb _ _ c.if-rest-lt12.true)

pub returns-then-property_fits : goal.returns-then-property_fits
unfolding property_named pick
returns-then-property_fits c = rw (token (goal.at.returns-then-property_fits c).After-property_fits, ← c.property_fits.ensures, c.if-property_fits.true) (rw c.up4.ensures)

pub returns-else-property_fits : goal.returns-else-property_fits
unfolding property_named pick
returns-else-property_fits c = rw (token (goal.at.returns-else-property_fits c).After-property_fits, ← c.property_fits.ensures, c.if-property_fits.false)
