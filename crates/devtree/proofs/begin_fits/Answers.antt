-- `devtree::begin_fits` meets its contract: each test of the code decides one of the definition's.
use mathlib.Core.Path.{sym}
use mathlib.Core.Logic.{inl, inr}
use borrow.Author.Tests.{lt-leb, le-leb}
use Rattle.words.specs.Pick.{pick, every}
use Rattle.words.proofs.Pick.{pick_same}
use Rattle.devtree.proofs.begin_fits.Goals as goal

pub returns-then-n-le47 : goal.returns-then-n-le47
unfolding every pick
returns-then-n-le47 c = simp (le-leb _ _ c.if-n-le47.true.0, le-leb _ _ c.if-n-le47.true.1, c.up4.ensures) (sym (pick_same _))

pub returns-else-n-le47 : goal.returns-else-n-le47
unfolding every pick
returns-else-n-le47 c = elim c.if-n-le47.either [ inl w ↦ simp (le-leb _ _ w.0, lt-leb _ _ w.1) (cc) | inr w ↦ simp (lt-leb _ _ w) (cc) ]
