-- `want_back::want_back_status` meets its contract.
use borrow.Author.Tests.{eq-eqb, ne_eqb}
use Rattle.words.specs.Pick.{pick}
use Rattle.want_back.specs.WantBack.{want_back_status}
use Rattle.want_back.proofs.want_back_status.Goals as goal

pub returns-then-c-eq0 : goal.returns-then-c-eq0
unfolding want_back_status pick
returns-then-c-eq0 c = rw (eq-eqb _ _ c.if-c-eq0.true)

pub returns : goal.returns
unfolding want_back_status pick
returns c = rw (ne_eqb _ _ c.if-c-eq0.false)
