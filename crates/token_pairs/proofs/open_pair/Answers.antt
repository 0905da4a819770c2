-- `token_pairs::open_pair` meets its contract.
use Rattle.words.specs.Pick.{pick}
use Rattle.token_pairs.specs.Pairs.{open_pair}
use Rattle.token_pairs.proofs.Bytes.{same-parts}
use Rattle.token_pairs.proofs.Pairs.{open-other}
use Rattle.token_pairs.proofs.open_pair.Goals as goal

pub returns-in_default : goal.returns-in_default
returns-in_default c = open-other _ _ _ _ _ c.args.y c.in_default.not-Begin

pub returns-then-eq : goal.returns-then-eq
unfolding open_pair pick
returns-then-eq c = let a = c.args in rw (c.in-Begin.is, ← same-parts a.a.now a.at a.n a.b.now c.in-Begin.name_at c.in-Begin.name_len _ c.eq.ensures, c.if-eq.true)

pub returns-else-eq : goal.returns-else-eq
unfolding open_pair pick
returns-else-eq c = let a = c.args in rw (c.in-Begin.is, ← same-parts a.a.now a.at a.n a.b.now c.in-Begin.name_at c.in-Begin.name_len _ c.eq.ensures, c.if-eq.false)
