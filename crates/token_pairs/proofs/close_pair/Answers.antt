-- `token_pairs::close_pair` meets its contract.
use Rattle.token_pairs.specs.Pairs.{close_pair}
use Rattle.token_pairs.proofs.Pairs.{close_other}
use Rattle.token_pairs.proofs.close_pair.Goals as goal

pub returns-in-EndNode : goal.returns-in-EndNode
unfolding close_pair
returns-in-EndNode c = rw c.in-EndNode.is

pub returns-in_default : goal.returns-in_default
returns-in_default c = close_other _ c.args.y c.in_default.not-EndNode
