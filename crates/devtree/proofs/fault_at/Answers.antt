-- `devtree::fault_at` meets its contract.
use Rattle.devtree.specs.Tokens.{fault_at}
use Rattle.devtree.proofs.fault_at.Goals as goal

pub returns : goal.returns
unfolding fault_at
returns c = cc
