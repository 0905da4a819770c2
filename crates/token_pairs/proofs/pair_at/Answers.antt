-- `token_pairs::pair_at` meets its contract.
use mathlib.Core.Path.{sym, ◌∙◌}
use Rattle.token_pairs.specs.Pairs.{pair_at, pair_of}
use Rattle.token_pairs.proofs.Pairs.{node_in, property-in, other-pair}
use Rattle.token_pairs.proofs.pair_at.Goals as goal

pub open_pair-requires : goal.open_pair-requires
open_pair-requires c =
    let a = c.args in
    (node_in a.a.now a.astrings.now a.p.a _ (sym c.read_token.ensures ∙ c.in-Begin.is), node_in a.b.now a.bstrings.now a.p.b _ (sym c.read_token-y.ensures))

pub equal_pair-requires : goal.equal_pair-requires
equal_pair-requires c =
    let a = c.args in
    let x = property-in a.a.now a.astrings.now a.p.a _ (sym c.read_token.ensures ∙ c.in-Property.is) in
    (x.0, x.1, property-in a.b.now a.bstrings.now a.p.b _ (sym c.read_token-y.ensures))

pub returns-in-Begin : goal.returns-in-Begin
unfolding pair_at pair_of
returns-in-Begin c = rw (← c.read_token-y.ensures, ← c.read_token.ensures, c.in-Begin.is) c.open_pair.ensures

pub returns-in-Property : goal.returns-in-Property
unfolding pair_at pair_of
returns-in-Property c = rw (← c.read_token-y.ensures, ← c.read_token.ensures, c.in-Property.is) c.equal_pair.ensures

pub returns-in-EndNode : goal.returns-in-EndNode
unfolding pair_at pair_of
returns-in-EndNode c = rw (← c.read_token-y.ensures, ← c.read_token.ensures, c.in-EndNode.is) c.close_pair.ensures

pub returns-in_default : goal.returns-in_default
returns-in_default c =
    let a = c.args in
    other-pair a.a.now a.astrings.now a.b.now a.bstrings.now a.p _ c.read_token.ensures c.in_default.not-Begin c.in_default.not-Property c.in_default.not-EndNode
