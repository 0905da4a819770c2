-- `next_sent::begun` meets its contract.
use mathlib.Core.Path.{◌≡◌, sym, ap, ◌∙◌}
use mathlib.Core.Bool.{Bool, true}
use mathlib.Core.List.{List}
use Prim.Native.Nat.{ℕ}
use Rattle.std.specs.Prelude.{Ok}
use Rattle.std.proofs.lemmas.Result.{err_from_is_err_and}
use Rattle.words.proofs.Pick.{pick_yes, pick_no}
use Rattle.devtree.specs.Tokens.{tokens}
use Rattle.sent.specs.Sent.{Ahead, ahead, is_looked_at}
use Rattle.next_sent.specs.Turns.{past_turn, look_turn, begun}
use Rattle.next_sent.proofs.Turns.{none-named}
use Rattle.next_sent.proofs.begun.Goals as goal

-- by what was found ahead
found : (u : ℕ → Bool) (s st : List ℕ) (depth next : ℕ) (b : Bool) → b ≡ is_looked_at depth → b ≡ true → (r : Ahead) → r ≡ ahead s st (tokens s st next) → look_turn u s st depth next r ≡ begun u s st depth next
unfolding begun
found u s st depth next b looked holds r is = ap (look_turn u s st depth next) is ∙ sym (pick_yes _ _ _ (sym looked ∙ holds))

pub returns-then-not-is_looked_at : goal.returns-then-not-is_looked_at
unfolding begun
returns-then-not-is_looked_at c = sym (pick_no _ _ _ (sym c.is_looked_at.ensures ∙ c.if-not-is_looked_at.true))

pub returns-in_err-k : goal.returns-in_err-k
unfolding look_turn
returns-in_err-k c =
    let p = err_from_is_err_and c.from_residual.result c.from_residual.ensures.1 in
    rw (p.1, p.2) (found _ _ _ _ _ _ c.is_looked_at.ensures c.if-not-is_looked_at.false _ (sym c.in_err-k.was ∙ c.index_ahead.ensures))

pub returns-in_default : goal.returns-in_default
unfolding look_turn
returns-in_default c =
    found _ _ _ _ _ _ c.is_looked_at.ensures c.if-not-is_looked_at.false _ (sym (c.in_ok-k.was ∙ ap Ok (none-named _ c.in_default.not-Some)) ∙ c.index_ahead.ensures)

pub returns-then-not-is_unowned : goal.returns-then-not-is_unowned
unfolding look_turn
returns-then-not-is_unowned c =
    sym (pick_no _ _ _ (sym c.is_unowned.ensures ∙ c.if-not-is_unowned.true))
    ∙ found _ _ _ _ _ _ c.is_looked_at.ensures c.if-not-is_looked_at.false _ (sym (c.in_ok-k.was ∙ ap Ok c.in-Some.is) ∙ c.index_ahead.ensures)

pub returns-in_err-past_node : goal.returns-in_err-past_node
unfolding look_turn past_turn
returns-in_err-past_node c =
    let p = err_from_is_err_and c.from_residual-in_err-past_node.result c.from_residual-in_err-past_node.ensures.1 in
    rw (p.1, p.2)
    (ap past_turn (sym c.in_err-past_node.was ∙ c.past_node.ensures)
    ∙ sym (pick_yes _ _ _ (sym c.is_unowned.ensures ∙ c.if-not-is_unowned.false))
    ∙ found _ _ _ _ _ _ c.is_looked_at.ensures c.if-not-is_looked_at.false _ (sym (c.in_ok-k.was ∙ ap Ok c.in-Some.is) ∙ c.index_ahead.ensures))

pub returns : goal.returns
unfolding look_turn past_turn
returns c =
    ap past_turn (sym c.in_ok-past_node.was ∙ c.past_node.ensures)
    ∙ sym (pick_yes _ _ _ (sym c.is_unowned.ensures ∙ c.if-not-is_unowned.false))
    ∙ found _ _ _ _ _ _ c.is_looked_at.ensures c.if-not-is_looked_at.false _ (sym (c.in_ok-k.was ∙ ap Ok c.in-Some.is) ∙ c.index_ahead.ensures)
