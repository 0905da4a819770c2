use mathlib.Core.Path.{◌≡◌, refl, sym, ap, subst, ◌∙◌}
use mathlib.Core.Bool.{Bool}
use mathlib.Core.List.{List}
use Prim.Native.Nat.{ℕ}
use native.Mathlib.Omega.{arith}
use Rattle.devtree.specs.Tokens.{token_at, tokens}
use Rattle.devtree.specs.declared.Token.{Token}
use Rattle.devtree.proofs.Tokens.{lies, tokens-are}
use Rattle.sent.specs.Sent.{sent_of, next_sent}
use Rattle.std.specs.Prelude.{Ok}
use Rattle.next_sent.specs.Turns.{Turn, met}
use Rattle.next_sent.proofs.Turns.{Onward, sends, met-sends, met-on}
use Rattle.next_sent.proofs.next_sent.Goals as goal

-- a turn of the loop, by what becomes of the token that it met
turn : (u : ℕ → Bool) (s st : List ℕ) (depth place at : ℕ) (t : Token) (r : Turn) → next_sent u s st depth place ≡ sent_of u s st depth 0 (tokens s st at) → t ≡ token_at s st at → r ≡ met u s st depth t → (x : Turn) → r ≡ x → (next_sent u s st depth place ≡ sends u s st depth t x) × Onward s at x
turn u s st depth place at t r inv token turned x e =
    let is = sym token in
    let became = sym turned ∙ e in (
      inv ∙ ap (sent_of u s st depth 0) (tokens-are s st at _ is) ∙ met-sends u s st depth _ ∙ ap (sends u s st depth t) became,
      subst (Onward s at) became (met-on u s st depth at _ (lies s st at _ is)),
    )

pub loop-token-init : goal.loop-token-init
unfolding next_sent
loop-token-init c = refl

pub returns-in-Ok-None : goal.returns-in-Ok-None
returns-in-Ok-None c = sym (turn _ _ _ _ _ _ _ _ c.loop-token.invariant c.read_token-token.ensures c.met.ensures _ (c.in-Ok-None.is ∙ ap Ok c.in-Ok-None.field-0-is)).0

pub returns-in-Err : goal.returns-in-Err
returns-in-Err c = sym (turn _ _ _ _ _ _ _ _ c.loop-token.invariant c.read_token-token.ensures c.met.ensures _ c.in-Err.is).0

pub loop-token-smaller : goal.loop-token-smaller
loop-token-smaller c = let w = (turn _ _ _ _ _ _ _ _ c.loop-token.invariant c.read_token-token.ensures c.met.ensures _ (c.in-Ok-Some.is ∙ ap Ok c.in-Ok-Some.field-0-is)).1 in omega arith

pub loop-token-preserved : goal.loop-token-preserved
loop-token-preserved c = (turn _ _ _ _ _ _ _ _ c.loop-token.invariant c.read_token-token.ensures c.met.ensures _ (c.in-Ok-Some.is ∙ ap Ok c.in-Ok-Some.field-0-is)).0
