-- What holds of every offset: the statement of the law that `proofs/Laws.antt` proves. `s` is the structure block, `st` the strings block.
use Rattle.std.specs.Prelude.{ℕ, ◌≤◌, min, ◌≡◌, List, [], ◌∷◌, Bool, true, false, eqb, length}
use Rattle.words.specs.Pick.{pick}
use Rattle.devtree.specs.Tokens.{skipped, token_at, tokens}
use Rattle.devtree.specs.declared.Token.{Token}
use Rattle.connector.specs.declared.Connector.{Connector}
use Rattle.guards.specs.Guards.{readable}
use Rattle.walk.specs.Step.{step}
use Rattle.faults.specs.Status.{is_bad_tree}
use Rattle.faults.specs.Faults.{offset_of, step_fault}

-- x is the offset of one of the tokens
unfoldable pub is_offset : ℕ → List Token → Bool
is_offset x [] = false
is_offset x (t ∷ ts) = pick (eqb x (offset_of t)) true (is_offset x ts)

pub record FaultLaw (unowned : ℕ → Bool) (c : Connector) (area s st : List ℕ) : Type 0 where
  -- at most the block's length
  pub inside : step_fault unowned c area s st ≤ length s
  -- 0 with any other status than -1, and where no token is read
  pub others : is_bad_tree (step unowned c area s st).stepped.status ≡ false → step_fault unowned c area s st ≡ 0
  pub unread : readable (length s) (length st) c.walk.place ≡ false → step_fault unowned c area s st ≡ 0
  -- else that of a token from the walk's place on
  pub met : is_bad_tree (step unowned c area s st).stepped.status ≡ true → readable (length s) (length st) c.walk.place ≡ true → is_offset (step_fault unowned c area s st) (tokens s st c.walk.place) ≡ true
  -- a token stands past the no-ops before it, also one cut short by the end; at the block's length, if nothing but no-ops is left
  pub stands : (at : ℕ) → offset_of (token_at s st at) ≡ min (skipped s at) (length s)
