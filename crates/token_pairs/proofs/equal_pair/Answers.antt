-- `token_pairs::equal_pair` meets its contract.
use mathlib.Core.Path.{◌≡◌, sym, ◌∙◌}
use mathlib.Core.Bool.{Bool, true, false}
use Rattle.words.specs.Pick.{pick}
use Rattle.words.specs.Bytes.{part}
use Rattle.same_trees.specs.Same.{same_bytes}
use Rattle.token_pairs.specs.Pairs.{equal_pair}
use Rattle.token_pairs.proofs.Bytes.{same-parts}
use Rattle.token_pairs.proofs.Pairs.{equal-other}
use Rattle.token_pairs.proofs.equal_pair.Goals as goal
use Rattle.token_pairs.proofs.equal_pair.Goals.{After-eq, else-eq-via-then-eq+else-eq-2, else-eq-via-else-eq}

pub returns-in_default : goal.returns-in_default
returns-in_default c = equal-other _ _ _ _ _ _ _ _ _ c.args.y c.in_default.not-Property

-- what the comparison of the names answered
name : (c : After-eq) (b : Bool) → c.eq.result ≡ b → let a = c.args in same_bytes (part a.astrings.now a.at a.n) (part a.bstrings.now c.in-Property.name_at c.in-Property.name_len) ≡ b
name c b e = let a = c.args in sym (same-parts a.astrings.now a.at a.n a.bstrings.now c.in-Property.name_at c.in-Property.name_len _ c.eq.ensures) ∙ e

pub returns-then-eq-2 : goal.returns-then-eq-2
unfolding equal_pair pick
returns-then-eq-2 c =
    let a = c.args in
    rw (
      c.in-Property.is,
      name (goal.at.returns-then-eq-2 c).After-eq true c.if-eq.true,
      ← same-parts a.a.now a.value a.len a.b.now c.in-Property.value_at c.in-Property.value_len _ c.eq-then-eq.ensures,
      c.if-eq-2.true,
    )

pub returns-else-eq : goal.returns-else-eq
unfolding equal_pair pick
returns-else-eq c =
    let a = c.args in
    let m = (goal.at.returns-else-eq c).After-eq in
    elim c.else-eq.branch [
      | else-eq-via-then-eq+else-eq-2 w ↦
          rw (
            c.in-Property.is,
            name m true w.if-eq.true,
            ← same-parts a.a.now a.value a.len a.b.now c.in-Property.value_at c.in-Property.value_len _ w.eq-then-eq.ensures,
            w.if-eq-2.false,
          )
      | else-eq-via-else-eq w ↦ rw (c.in-Property.is, name m false w.if-eq.false)
    ]
