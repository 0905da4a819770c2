-- `devtree::read_token` meets its contract.
use borrow.Author.Tests.{ne_eqb}
use Prim.Native.Nat.{◌-◌, ◌≤◌}
use native.Mathlib.Omega.{arith}
use lib.ListN.{length}
use Rattle.words.specs.Pick.{pick}
use Rattle.words.proofs.Bytes.{word_in}
use Rattle.devtree.specs.Tokens.{token_at, token_of}
use Rattle.devtree.proofs.read_token.Goals as goal

pub begin_at-requires : goal.begin_at-requires
begin_at-requires c = let w : 4 ≤ length c.args.s.now - c.skip-p.result = (word_in c.args.s.now c.skip-p.result (λ z. omega (arith, c.word_at.ensures))) in omega arith

pub overflow_add-result : goal.overflow_add-result
overflow_add-result c = let w : 4 ≤ length c.args.s.now - c.skip-p.result = (word_in c.args.s.now c.skip-p.result (λ z. omega (arith, c.word_at.ensures))) in omega arith

pub overflow_add-result-in-9 : goal.overflow_add-result-in-9
overflow_add-result-in-9 c = let w : 4 ≤ length c.args.s.now - c.skip-p.result = (word_in c.args.s.now c.skip-p.result (λ z. omega (arith, c.word_at.ensures))) in omega arith

pub returns-in-1 : goal.returns-in-1
unfolding token_at token_of pick
returns-in-1 c = simp (← c.skip-p.ensures, ← c.word_at.ensures, c.in-1.is, c.begin_at.ensures)

pub returns-in-2 : goal.returns-in-2
unfolding token_at token_of pick
returns-in-2 c = simp (← c.skip-p.ensures, ← c.word_at.ensures, c.in-2.is)

pub returns-in-3 : goal.returns-in-3
unfolding token_at token_of pick
returns-in-3 c = simp (← c.skip-p.ensures, ← c.word_at.ensures, c.in-3.is, c.property_at.ensures)

pub returns-in-9 : goal.returns-in-9
unfolding token_at token_of pick
returns-in-9 c = simp (← c.skip-p.ensures, ← c.word_at.ensures, c.in-9.is)

pub returns-in_default : goal.returns-in_default
unfolding token_at token_of pick
returns-in_default c =
    let w = c.in_default.in_default-own.rest in
    simp (
      ← c.skip-p.ensures,
      ← c.word_at.ensures,
      ne_eqb _ _ w.1,
      ne_eqb _ _ w.0.1,
      ne_eqb _ _ w.0.0.1,
      ne_eqb _ _ w.0.0.0.1,
      c.fault_at.ensures,
    )

pub property_at-requires : goal.property_at-requires
property_at-requires c = let w : 4 ≤ length c.args.s.now - c.skip-p.result = (word_in c.args.s.now c.skip-p.result (λ z. omega (arith, c.word_at.ensures))) in omega arith
