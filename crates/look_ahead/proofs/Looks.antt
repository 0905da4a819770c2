-- A look ahead, token by token: what stands ahead from a place on, by the token that is met there.
use mathlib.Core.Path.{◌≡◌, refl, ap, subst, ◌∙◌}
use mathlib.Core.List.{List}
use mathlib.Core.Bool.{Bool, true, false}
use Prim.Native.Nat.{ℕ, ◌+◌, ◌-◌, ◌<◌, ◌≤◌, min}
use native.Mathlib.Omega.{arith}
use lib.ListN.{length}
use lib.Dec.{eqb}
use borrow.Author.Tests.{ne_eqb, eqb-true, eqb-false}
use Rattle.std.specs.Prelude.{Option, Some, None, Ok, Err, ok_or}
use Rattle.words.specs.Pick.{pick}
use Rattle.words.specs.Bytes.{part, word_at, name_length}
use Rattle.words.proofs.Pick.{pick-cases}
use Rattle.words.proofs.Bytes.{word_in}
use Rattle.devtree.specs.Tokens.{up4, skipped, begin_at, begin_named, property_at, fault_at, token_of, token_at, and_then, tokens, past, broken}
use Rattle.devtree.specs.declared.Broken.{Broken}
use Rattle.devtree.specs.declared.Token.TheVariants.{Begin, End, Fault}
use Rattle.devtree.proofs.Tokens.{Within, begin_tests, tokens-law, token-in}
use Rattle.devtree.proofs.Here.{token-here, property-past, property-none}
use Rattle.sent.specs.Sent.{Ahead, names_connector, ahead}

-- ---- an answer, or a fault where there is none

pub ok-some : (o : Option ℕ) (b : Broken) (x : ℕ) → ok_or o b ≡ Ok x → o ≡ Some x
ok-some (Some y) b x e = let z : y ≡ x = cc in ap Some z
ok-some None b x e = cc

pub ok-none : (o : Option ℕ) (b f : Broken) → ok_or o b ≡ Err f → (o ≡ None) × (b ≡ f)
ok-none (Some y) b f e = cc
ok-none None b f e = (refl, cc)

-- ---- what stands ahead from p on, where the next word that is no no-op stands at q

module _ (s st : List ℕ) (p q k : ℕ) (place : q ≡ skipped s p) (word : k ≡ word_at s q) where
  met : (a : Ahead) → ahead s st (and_then (tokens s st) (token_of s st q k)) ≡ a → ahead s st (tokens s st p) ≡ a
  met a e = rw (tokens-law s st p, token-here s st p q k place word) e

  -- a begin-node, which is not checked
  begin-ahead : k ≡ 1 → ahead s st (tokens s st p) ≡ Ok None
  unfolding token_of begin_at begin_named ahead and_then pick
  begin-ahead e =
      let n : ℕ = name_length 48 s (q + 4) in
      met _ (rw e (pick-cases (λ t. ahead s st (and_then (tokens s st) t) ≡ Ok None) (begin_tests n (length s - (q + 4))) (Begin q (q + 4) n (q + 4 + up4 (n + 1))) (Fault q) (λ _. refl) (λ _. rw (← word, e))))

  end-ahead : k ≡ 2 → ahead s st (tokens s st p) ≡ Ok None
  unfolding token_of ahead and_then pick
  end-ahead e = met _ (rw e)

  -- or an end-node
  pub node-ahead : 1 ≤ k → k ≤ 2 → ahead s st (tokens s st p) ≡ Ok None
  node-ahead l h = go (eqb k 1) refl
    where
      go : (b : Bool) → eqb k 1 ≡ b → ahead s st (tokens s st p) ≡ Ok None
      go true e = begin-ahead (eqb-true k 1 e)
      go false e = let n = eqb-false k 1 e in end-ahead (omega arith)

  -- any other token than a property: no other fault is a begin-node
  pub fault-ahead : (k ≡ 1 → ⊥) → (k ≡ 2 → ⊥) → (k ≡ 3 → ⊥) → ahead s st (tokens s st p) ≡ Err (broken (min q (length s)))
  unfolding token_of fault_at ahead and_then pick
  fault-ahead a b c = met _ (rw (ne_eqb k 1 a, ne_eqb k 2 b, ne_eqb k 3 c) (go (eqb k 9) refl))
    where
      not-begin : word_at s (min q (length s)) ≡ 1 → ⊥
      not-begin e =
          let i = word_in s (min q (length s)) (λ z. omega arith) in
          let same : min q (length s) ≡ q = omega arith in
          a (word ∙ rw same at e)

      go : (x : Bool) → eqb k 9 ≡ x → ahead s st (and_then (tokens s st) (pick x (End q (q + 4)) (Fault (min q (length s))))) ≡ Err (broken (min q (length s)))
      go true e =
          let i = word_in s q (λ z. omega (arith, eqb-true k 9 e)) in
          let same : min q (length s) ≡ q = omega arith in
          rw same
      go false e = rw (ne_eqb (word_at s (min q (length s))) 1 not-begin)

  module _ (is : k ≡ 3) where
    here : token_at s st p ≡ property_at s st q
    unfolding token_of pick
    here = token-here s st p q k place word ∙ rw is

    -- a property that is not as it must be
    pub no-property-ahead : past (property_at s st q) ≡ None → ahead s st (tokens s st p) ≡ Err (broken q)
    unfolding ahead and_then pick
    no-property-ahead e = rw (tokens-law s st p, here, property-none s st q e, ← word, is)

    -- a property, which may name a connector
    module _ (next : ℕ) (e : past (property_at s st q) ≡ Some next) where
      pub property-ahead : ahead s st (tokens s st p)
          ≡ pick (names_connector (part st (word_at s (q + 8)) (name_length 32 st (word_at s (q + 8)))) (word_at s (q + 4))) (Ok (Some (record { 0 = word_at s (q + 12) }))) (ahead s st (tokens s st next))
      unfolding ahead and_then
      property-ahead = rw (tokens-law s st p, here, property-past s st q next e)

      -- and what follows it stands past p
      pub moves : (p < next) × (q + 12 ≤ next) × (next ≤ length s)
      moves =
          let w = subst (Within s p) (here ∙ property-past s st q next e) (token-in s st p) in
          omega arith
