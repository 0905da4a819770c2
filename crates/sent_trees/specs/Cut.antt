-- A structure block that passes the check with the bytes of the nodes that a walk leaves out cut out. `s` is the structure block, `st` the strings block; `us` has a predicate for each token that is sent.
use Rattle.std.specs.Prelude.{ℕ, zero, suc, ◌+◌, ◌-◌, List, [], ◌∷◌, ◌++◌, Some, None, Ok, Err, Bool, false, leb, drop}
use Rattle.words.specs.Pick.{pick, every}
use Rattle.words.specs.Bytes.{part}
use Rattle.devtree.specs.Tokens.{tokens}
use Rattle.devtree.specs.declared.Token.{Token}
use Rattle.devtree.specs.declared.Token.TheVariants.{Begin, Property, EndNode, End, Fault}
use Rattle.sent.specs.Sent.{Ahead, ahead}
use Rattle.sent_trees.specs.Trees.{at_next}

-- a node is left out, by what stands ahead past its begin-node
abbrev pub leaves_out : (ℕ → Bool) → Ahead → Bool
leaves_out unowned (Ok None) = false
leaves_out unowned (Ok (Some k)) = unowned k.0
leaves_out unowned (Err fault) = false

-- the bytes that are left from `at` on, where these tokens stand: `depth` nodes are open that are sent, and in them `below` that are not. A node's bytes go from its begin-node token to past its end-node token; no-ops before it stay
unfoldable pub cut_from : List (ℕ → Bool) → List ℕ → List ℕ → ℕ → ℕ → ℕ → List Token → List ℕ
cut_from us s st depth below at [] = []
cut_from us s st depth zero at (Begin p a n next ∷ ts) =
    pick (every (leb 1 depth ∷ leaves_out (at_next us) (ahead s st ts) ∷ []))
    (part s at (p - at) ++ cut_from us s st depth 1 next ts)
    (part s at (next - at) ++ cut_from (drop 1 us) s st (depth + 1) 0 next ts)
cut_from us s st depth zero at (Property p a n v l next ∷ ts) = part s at (next - at) ++ cut_from (drop 1 us) s st depth 0 next ts
cut_from us s st depth zero at (EndNode p next ∷ ts) = part s at (next - at) ++ cut_from (drop 1 us) s st (depth - 1) 0 next ts
cut_from us s st depth zero at (End p next ∷ ts) = drop at s
cut_from us s st depth zero at (Fault p ∷ ts) = drop at s
cut_from us s st depth (suc below) at (Begin p a n next ∷ ts) = cut_from us s st depth (suc (suc below)) next ts
cut_from us s st depth (suc below) at (Property p a n v l next ∷ ts) = cut_from us s st depth (suc below) next ts
cut_from us s st depth (suc below) at (EndNode p next ∷ ts) = cut_from us s st depth below next ts
cut_from us s st depth (suc below) at (End p next ∷ ts) = []
cut_from us s st depth (suc below) at (Fault p ∷ ts) = []

unfoldable pub cut : List (ℕ → Bool) → List ℕ → List ℕ → List ℕ
cut us s st = cut_from us s st 0 0 0 (tokens s st 0)
