-- The scan passes exactly where each sentence of the check holds.
use mathlib.Core.Path.{◌≡◌, refl, ap, sym, ◌∙◌}
use mathlib.Core.List.{List, [], ◌∷◌}
use mathlib.Core.Bool.{Bool, true, false}
use Prim.Native.Nat.{ℕ, ◌+◌, ◌-◌, ◌<◌, ◌≤◌, ◌%◌}
use native.Mathlib.Omega.{arith}
use lib.ListN.{length}
use lib.Dec.{eqb, leb, ltb}
use borrow.Author.Tests.{eqb-true, eqb-false, le-ltb, lt-ltb, le-leb, lt-leb, leb-true}
use types.Run.{OneOf, miss}
use denote.Enum.Declared.{tag_of}
use Rattle.devtree.specs.contracts.Token.{the_type}
use Rattle.words.specs.Pick.{pick, every}
use Rattle.words.proofs.Pick.{pick-cases, pick_same, every-each, every-never, every_append}
use Rattle.devtree.specs.Tokens.{token_at, tokens, and_then}
use Rattle.devtree.specs.Check.{last_token, closes, one_root, nested, clean, padded, ordered, well_formed, passes}
use Rattle.devtree.specs.Tree.{tree, events_from}
use Rattle.devtree.specs.Names.{names_differ}
use Rattle.devtree.proofs.Tree.{formed-flat}
use Rattle.devtree.proofs.Tokens.{tokens-law}
use Rattle.devtree.specs.declared.Token.{Token}
use Rattle.devtree.specs.declared.Token.TheVariants.{Begin, Property, EndNode, End, Fault}
use Rattle.treecheck.specs.Lists.{apart, node_from, node_root}
use Rattle.treecheck.proofs.Apart.{apart-flat}
use Rattle.treecheck.proofs.Events.{begin-events}
use Rattle.treecheck.specs.Scan.{sized, strict, strict_at, scan_token, scan, scan_from, scan_root}

-- the sentences that go by the tokens, with `depth` nodes open
abbrev sentences : List ℕ → ℕ → Bool → List Token → Bool
sentences s depth child ts = every (closes s depth ts ∷ nested depth ts ∷ padded s ts ∷ ordered child ts ∷ [])

step-begin : (b : Bool) (left : ℕ) (C N P O : Bool) (go : ℕ → Bool → Bool) (last child : Bool) (p a n next : ℕ) → left ≤ 7
    → ((left ≡ 0 → ⊥) → go (left - 1) false ≡ every (C ∷ N ∷ P ∷ O ∷ []))
    → scan_token go last left child (pick b (Begin p a n next) (Fault p)) ≡ every (C ∷ pick (ltb (8 - left) 8) N false ∷ pick b P false ∷ O ∷ [])
unfolding scan_token pick
step-begin false left C N P O go last child p a n next h more = sym (every-never (C ∷ pick (ltb (8 - left) 8) N false ∷ []) (O ∷ []))
step-begin true left C N P O go last child p a n next h more = test (eqb left 0) refl
  where
    test : (e : Bool) → eqb left 0 ≡ e → pick (eqb left 0) false (go (left - 1) false) ≡ every (C ∷ pick (ltb (8 - left) 8) N false ∷ P ∷ O ∷ [])
    test true e = let z = eqb-true left 0 e in simp (e, le-ltb (8 - left) 8 (omega arith)) (sym (every-never (C ∷ []) (P ∷ O ∷ [])))
    test false e = let z = eqb-false left 0 e in simp (e, lt-ltb (8 - left) 8 (omega arith)) (more z)

step-property : (b : Bool) (left : ℕ) (C N P O : Bool) (go : ℕ → Bool → Bool) (last child : Bool) (p a n v l next : ℕ)
    → go left false ≡ every (C ∷ N ∷ P ∷ O ∷ [])
    → scan_token go last left child (pick b (Property p a n v l next) (Fault p)) ≡ every (C ∷ N ∷ pick b P false ∷ pick child false O ∷ [])
unfolding scan_token pick
step-property false left C N P O go last child p a n v l next more = sym (every-never (C ∷ N ∷ []) (pick child false O ∷ []))
step-property true left C N P O go last true p a n v l next more = sym (every-never (C ∷ N ∷ P ∷ []) [])
step-property true left C N P O go last false p a n v l next more = more

-- after the root, the last token alone meets the other sentences too
last-each : (s : List ℕ) (depth : ℕ) (ts : List Token) → last_token s ts ≡ every (last_token s ts ∷ nested depth ts ∷ padded s ts ∷ ordered true ts ∷ [])
unfolding last_token nested padded ordered clean every pick
last-each s depth [] = refl
last-each s depth (Begin p a n next ∷ ts) = refl
last-each s depth (Property p a n v l next ∷ ts) = refl
last-each s depth (EndNode p next ∷ ts) = refl
last-each s depth (End p next ∷ []) = sym (pick_same (eqb next (length s)))
last-each s depth (End p next ∷ (t ∷ ts)) = refl
last-each s depth (Fault p ∷ ts) = refl

step_end : (s : List ℕ) (left : ℕ) (ts : List Token) → left ≤ 7
    → ((left < 7) → scan s (left + 1) true ts ≡ sentences s (8 - left - 1) true ts)
    → pick (eqb left 7) (last_token s ts) (scan s (left + 1) true ts) ≡ every (pick (leb (8 - left) 1) (last_token s ts) (closes s (8 - left - 1) ts) ∷ nested (8 - left - 1) ts ∷ padded s ts ∷ ordered true ts ∷ [])
unfolding pick
step_end s left ts h more = test (eqb left 7) refl
  where
    test : (e : Bool) → eqb left 7 ≡ e → pick (eqb left 7) (last_token s ts) (scan s (left + 1) true ts) ≡ every (pick (leb (8 - left) 1) (last_token s ts) (closes s (8 - left - 1) ts) ∷ nested (8 - left - 1) ts ∷ padded s ts ∷ ordered true ts ∷ [])
    test true e = let z = eqb-true left 7 e in simp (e, le-leb (8 - left) 1 (omega arith)) (last-each s (8 - left - 1) ts)
    test false e = let z = eqb-false left 7 e in simp (e, lt-leb (8 - left) 1 (omega arith)) (more (omega arith))

pub scan-each : (s : List ℕ) (left : ℕ) (child : Bool) (ts : List Token) → left ≤ 7 → scan s left child ts ≡ sentences s (8 - left) child ts
unfolding scan closes nested padded ordered strict clean scan_token pick every
scan-each s left child [] h = refl
scan-each s left child (Begin p a n next ∷ ts) h =
    let less = scan-each s (left - 1) false ts in
    step-begin (clean s (Begin p a n next)) left (closes s (8 - left + 1) ts) (nested (8 - left + 1) ts) (padded s ts) (ordered false ts) (λ l c. scan s l c ts) (last_token s ts) child p a n next h
    (λ z. let up : 8 - (left - 1) ≡ 8 - left + 1 = omega arith in rw up at (less (omega arith)))
scan-each s left child (Property p a n v l next ∷ ts) h =
    step-property (clean s (Property p a n v l next)) left (closes s (8 - left) ts) (nested (8 - left) ts) (padded s ts) (ordered false ts) (λ k c. scan s k c ts) (last_token s ts) child p a n v l next (scan-each s left false ts h)
scan-each s left child (EndNode p next ∷ ts) h =
    let more = scan-each s (left + 1) true ts in
    step_end s left ts h (λ z. let down : 8 - (left + 1) ≡ 8 - left - 1 = omega arith in rw down at (more (omega arith)))
scan-each s left child (End p next ∷ ts) h = refl
scan-each s left child (Fault p ∷ ts) h = refl

-- from the root's token on
root-begin : (s st : List ℕ) (b : Bool) (C N P O : Bool) (p a n next : ℕ) → scan_from s st 7 false next ≡ every (C ∷ N ∷ P ∷ O ∷ []) → scan_root s st (pick b (Begin p a n next) (Fault p)) ≡ every (C ∷ N ∷ pick b P false ∷ O ∷ [])
unfolding scan_root pick
root-begin s st true C N P O p a n next e = e
root-begin s st false C N P O p a n next e = sym (every-never (C ∷ N ∷ []) (O ∷ []))

root-each : (s st : List ℕ) (t : Token) → scan_root s st (strict s t) ≡ every (one_root s (and_then (tokens s st) t) ∷ nested 0 (and_then (tokens s st) t) ∷ padded s (and_then (tokens s st) t) ∷ ordered false (and_then (tokens s st) t) ∷ [])
unfolding scan_root scan_from strict clean and_then one_root nested padded ordered pick every
root-each s st (Begin p a n next) = root-begin s st (clean s (Begin p a n next)) (closes s 1 (tokens s st next)) (nested 1 (tokens s st next)) (padded s (tokens s st next)) (ordered false (tokens s st next)) p a n next (scan-each s 7 false (tokens s st next) (omega arith))
root-each s st (Property p a n v l next) = pick-cases (λ u. scan_root s st u ≡ false) (clean s (Property p a n v l next)) _ _ (λ _. refl) (λ _. refl)
root-each s st (EndNode p next) = refl
root-each s st (End p next) = refl
root-each s st (Fault p) = refl

-- the blocks are well formed exactly where the lengths and the scan are as they must be
formed-law : (s st : List ℕ) → well_formed s st ≡ pick (sized s st) (scan_root s st (strict_at s st 0)) false
unfolding well_formed sized strict_at
formed-law s st =
    every_append (leb (length s) 32768 ∷ eqb (length s % 4) 0 ∷ leb (length st) 4096 ∷ []) _
    ∙ ap (λ x. pick (sized s st) x false) (rw (tokens-law s st 0) (sym (root-each s st (token_at s st 0))))

-- the root's token, and the names from past it on
root_names : (s st : List ℕ) (u : Token) → strict_at s st 0 ≡ u → pick (scan_root s st u) (apart (events_from s st 0)) false ≡ node_root s st u
unfolding scan_root node_root node_from apart every pick
root_names s st (Begin p a n next) e = rw (begin-events s st 0 p a n next e)
root_names s st (Property p a n v l next) e = refl
root_names s st (EndNode p next) e = refl
root_names s st (End p next) e = refl
root_names s st (Fault p) e = refl

-- where the blocks are well formed, the names of the tree are those of the events
formed-names : (s st : List ℕ) → well_formed s st ≡ true → names_differ (tree s st) ≡ apart (events_from s st 0)
formed-names s st e = sym (apart-flat (tree s st)) ∙ ap apart (formed-flat s st e)

by_form : (f z r d a : Bool) → f ≡ pick z r false → (f ≡ true → d ≡ a) → pick f (pick d true false) false ≡ pick z (pick r a false) false
unfolding pick
by_form f false r d a e g = rw e refl
by_form f true false d a e g = rw e refl
by_form f true true d a e g = rw e (pick_same d ∙ g e)

-- the check passes exactly where the lengths, the scan and the names are as they must be
pub passes-law : (s st : List ℕ) → passes s st ≡ pick (sized s st) (node_root s st (strict_at s st 0)) false
unfolding passes every
passes-law s st =
    let r = root_names s st (strict_at s st 0) refl in
    by_form (well_formed s st) (sized s st) (scan_root s st (strict_at s st 0)) (names_differ (tree s st)) (apart (events_from s st 0)) (formed-law s st) (formed-names s st)
    ∙ ap (λ b. pick (sized s st) b false) r

-- the check's answer, by the lengths and the scan
pub unsized : (s st : List ℕ) → sized s st ≡ false → ◌≡◌ {A = ℕ} 0 (pick (passes s st) 1 0)
unfolding pick
unsized s st e = rw (passes-law s st, e)

pub scanned : (s st : List ℕ) (b : Bool) → sized s st ≡ true → node_root s st (strict_at s st 0) ≡ b → ◌≡◌ {A = ℕ} (pick b 1 0) (pick (passes s st) 1 0)
unfolding pick
scanned s st b e f = rw (passes-law s st, e, f)

pub sizes-are : (s st : List ℕ) → sized s st ≡ true → (length s ≤ 32768) × (length st ≤ 4096)
unfolding sized
sizes-are s st e = let f = every-each _ e in (leb-true _ _ f.0, leb-true _ _ f.1.1.0)

-- no other token begins a root
pub not_root : (s st : List ℕ) (t : Token) → OneOf (1 ∷ 2 ∷ 3 ∷ 4 ∷ []) (tag_of the_type t) → node_root s st t ≡ false
unfolding node_root
not_root s st (Begin p a n next) k = absurd (miss (1 ∷ 2 ∷ 3 ∷ 4 ∷ []) 0 tt k)
not_root s st (Property p a n v l next) k = refl
not_root s st (EndNode p next) k = refl
not_root s st (End p next) k = refl
not_root s st (Fault p) k = refl
