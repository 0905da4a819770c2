-- Laws of `pick` and `every`.
use Rattle.std.proofs.Common.{◌≡◌, Bool, true, false, ◌⊎◌, List, [], ◌∷◌, ◌++◌, sym, refl, inl, inr}
use mathlib.Core.Bool.{false≢true}
use Rattle.words.specs.Pick.{pick, every}

-- what holds of both answers of a test holds of the answer
pub pick-cases : {A : Type 0} (P : A → Type 0) (b : Bool) (x y : A) → (b ≡ true → P x) → (b ≡ false → P y) → P (pick b x y)
unfolding pick
pick-cases P true x y f g = f refl
pick-cases P false x y f g = g refl

-- and so do two answers of one test
pub both-cases : {A B : Type 0} (P : A → B → Type 0) (b : Bool) {x y : A} {x' y' : B} → (b ≡ true → P x x') → (b ≡ false → P y y') → P (pick b x y) (pick b x' y')
unfolding pick
both-cases P true p q = p refl
both-cases P false p q = q refl

pub both-picks : {A B : Type 0} (P : A → B → Type 0) (b : Bool) {x y : A} {x' y' : B} → P x x' → P y y' → P (pick b x y) (pick b x' y')
both-picks P b p q = both-cases P b (λ _. p) (λ _. q)

pub pick_yes : {A : Type 0} (b : Bool) (x y : A) → b ≡ true → pick b x y ≡ x
unfolding pick
pick_yes true x y e = refl
pick_yes false x y e = absurd (false≢true e)

pub pick_no : {A : Type 0} (b : Bool) (x y : A) → b ≡ false → pick b x y ≡ y
unfolding pick
pick_no true x y e = absurd (false≢true (sym e))
pick_no false x y e = refl

-- each test of the list holds
abbrev pub Each : List Bool → Type 0
Each [] = Unit
Each (b ∷ bs) = (b ≡ true) × Each bs

pub every-each : (bs : List Bool) → every bs ≡ true → Each bs
unfolding every pick
every-each [] e = tt
every-each (true ∷ bs) e = (refl, every-each bs e)
every-each (false ∷ bs) e = absurd (false≢true e)

pub each-every : (bs : List Bool) → Each bs → every bs ≡ true
unfolding every pick
each-every [] e = refl
each-every (true ∷ bs) e = each-every bs e.1
each-every (false ∷ bs) e = e.0

-- which answer a test gave, where the answer is true
pub pick-either : (b x y : Bool) → pick b x y ≡ true → ((b ≡ true) × (x ≡ true)) ⊎ ((b ≡ false) × (y ≡ true))
unfolding pick
pick-either true x y e = inl (refl, e)
pick-either false x y e = inr (refl, e)

pub pick-and : (b x : Bool) → pick b x false ≡ true → (b ≡ true) × (x ≡ true)
unfolding pick
pick-and true x e = (refl, e)
pick-and false x e = absurd (false≢true e)

pub pick-unless : (b x : Bool) → pick b false x ≡ true → (b ≡ false) × (x ≡ true)
unfolding pick
pick-unless true x e = absurd (false≢true e)
pick-unless false x e = (refl, e)

pub pick-neither : (b x : Bool) → pick b true x ≡ false → (b ≡ false) × (x ≡ false)
unfolding pick
pick-neither true x e = absurd (false≢true (sym e))
pick-neither false x e = (refl, e)

pub pick_same : (b : Bool) → pick b true false ≡ b
unfolding pick
pick_same true = refl
pick_same false = refl

-- one test that fails is enough
pub every-never : (bs cs : List Bool) → every (bs ++ (false ∷ cs)) ≡ false
unfolding every pick
every-never [] cs = refl
every-never (true ∷ bs) cs = every-never bs cs
every-never (false ∷ bs) cs = refl

pub every_append : (bs cs : List Bool) → every (bs ++ cs) ≡ pick (every bs) (every cs) false
unfolding every pick
every_append [] cs = refl
every_append (true ∷ bs) cs = every_append bs cs
every_append (false ∷ bs) cs = refl
