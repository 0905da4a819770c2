-- Choice by a test, and several tests at once.
use Rattle.std.specs.Prelude.{Bool, true, false, List, [], ◌∷◌}

-- the first where the test holds, else the second. Shut, so that a proof by cases finds the test
unfoldable pub pick : {A : Type 0} → Bool → A → A → A
pick true a b = a
pick false a b = b

-- whether every test of the list holds
unfoldable pub every : List Bool → Bool
every [] = true
every (b ∷ bs) = pick b (every bs) false

-- whether one passes
unfoldable pub any : {A : Type 0} → (A → Bool) → List A → Bool
any p [] = false
any p (x ∷ xs) = pick (p x) true (any p xs)
