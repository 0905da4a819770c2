-- A signed number in decimal, as bytes.
use Rattle.std.specs.Prelude.{ℕ, suc, ◌+◌, ◌/◌, ◌%◌, List, [], ◌∷◌, ◌++◌, ltb, ℤ, pos, negsuc}
use Rattle.words.specs.Pick.{pick}
use Rattle.words.specs.Run.{run_from}

-- the last digit, after those that `go` gives of the tens
unfoldable pub digits_body : (ℕ → List ℕ) → ℕ → List ℕ
digits_body go n = pick (ltb n 10) ((48 + n) ∷ []) (go (n / 10) ++ ((48 + n % 10) ∷ []))

unfoldable pub digits : ℕ → List ℕ
digits n = run_from [] (λ k. k) digits_body n

-- with a minus sign where the number is below 0
unfoldable pub decimal : ℤ → List ℕ
decimal (pos n) = digits n
decimal (negsuc n) = 45 ∷ digits (suc n)
