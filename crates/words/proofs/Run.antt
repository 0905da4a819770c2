-- The law of `run_from`, once for every definition by it: one step, and the rest by `run_from` again.
use Rattle.std.proofs.Common.{◌≡◌, ℕ, zero, suc, ◌<◌, arith}
use Rattle.words.specs.Run.{run, run_from}

-- `body` looks only at what is smaller
abbrev pub Falls : {I R : Type 0} → (I → ℕ) → ((I → R) → I → R) → Type 0
Falls {I} {R} size body = (go go' : I → R) (i : I) → ((j : I) → size j < size i → go j ≡ go' j) → body go i ≡ body go' i

module _ {I R : Type 0} (stop : R) (size : I → ℕ) (body : (I → R) → I → R) (falls : Falls size body) where
  enough : (k j : ℕ) (i : I) → size i < k → size i < j → run stop body k i ≡ run stop body j i
  unfolding run
  enough zero j i h h' = absurd (omega arith)
  enough (suc k) zero i h h' = absurd (omega arith)
  enough (suc k) (suc j) i h h' = falls (run stop body k) (run stop body j) i (λ i' l. enough k j i' (omega arith) (omega arith))

  pub run-law : (i : I) → run_from stop size body i ≡ body (run_from stop size body) i
  unfolding run run_from
  run-law i = falls (run stop body (size i)) (run_from stop size body) i (λ j l. enough (size i) (suc (size j)) j (omega arith) (omega arith))
