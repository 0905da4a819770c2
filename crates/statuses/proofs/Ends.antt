-- The calls of a walk are enough: no call follows the last one.
use mathlib.Core.Path.{◌≡◌, refl, ◌∙◌}
use mathlib.Core.Bool.{Bool, true, false, false≢true}
use mathlib.Core.List.{List, [], ◌∷◌}
use Prim.Native.Nat.{ℕ, zero, suc, ◌+◌, ◌-◌, ◌<◌}
use native.Mathlib.Omega.{arith}
use lib.ListN.{length}
use Rattle.words.specs.Pick.{pick}
use Rattle.words.proofs.Pick.{pick-cases, pick_yes, pick_no}
use Rattle.connector.specs.declared.Connector.{Connector}
use Rattle.step_status.specs.declared.StepStatus.{StepStatus}
use Rattle.table.specs.Model.{Model, empty_model}
use Rattle.unowned.specs.Unowned.{unowned}
use Rattle.walk.specs.Step.{step}
use Rattle.walk.proofs.Laws.{step-law}
use Rattle.emits.specs.Run.{ends, asks}
use Rattle.walked_connector.specs.Walked.{own}
use Rattle.statuses.specs.Statuses.{area_of, statuses_from, closed, walk_statuses}
use Rattle.statuses.proofs.Nearer.{lent, asks_left, nearer}
use Rattle.statuses.proofs.Text.{area-size}

closed-one : (n : StepStatus) → ends n ≡ true → closed (n ∷ []) ≡ true
unfolding closed
closed-one n e = e

closed-more : (n : StepStatus) (ns : List StepStatus) → closed ns ≡ true → closed (n ∷ ns) ≡ true
unfolding closed
closed-more n [] e = absurd (false≢true e)
closed-more n (m ∷ ns) e = e

-- `two` says that the second page was asked for
enough : (m : Model) (k : ℕ) (s st : List ℕ) (c : Connector) (area : List ℕ) (two : Bool) → length area ≡ lent two → length s - c.walk.place + asks_left two < k → closed (statuses_from m k s st c area) ≡ true
unfolding statuses_from
enough m zero s st c area two l h = absurd (omega arith)
enough m (suc k) s st c area two l h =
    let o = step (unowned m c.partition) c area s st in
    let n : StepStatus = o.stepped.status in
    pick-cases (λ ns. closed (n ∷ ns) ≡ true) (ends n) [] _ (closed-one n)
    (λ e. let near = nearer (unowned m c.partition) c area s st two l n refl e in
    closed-more n _ (pick-cases (λ a. closed (statuses_from m k s st o.stepped.connector a) ≡ true) (asks n) (area_of 8192) o.area
    (λ a. let more : pick (asks n) true two ≡ true = pick_yes (asks n) true two a in
    enough m k s st o.stepped.connector (area_of 8192) true (area-size 8192) (omega (arith, rw more at near)))
    (λ a. let same : pick (asks n) true two ≡ two = pick_no (asks n) true two a in
    enough m k s st o.stepped.connector o.area two ((step-law (unowned m c.partition) c area s st).size ∙ l) (omega (arith, rw same at near)))))

pub walk_ends : (s st : List ℕ) → closed (walk_statuses s st) ≡ true
unfolding walk_statuses
walk_ends s st = enough empty_model (length s + 2) s st own (area_of 4096) false (area-size 4096) (omega arith)
