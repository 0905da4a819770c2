-- `treecheck::add_name` meets its contract: the name is put at the end, and is a twin where a search finds it.
use mathlib.Core.Path.{◌≡◌, sym, subst, ◌∙◌, ap}
use mathlib.Core.Bool.{Bool, true, false, false≢true}
use Prim.Native.Nat.{◌-◌, ◌<◌}
use lib.ListN.{set}
use Rattle.devtree.specs.Names.{among}
use Rattle.name_order.specs.Order.{name_at, listed}
use Rattle.name_marks.specs.Marks.{name_mark}
use Rattle.treecheck.specs.Lists.{mark_at, Shown, Added, Kept}
use Rattle.treecheck.proofs.Twins.{Adding, unmet, new-list, longer, is-twin, no-twin, put-below}
use Rattle.treecheck.proofs.add_name.Goals as goal
use Rattle.treecheck.proofs.add_name.Goals.{After-meet}

-- where both marks have been set: whether the new name is one of the list
abbrev is_one : After-meet → Bool
is_one m = let a = m.args in among (name_at a.block.now a.x) (listed a.block.now a.names.now a.base (a.top - a.base))

mark : (m : After-meet) → m.name_mark.result ≡ mark_at m.args.block.now m.args.x
mark m = m.name_mark.ensures.0 ∙ ap (name_mark m.args.block.now m.args.x) m.requires.6

adding : (m : After-meet) → let a = m.args in Adding a.block.now a.names.now a.marks.now m.meet.new.marks a.base a.top a.from a.x
adding m =
    let pre = m.requires in
    record { bounds = pre.0; room = pre.1; list = pre.7; name = pre.5; up = m.meet.ensures.2; shown = subst (Shown _ m.args.from) (mark m) m.meet.ensures.1 }

added : (m : After-meet) (r : Bool) → (r ≡ true → is_one m ≡ true) → (m.args.top - m.args.base < 64 → r ≡ false → is_one m ≡ false)
    → let a = m.args in
    Added a.block.now a.names.now (set a.names.now a.top a.x) m.meet.new.marks a.base a.top a.from a.x r
    × Kept a.top a.from a.names.now (set a.names.now a.top a.x) a.marks.now m.meet.new.marks
added m r is other = (
  record { met = is; new = λ z. new-list _ _ _ _ _ _ _ _ (adding m) (λ k. other k z); longer = longer _ _ _ _ _ _ _ _ (adding m) },
  record { below = put-below m.args.names.now m.args.top m.args.x; raised = m.meet.ensures.2 },
)

pub returns-then-meet : goal.returns-then-meet
returns-then-meet c =
    let m = (goal.at.returns-then-meet c).After-meet in
    added m _ (is-twin _ _ _ _ _ _ _ _ (adding m) _ c.search_few.ensures) (no-twin _ _ _ _ _ _ _ _ (adding m) _ c.search_few.ensures)

pub returns-else-meet : goal.returns-else-meet
returns-else-meet c =
    let m = (goal.at.returns-else-meet c).After-meet in
    rw c.if-meet.false (added m false (λ z. absurd (false≢true z)) (λ k z. unmet _ _ _ _ _ _ _ _ (adding m) (λ s. c.meet.ensures.0 c.if-meet.false (subst (Shown _ c.args.from) (sym (mark m)) s))))
