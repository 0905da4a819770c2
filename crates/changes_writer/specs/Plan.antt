-- Which changes of each kind a report has, in numbers.
use Rattle.std.specs.Prelude.{ℕ, ◌+◌, ◌-◌, ◌*◌, ◌/◌, ◌≤◌, min, eqb, ltb, length, take, drop}
use mathlib.Core.List.{List, ◌++◌, flat_map}
use Rattle.words.specs.Pick.{pick}
use Rattle.node_changes.specs.declared.Tally.{Tally}
use Rattle.node_changes.specs.Changes.{Change, delete, update, add, of_kind}
use Rattle.node_changes.specs.Lists.{operands, operation}
use Rattle.changes_writer.specs.declared.Portion.{Portion}
use Rattle.changes_writer.specs.declared.Plan.{Plan}
use Rattle.changes_writer.specs.Writer.{list_words, bytes_of}

-- of `rest` entries, each of so many words, as many as fit in a room with their operator
unfoldable pub fit_in : ℕ → ℕ → ℕ → ℕ
fit_in rest width room = pick (ltb room (1 + width)) 0 (min rest ((room - 1) / width))

-- the words of so many entries with their operator
unfoldable pub list_size : ℕ → ℕ → ℕ
list_size count width = pick (eqb count 0) 0 (1 + count * width)

-- of n changes of a kind, of which some are reported, those that fit in a room
abbrev pub portion_in : ℕ → ℕ → ℕ → ℕ → Portion
portion_in n before width room = record { skip = min before n; count = fit_in (n - before) width room }

abbrev pub room_after : ℕ → Portion → ℕ → ℕ
room_after room p width = room - list_size p.count width

-- deletes, then updates in the room that they leave, then adds
unfoldable pub plan_of : Tally → ℕ → Plan
plan_of t before =
    let d = portion_in t.deletes before 1 list_words in
    let u = portion_in t.updates (before - t.deletes) 1 (room_after list_words d 1) in
    let a = portion_in t.adds (before - t.deletes - t.updates) 2 (room_after (room_after list_words d 1) u 1) in
    record { deletes = d; updates = u; adds = a }

-- the changes of a portion
unfoldable pub in_portion : ℕ → Portion → List Change → List Change
in_portion kind p cs = take p.count (drop p.skip (of_kind kind cs))

-- their operands as bytes
unfoldable pub entry_bytes : List Change → List ℕ
entry_bytes cs = bytes_of (flat_map operands cs)

-- there are as many, and no more than an area may have
pub record PortionFits (kind : ℕ) (p : Portion) (cs : List Change) : Type 0 where
  pub there : p.skip + p.count ≤ length (of_kind kind cs)
  pub few : p.count ≤ list_words

-- the operation lists of three portions
unfoldable pub lists_of : Plan → List Change → List ℕ
lists_of p cs = operation delete (in_portion delete p.deletes cs) ++ (operation update (in_portion update p.updates cs) ++ operation add (in_portion add p.adds cs))

-- there is room for them
pub record PlanFits (p : Plan) (cs : List Change) : Type 0 where
  pub deletes : PortionFits delete p.deletes cs
  pub updates : PortionFits update p.updates cs
  pub adds : PortionFits add p.adds cs
  pub room : list_size p.deletes.count 1 + list_size p.updates.count 1 + list_size p.adds.count 2 ≤ list_words
