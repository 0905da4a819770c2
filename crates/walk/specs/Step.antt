-- A walk's step: document 01, "A walk, call by call". `s` is the structure block, `st` the strings block, and `unowned` says which indexes are those of unowned connectors (document 02, Ticket 5).
use Rattle.std.specs.Prelude.{ℕ, ◌+◌, List, [], ◌∷◌, ◌++◌, Bool, length, eqb, leb, ltb}
use Rattle.std.proofs.lemmas.List.Edits.{sets}
use Rattle.words.specs.Pick.{pick, every}
use Rattle.words.specs.Bytes.{part}
use Rattle.buffer.specs.Put.{bytes32}
use Rattle.devtree.specs.Tree.{Event, begin, prop, end}
use Rattle.devtree.specs.declared.Token.{Token}
use Rattle.devtree.specs.declared.Token.TheVariants.{Begin, Property, EndNode, End, Fault}
use Rattle.connector.specs.declared.Connector.{Connector}
use Rattle.sent.specs.Sent.{next_sent}
use Rattle.guards.specs.Guards.{is_area, is_unisolated, pages_meet, readable}
use Rattle.stepped.specs.Stepped.{step_to, page_asked, end_stepped}
use Rattle.step_status.specs.declared.StepStatus.{StepStatus}
use Rattle.step_status.specs.declared.StepStatus.TheVariants.{NextChild, NextProperty, Parameter, NotUnisolated, BadTree}
use Rattle.stepped.specs.declared.Stepped.{Stepped}

-- the answer, and the work area afterwards
pub record Outcome : Type 0 where
  pub stepped : Stepped
  pub area : List ℕ

-- a refusal: nothing changes
abbrev pub refused : StepStatus → Connector → List ℕ → Outcome
refused n c area = record { stepped = record { status = n; connector = c }; area = area }

-- what a reply writes: the name's offset in word 2, of a property the value's length and offset in words 3 and 4, and from 20 on the name, its NUL and the value
unfoldable pub written : List ℕ → Event → List ℕ
written area (begin name) = sets (sets area 8 (bytes32 20)) 20 (name ++ (0 ∷ []))
written area (prop name value) = sets (sets area 8 (bytes32 20 ++ (bytes32 (length value) ++ bytes32 (20 + length name + 1)))) 20 (name ++ (0 ∷ value))
written area end = area

abbrev pub replied : StepStatus → ℕ → ℕ → Event → Connector → List ℕ → Outcome
replied n next depth e c area = record { stepped = step_to n next depth (length area) c; area = written area e }

-- the second page is needed: only the asking is noted
abbrev pub asking : Connector → List ℕ → Outcome
asking c area = record { stepped = page_asked c; area = area }

-- steps 4 to 6, by the token: a begin-node with its name
unfoldable pub on_begin : Connector → List ℕ → ℕ → ℕ → List ℕ → Outcome
on_begin c area at next name =
    pick (leb 8 c.walk.depth) (refused (BadTree at) c area)
    (replied NextChild next (c.walk.depth + 1) (begin name) c area)

-- a property with its name and value
unfoldable pub on_property : Connector → List ℕ → ℕ → ℕ → List ℕ → List ℕ → Outcome
on_property c area at next name value =
    pick (eqb c.walk.depth 0) (refused (BadTree at) c area)
    (pick (every (eqb (length area) 4096 ∷ ltb 4096 (20 + length name + 1 + length value) ∷ [])) (asking c area)
    (replied NextProperty next c.walk.depth (prop name value) c area))

unfoldable pub consume : Connector → List ℕ → List ℕ → List ℕ → Token → Outcome
consume c area s st (Begin at a n next) = on_begin c area at next (part s a n)
consume c area s st (Property at a n v l next) = on_property c area at next (part st a n) (part s v l)
consume c area s st (EndNode at next) = record { stepped = end_stepped c (length area) at next; area = area }
consume c area s st (End at next) = refused (BadTree at) c area
consume c area s st (Fault at) = refused (BadTree at) c area

-- the token that is consumed is the next one that is sent
unfoldable pub step : (ℕ → Bool) → Connector → List ℕ → List ℕ → List ℕ → Outcome
step unowned c area s st =
    let place : ℕ = c.walk.place in
    pick (is_area (length area))
    (pick (is_unisolated c.state)
    (pick (pages_meet c.walk.page (length area))
    (pick (readable (length s) (length st) place)
    (consume c area s st (next_sent unowned s st c.walk.depth place))
    (refused (BadTree 0) c area))
    (refused Parameter c area))
    (refused NotUnisolated c area))
    (refused Parameter c area)
