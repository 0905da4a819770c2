-- The kinds of replies and the reader's answers: document 01, "A walk, call by call".
use Rattle.std.specs.Prelude.{ℕ, min, [], ◌∷◌, Bool, true, false, ℤ, pos, negsuc, eqb, leb}
use Rattle.words.specs.Pick.{pick, every}
use Rattle.replies.specs.declared.Node.TheVariants.{NoChild}
use Rattle.replies.specs.declared.Reader.{Reader}
use Rattle.replies.specs.declared.Reading.{Reading}
use Rattle.replies.specs.declared.Reading.TheVariants.{Finished, Taken, Waiting, Senseless, NoRoom}
use Rattle.replies.specs.declared.ReplyKind.{ReplyKind}
use Rattle.replies.specs.declared.ReplyKind.TheVariants.{Last, Sibling, Child, Property, Parent, Wait, Other}

-- the answers' numbers; `negsuc n` is -(n + 1)
abbrev pub reading_number : Reading → ℤ
reading_number Finished = pos 0
reading_number Taken = pos 1
reading_number Waiting = pos 2
reading_number Senseless = negsuc 30
reading_number NoRoom = negsuc 31

-- a reader before the first reply
abbrev pub new_reader : Reader
new_reader = record { structure = 0; strings = 0; depth = 0; node = NoChild }

-- the kind of a reply, by its status
abbrev pub kind_of : ℤ → ReplyKind
kind_of (pos n) =
    pick (eqb n 0) Last
    (pick (eqb n 1) Sibling
    (pick (eqb n 2) Child
    (pick (eqb n 3) Property
    (pick (eqb n 4) Parent
    (pick (eqb n 5) Wait
    (pick (every (leb 9900 n ∷ leb n 9905 ∷ [])) Wait Other))))))
kind_of (negsuc n) = Other

-- a buffer counts as at most its first 131,072 bytes
abbrev pub most : ℕ → ℕ
most n = min n 131072

abbrev pub waits : ReplyKind → Bool
waits Last = false
waits Sibling = false
waits Child = false
waits Property = false
waits Parent = false
waits Wait = true
waits Other = false
