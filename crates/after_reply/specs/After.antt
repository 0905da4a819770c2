-- The reader's innermost node and its answer after a reply: document 01, "A walk, call by call".
use Rattle.replies.specs.declared.Node.{Node}
use Rattle.replies.specs.declared.Node.TheVariants.{NoChild, HasChild, Finished as Done}
use Rattle.replies.specs.declared.Reading.{Reading}
use Rattle.replies.specs.declared.Reading.TheVariants.{Finished, Taken, Waiting, Senseless}
use Rattle.replies.specs.declared.ReplyKind.{ReplyKind}
use Rattle.replies.specs.declared.ReplyKind.TheVariants.{Last, Sibling, Child, Property, Parent, Wait, Other}

-- the innermost node after a reply of this kind
abbrev pub node_after : ReplyKind → Node → Node
node_after Last node = Done
node_after Sibling node = NoChild
node_after Child node = NoChild
node_after Property node = node
node_after Parent node = HasChild
node_after Wait node = node
node_after Other node = node

-- the answer to a reply of this kind that is taken
abbrev pub answer_of : ReplyKind → Reading
answer_of Last = Finished
answer_of Sibling = Taken
answer_of Child = Taken
answer_of Property = Taken
answer_of Parent = Taken
answer_of Wait = Waiting
answer_of Other = Senseless
