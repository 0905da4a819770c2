-- What the platform's calls answer, as document 01's numbers, and which answer is a success.
use Rattle.std.specs.Prelude.{ℕ, Bool, true, false, ℤ, pos, neg_ℤ, Result, Ok, Err}
use Rattle.call_status.specs.declared.CallRefusal.{CallRefusal}
use Rattle.call_status.specs.declared.CallRefusal.TheVariants.{UnknownKind, IndexInUse, NoPartition, BadParent, Full, NoConnector, NoResource, KindsDiffer, NotInPool, Holding, Empty, InUse}

-- what a call answers: it is accepted, or refused
abbrev pub CallStatus : Type 0
CallStatus = Result (Unit {0}) CallRefusal

abbrev pub accepted : CallStatus
accepted = Ok tt

-- document 01's numbers, without their sign
abbrev pub refusal_number : CallRefusal → ℕ
refusal_number UnknownKind = 11
refusal_number IndexInUse = 12
refusal_number NoPartition = 13
refusal_number BadParent = 14
refusal_number Full = 15
refusal_number NoConnector = 16
refusal_number NoResource = 17
refusal_number KindsDiffer = 18
refusal_number NotInPool = 19
refusal_number Holding = 20
refusal_number Empty = 21
refusal_number InUse = 22

-- document 01's numbers: 0 is success, a refusal is negative
abbrev pub call_number : CallStatus → ℤ
call_number (Ok u) = pos 0
call_number (Err r) = neg_ℤ (pos (refusal_number r))

abbrev pub is_accepted : CallStatus → Bool
is_accepted (Ok u) = true
is_accepted (Err r) = false
