-- Four array properties read: document 02, Ticket 1, "Also the reader".
use Rattle.std.specs.Prelude.{ℕ, zero, suc, ◌+◌, ◌*◌, Bool, true, false, not, Result, Ok, Err, is_ok, map, unwrap_or, List, [], ◌∷◌, ◌++◌, eqb, ltb, ℤ, pos, negsuc, length}
use Rattle.std.proofs.lemmas.List.Edits.{sets}
use Rattle.words.specs.Pick.{pick}
use Rattle.words.specs.Bytes.{word_at}
use Rattle.buffer.specs.Put.{bytes32}
use Rattle.property_texts.specs.Texts.{past_texts, kinds_of, unknown_in}
use Rattle.property_reader.specs.declared.Lent.{Lent}
use Rattle.property_reader.specs.declared.ListRefusal.{ListRefusal}
use Rattle.property_reader.specs.declared.ListRefusal.TheVariants.{CutShort, CountsDiffer, Unended, UnknownType, LeftOver, NoRoom}

pub record Arrays : Type 0 where
  pub names : List ℕ
  pub indexes : List ℕ
  pub domains : List ℕ
  pub types : List ℕ

abbrev pub arrays : List ℕ → List ℕ → List ℕ → List ℕ → Arrays
arrays names indexes domains types = record { names = names; indexes = indexes; domains = domains; types = types }

-- what is lent, as bytes
abbrev pub arrays_of : Lent → Arrays
arrays_of l = arrays l.names.now l.indexes.now l.domains.now l.types.now

-- the count with which an array begins
abbrev pub count_in : List ℕ → ℕ
count_in s = word_at s 0

-- where the n numbers behind a count end
abbrev pub past_numbers : ℕ → ℕ
past_numbers n = 4 + 4 * n

-- n numbers from a place on
unfoldable pub numbers : ℕ → List ℕ → ℕ → List ℕ
numbers zero s at = []
numbers (suc n) s at = word_at s at ∷ numbers n s (at + 4)

-- whether one test of the list holds
unfoldable pub either : List Bool → Bool
either [] = false
either (b ∷ bs) = pick b true (either bs)

-- an array is under 4 bytes, or has fewer numbers than its own count says
abbrev pub short : List ℕ → Bool
short s = ltb (length s) 4

abbrev pub few : List ℕ → Bool
few s = ltb (length s) (past_numbers (count_in s))

unfoldable pub cut_short : Arrays → Bool
cut_short a = either (short a.names ∷ short a.indexes ∷ short a.domains ∷ short a.types ∷ few a.indexes ∷ few a.domains ∷ [])

-- counts disagree
abbrev pub other_count : ℕ → List ℕ → Bool
other_count n s = not (eqb (count_in s) n)

unfoldable pub counts_differ : ℕ → List ℕ → List ℕ → List ℕ → Bool
counts_differ n indexes domains types = either (other_count n indexes ∷ other_count n domains ∷ other_count n types ∷ [])

-- one of n strings has no NUL, or there are fewer strings
unfoldable pub unended : ℕ → List ℕ → List ℕ → Bool
unended n names types = either (ltb (length names) (past_texts n names 4) ∷ ltb (length types) (past_texts n types 4) ∷ [])

-- bytes are left over behind n entries
unfoldable pub left_over : ℕ → Arrays → Bool
left_over n a =
    either (
    ltb (past_texts n a.names 4) (length a.names)
    ∷ ltb (past_numbers n) (length a.indexes)
    ∷ ltb (past_numbers n) (length a.domains)
    ∷ ltb (past_texts n a.types 4) (length a.types)
    ∷ [])

-- the first refusal whose test holds
unfoldable pub first_refusal : List (Bool × ListRefusal) → Result ℕ ListRefusal → Result ℕ ListRefusal
first_refusal [] other = other
first_refusal (t ∷ ts) other = pick t.0 (Err t.1) (first_refusal ts other)

-- arrays of n entries, with so much room for the list: the refusals in their order, or how many bytes the list has
unfoldable pub answer_to : ℕ → Arrays → ℕ → Result ℕ ListRefusal
answer_to n a room =
    first_refusal
    (
    (cut_short a, CutShort)
    ∷ (counts_differ n a.indexes a.domains a.types, CountsDiffer)
    ∷ (unended n a.names a.types, Unended)
    ∷ (unknown_in n a.types 4, UnknownType)
    ∷ (left_over n a, LeftOver)
    ∷ (ltb room (12 * n), NoRoom)
    ∷ [])
    (Ok (12 * n))

-- index, kind and domain of one connector after the other
unfoldable pub triples : List ℕ → List ℕ → List ℕ → List ℕ
triples (i ∷ is) (k ∷ ks) (d ∷ ds) = bytes32 i ++ bytes32 k ++ bytes32 d ++ triples is ks ds
triples (i ∷ is) (k ∷ ks) [] = []
triples (i ∷ is) [] ds = []
triples [] ks ds = []

-- n of them: numbers from one place on, types from another, where an unknown one, which is refused, counts as 0
unfoldable pub list_from : List ℕ → List ℕ → List ℕ → ℕ → ℕ → ℕ → List ℕ
list_from indexes domains types n number text = triples (numbers n indexes number) (map (λ k. unwrap_or k 0) (kinds_of n types text)) (numbers n domains number)

abbrev pub list_of : ℕ → Arrays → List ℕ
list_of n a = list_from a.indexes a.domains a.types n 4 4

-- an answer, and the buffer as it is left: how many of its bytes were written, or a refusal
pub record ListLeft : Type 0 where
  pub answer : Result ℕ ListRefusal
  pub out : List ℕ

abbrev pub list_left : Result ℕ ListRefusal → List ℕ → ListLeft
list_left answer out = record { answer = answer; out = out }

-- the list, where nothing is refused; a refusal leaves the buffer as it was
unfoldable pub listing : ℕ → Arrays → List ℕ → ListLeft
listing n a out = pick (is_ok (answer_to n a (length out))) (list_left (Ok (12 * n)) (sets out 0 (list_of n a))) (list_left (answer_to n a (length out)) out)

abbrev pub read_properties : Arrays → List ℕ → ListLeft
read_properties a out = listing (count_in a.names) a out

-- document 02's number for each answer
abbrev pub listing_number : Result ℕ ListRefusal → ℤ
listing_number (Ok _) = pos 0
listing_number (Err CutShort) = negsuc 40
listing_number (Err CountsDiffer) = negsuc 41
listing_number (Err Unended) = negsuc 42
listing_number (Err UnknownType) = negsuc 43
listing_number (Err LeftOver) = negsuc 44
listing_number (Err NoRoom) = negsuc 45
