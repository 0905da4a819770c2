-- What a look answers, by whether there is what it looks for.
use mathlib.Core.Path.{◌≡◌, refl, ap, sym, ◌∙◌}
use Prim.Native.Nat.{ℕ, ◌-◌, ◌≤◌, ◌<◌}
use mathlib.Core.List.{List, [], ◌∷◌}
use mathlib.Core.Bool.{true, false}
use lib.IntN.{pos}
use lib.ListN.{get_or, length}
use borrow.Author.Tests.{lt-ltb, le-ltb}
use Rattle.words.proofs.Pick.{pick_yes, pick_no}
use Rattle.connector.specs.declared.Connector.{Connector}
use Rattle.connector.specs.Fields.{connector_words}
use Rattle.table.specs.Model.{Model, blank_connector, blank_line, has_index, position}
use Rattle.calls.proofs.Look.{at-found, at_none}
use Rattle.std.specs.Prelude.{Err}
use Rattle.call_status.specs.Status.{CallStatus, accepted, call_number}
use Rattle.calls.specs.Calls.{is_resource}
use Rattle.call_status.specs.declared.CallRefusal.TheVariants.{NoConnector, NoResource}
use Rattle.ports.specs.Looks.{Look, Looked, connector_look, found_row, resource_look}

pub looked : (s : CallStatus) (words : List ℕ) (l : Look) → l ≡ record { status = s; words = words } → Looked call_number (call_number s) words l
looked s words l e = (ap (λ (l : Look). call_number l.status) (sym e), ap (λ (l : Look). l.words) (sym e))

pub no_row : (m : Model) (i : ℕ) (out : List ℕ) → length m.connectors ≤ i → connector_look m i out ≡ record { status = Err NoConnector; words = out }
unfolding connector_look
no_row m i out h = pick_no _ _ _ (le-ltb i (length m.connectors) h)

pub row-there : (m : Model) (i : ℕ) (out : List ℕ) (c : Connector) (words : List ℕ) → i < length m.connectors → c ≡ get_or m.connectors i blank_connector → words ≡ connector_words c → connector_look m i out ≡ record { status = accepted; words = words }
unfolding connector_look
row-there m i out c words h e e' = pick_yes _ _ _ (lt-ltb i (length m.connectors) h) ∙ rw (e', e)

pub no_line : (m : Model) (r : ℕ) (out : List ℕ) → is_resource m r ≡ false → resource_look m r out ≡ record { status = Err NoResource; words = out }
unfolding resource_look
no_line m r out e = pick_no _ _ _ e

pub line-there : (m : Model) (r : ℕ) (out : List ℕ) (kind at : ℕ) → is_resource m r ≡ true → kind ≡ (get_or m.ledger (r - 1) blank_line).kind → at ≡ (get_or m.ledger (r - 1) blank_line).at → resource_look m r out ≡ record { status = accepted; words = kind ∷ at ∷ [] }
unfolding resource_look
line-there m r out kind at e k a = pick_yes _ _ _ e ∙ rw (k, a)

pub row-found : (m : Model) (k i : ℕ) → i ≡ position (has_index k) m.connectors → i < length m.connectors → found_row m k ≡ pos i
unfolding found_row
row-found m k i e h = at-found m k _ _ i _ e h refl

pub row-none : (m : Model) (k i : ℕ) → i ≡ position (has_index k) m.connectors → length m.connectors ≤ i → found_row m k ≡ call_number (Err NoConnector)
unfolding found_row
row-none m k i e h = at_none m k _ _ i e h
