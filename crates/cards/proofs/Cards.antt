-- Document 01's starred desk cards hold. The words that the calls leave mean the edited model, so the checker runs the calls of each card on the model, from the empty one. Assumes nothing.
use Prim.Native.Nat.{ℕ}
use mathlib.Core.Path.{◌≡◌, refl, ap, fun_ext, ◌∙◌}
use mathlib.Core.List.{List, [], ◌∷◌, ◌++◌, map}
use lib.ListN.{length, length-replicate}
use Rattle.words.specs.Pick.{pick, every, any}
use Rattle.words.specs.Bytes.{part, word_at, name_length}
use Rattle.words.specs.Run.{run as bounded, run_from}
use Rattle.devtree.specs.Tokens.{skip_up_to, skipped, begin_named, begin_at, property_named, property_at, token_of, token_at, and_then, tokens_body, tokens}
use Rattle.devtree.specs.Names.{same_name}
use Rattle.connector.specs.Orders.{occupied, unready, isolate_of, unisolate_of, usable_of, unusable_of, order_of}
use Rattle.guards.specs.Guards.{readable}
use Rattle.stepped.specs.Stepped.{end_stepped}
use Rattle.unowned.specs.Unowned.{unowned}
use Rattle.sent.specs.Sent.{names_connector, ahead, sent_of, next_sent}
use Rattle.walk.specs.Step.{on_begin, on_property, consume, step}
use Rattle.table.specs.Layout.{word_count}
use Rattle.table.specs.Model.{Model, empty_model, table_of, position, add_up_to, edits}
use Rattle.table.proofs.Refine.{refine-fresh}
use Rattle.kinds.specs.Kinds.{known}
use Rattle.calls.specs.Calls.{at_index, phb_of, parent_fits, configured_at, add_connector_status, add_connector, add_resource_status, add_resource, is_resource, place_status, place, to_pool, own_at, order_edits, order_named, order_in, set_indicator, get_sensor, step_edits, configure}
use Rattle.history.specs.Calls.{Call, answer, fresh_words, words_after, run}
use Rattle.history.proofs.History.{means, words-after}
use Rattle.cards.specs.Cards.{Shown, shown, shown_from, Card, calls_of, prepared, standing_at, places_of, cards, Seen, seen, Hold}

-- ---- the same on the model
abbrev model_after : Model → Call → Model
model_after m c = edits m (answer m c).edits

run_model : Model → List Call → Model
run_model m [] = m
run_model m (c ∷ cs) = run_model (model_after m c) cs

shown_model : Model → List Call → List Shown
shown_model m [] = []
shown_model m (c ∷ cs) = shown m c ∷ shown_model (model_after m c) cs

run-means : (t : List ℕ) → length t ≡ word_count → (cs : List Call) → table_of (run t cs) ≡ run_model (table_of t) cs
unfolding run run_model
run-means t n [] = refl
run-means t n (c ∷ cs) = run-means (words_after t c) (words-after t n c) cs ∙ ap (λ m. run_model m cs) (means t n c)

shown-means : (t : List ℕ) → length t ≡ word_count → (cs : List Call) → shown_from t cs ≡ shown_model (table_of t) cs
unfolding shown_from shown_model
shown-means t n [] = refl
shown-means t n (c ∷ cs) = ap (λ s. shown (table_of t) c ∷ s) (shown-means (words_after t c) (words-after t n c) cs ∙ ap (λ m. shown_model m cs) (means t n c))

seen_model : Card → Seen
seen_model c =
    let cs = calls_of (prepared ++ c.lines) in
    let m = run_model empty_model cs in
    record { shows = shown_model empty_model cs; standing = standing_at m c.at; places = places_of m }

seen-means : (c : Card) → seen c ≡ seen_model c
unfolding seen seen_model
seen-means c =
    let n = length-replicate {A = ℕ} word_count 0 in
    let cs = calls_of (prepared ++ c.lines) in
    rw (shown-means fresh_words n cs, run-means fresh_words n cs, refine-fresh)

pub cards-hold : Hold cards
unfolding pick every part word_at name_length skip_up_to skipped begin_named begin_at property_named property_at token_of token_at and_then tokens_body tokens bounded run_from same_name names_connector ahead sent_of next_sent unowned occupied unready isolate_of unisolate_of usable_of unusable_of order_of on_begin on_property end_stepped consume readable step position any known at_index phb_of parent_fits configured_at add_connector_status add_connector add_resource_status add_resource is_resource place_status place to_pool own_at order_edits order_named order_in set_indicator get_sensor step_edits configure add_up_to run_model shown_model seen_model
cards-hold = ap (λ f. map f cards) (fun_ext seen-means) ∙ refl
