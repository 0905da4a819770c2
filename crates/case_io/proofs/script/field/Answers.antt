-- `case_io::script::field`: the parts of a split at spaces, one by one.
use Rattle.std.proofs.Common.{◌≡◌, ℕ, List, [], Some, None, Option, Bor, rules, tests, ap, refl, ◌∙◌, option_map, unwrap_or}
use Rattle.std.proofs.lemmas.Iterator.Consumers.{nth_from_yields_List}
use Rattle.std.proofs.lemmas.Iterator.Splits.{YieldsList-from_slice_split}
use Rattle.case_io.proofs.script.field.Goals as goal

shown : (r : Option (Bor (List ℕ))) (d : Bor (List ℕ)) → d.now ≡ [] → (unwrap_or r d).now ≡ unwrap_or (option_map (λ (x : Bor (List ℕ)). x.now) r) []
shown None d e = e
shown (Some x) d e = refl

pub returns : goal.returns
returns c =
    let parts = YieldsList-from_slice_split _ _ c.args.line.now c.split.ensures.rest c.split.ensures.done c.split.ensures.closure (λ x r q k. search (rules, tests)) in
    let at_k = nth_from_yields_List _ _ c.args.k c.nth.ensures.ran parts in
    ap (λ (r : Bor (List ℕ)). r.now) c.unwrap_or.ensures ∙ shown c.nth.result _ refl ∙ ap (λ (o : Option (List ℕ)). unwrap_or o []) at_k
