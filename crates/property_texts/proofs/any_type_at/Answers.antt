-- `property_texts::any_type_at` meets its contract.
use mathlib.Core.Path.{ap, ◌∙◌}
use Rattle.words.specs.Bytes.{part}
use Rattle.type_texts.specs.Types.{kind_of_text}
use Rattle.property_texts.proofs.any_type_at.Goals as goal

pub returns : goal.returns
returns c =
    let a = c.args in
    let l = c.length_at-long.ensures in
    record { kind = c.kind_of_text.ensures ∙ ap (λ n. kind_of_text (part a.s.now a.at n)) l.0; long = l.0; within = l.1 }
