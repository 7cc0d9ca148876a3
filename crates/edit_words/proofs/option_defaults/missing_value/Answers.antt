use Rattle.std.proofs.Common.{◌∙◌, Bor, List, ℕ, Option, ap, false, sym}
use Rattle.std.specs.Prelude.{option_map, slice_get}
use Rattle.std.proofs.lemmas.Option.{slice_get-map}
use Rattle.std.specs.Option.{option_map_or}
use Rattle.clap.specs.Words.{Text}
use Rattle.edit_words.specs.Filled.{is_one, values_behind}
use Rattle.edit_words.proofs.FilledLemmas.{first_missing, none_missing}
use Rattle.edit_words.proofs.option_defaults.missing_value.Goals as goal

pub returns-then-has_value : goal.returns-then-has_value
returns-then-has_value c =
    let next : Option Text = option_map (λ (w : Bor (Bor (List ℕ))). w.now.now) c.args.next in
    none_missing (values_behind c.args.arg.now) next
    (ap (λ vs. option_map_or (is_one vs) next false) (sym c.values_behind-values.ensures)
    ∙ sym c.has_value.ensures ∙ c.if-has_value.true)

pub returns-else-has_value : goal.returns-else-has_value
returns-else-has_value c =
    let next : Option Text = option_map (λ (w : Bor (Bor (List ℕ))). w.now.now) c.args.next in
    first_missing (values_behind c.args.arg.now) next _
    (ap (λ vs. option_map_or (is_one vs) next false) (sym c.values_behind-values.ensures)
    ∙ sym c.has_value.ensures ∙ c.if-has_value.false)
    (ap (option_map (λ (v : Bor (List ℕ)). v.now)) c.copied.ensures
    ∙ ap (option_map (λ (v : Bor (List ℕ)). v.now)) c.first.ensures.value
    ∙ sym (slice_get-map (λ (v : Bor (List ℕ)). v.now) c.values_behind-values.result.now 0)
    ∙ ap (λ vs. slice_get vs 0) c.values_behind-values.ensures)
