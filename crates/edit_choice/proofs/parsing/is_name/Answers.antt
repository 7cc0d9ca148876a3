use Rattle.std.proofs.Common.{◌∙◌, ap, rules, sym}
use Rattle.std.specs.Prelude.{◌&&◌}
use Rattle.std.specs.List.{list_all}
use Rattle.std.proofs.lemmas.Iterator.{YieldsList-from_slice}
use Rattle.std.proofs.lemmas.Iterator.Search.{all_from_yields_List}
use Rattle.edit_choice.specs.ChoiceTexts.{is_name, is_name_byte}
use Rattle.edit_choice.proofs.parsing.is_name.Goals as goal

pub returns-then-begins_name : goal.returns-then-begins_name
returns-then-begins_name c =
    all_from_yields_List is_name_byte _ _ _ c.all.ensures.ran
    (YieldsList-from_slice c.in-Some.rest.now cc) (λ x b q k. search rules)
    ∙ sym (ap (λ b. b && list_all is_name_byte c.in-Some.rest.now)
    (sym c.begins_name.ensures ∙ c.if-begins_name.true))
    ∙ ap is_name (sym c.in-Some.ensures.cases.0 ∙ c.as_bytes.ensures.value)
