use Rattle.std.proofs.Common.{◌≡◌, ◌++◌, ◌∙◌, ap, map, string_bytes, subst, sym}
use Rattle.std.specs.Prelude.{codes}
use Rattle.std.specs.List.{flat_map}
use Rattle.std.proofs.lemmas.List.Folds.{flat_map-map}
use Rattle.edit_lookups.specs.ControlEscapes.{escape_controls}
use Rattle.edit_answers.specs.Messages.{names_text}
use Rattle.edit_answers.proofs.messages.names_text.Goals as goal

pub returns-in_ok-push_names-in-Some : goal.returns-in_ok-push_names-in-Some
returns-in_ok-push_names-in-Some c =
    let rest = c.in-Some.rest.now in
    subst (λ ns. string_bytes c.push_names.new.text ≡ names_text (map (λ n. n.now) ns))
    (sym c.in-Some.ensures.cases.0)
    (c.in_ok-push_names-in-Some.ensures
    ∙ ap (λ t. t ++ flat_map (λ n. codes ", " ++ escape_controls n.now) rest) c.in_ok-text-in-Some.ensures
    ∙ ap (λ t. escape_controls c.in-Some.first.now.now ++ t)
    (sym (flat_map-map (λ n. codes ", " ++ escape_controls n) (λ n. n.now) rest)))
