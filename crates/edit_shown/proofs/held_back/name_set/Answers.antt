use Rattle.std.proofs.Common.{◌∙◌, ◌++◌, ◌∷◌, [], List, ℕ, ap, cond, map, string_bytes, sym, take, true}
use Rattle.std.specs.Str.{bytes_eq}
use Rattle.edit_metadata.proofs.Ids.{holds-more, is_listed-more}
use Rattle.edit_upgrade.proofs.Steps.{names-more}
use Rattle.edit_upgrade.specs.UpdateCalls.{is_among}
use Rattle.edit_shown.proofs.held_back.name_set.Goals as goal

pub names-preserved : goal.names-preserved
names-preserved c = λ name.
    let key = c.as_str.result.now in
    let before = map string_bytes (take c.names.name-index c.args.names.now) in
    holds-more key c.names.set c.insert.new.self c.in_ok-insert.ensures.updates name
    ∙ ap (λ b. cond (bytes_eq key name) true b) (c.names.invariant name)
    ∙ sym (is_listed-more before key name)
    ∙ ap (λ (k : List ℕ). is_among (before ++ k ∷ []) name) c.as_str.ensures.value
    ∙ ap (λ (xs : List (List ℕ)). is_among xs name)
    (sym (names-more string_bytes c.args.names.now c.names.name-index c.name-item.result
    c.names-test.true c.name-item.is))
