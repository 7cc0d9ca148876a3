use Rattle.std.proofs.Common.{◌≡◌, ◌∙◌, ◌+◌, ◌++◌, ◌∷◌, [], List, ℕ, true, cond, ap, sym, map, take, string_bytes}
use Rattle.std.specs.Str.{bytes_eq}
use Rattle.std.proofs.lemmas.List.{map_more}
use Rattle.edit_set_version.specs.Chosen.{is_among}
use Rattle.edit_set_version.proofs.NameLemmas.{among_more}
use Rattle.edit_set_version.proofs.names.name_set.Goals as goal

pub names-preserved : goal.names-preserved
names-preserved c = λ q.
    let i = c.names.name-index in
    let old = map string_bytes (take i c.args.names.now) in
    let own = c.as_str.result.now in
    let more : map string_bytes (take (i + 1) c.args.names.now) ≡ old ++ own ∷ []
    = map_more string_bytes c.args.names.now i c.name-item.result c.names-test.true
    ∙ ap (λ t. old ++ string_bytes t ∷ []) (sym c.name-item.is)
    ∙ ap (λ t. old ++ t ∷ []) (sym c.as_str.ensures.value) in
    c.in_ok-add_name.ensures.ok q
    ∙ ap (cond (bytes_eq own q) true) (c.names.invariant q)
    ∙ sym (among_more old own q)
    ∙ ap (λ (xs : List (List ℕ)). is_among xs q) (sym more)
