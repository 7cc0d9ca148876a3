use Rattle.std.proofs.Common.{◌∙◌, ◌++◌, ◌∷◌, [], List, Bor, ap, cond}
use Rattle.std.specs.Str.{bytes_eq}
use Rattle.std.proofs.lemmas.List.{map_push}
use Rattle.edit_policy.specs.declared.policy.CratePolicy.{CratePolicy}
use Rattle.edit_restricted_index.specs.HoldsByName.{policies_of, said_of}
use Rattle.edit_restricted_index.proofs.HoldLemmas.{added_by}
use Rattle.edit_restricted_index.proofs.holds_by_name.add_policy.Goals as goal

pub returns : goal.returns
returns c = λ name.
    let held = c.args.held in
    let key = c.as_str-name.result.now in
    let old = c.args.holds.now in
    let before = c.take_policies-said.result.items in
    added_by key held old c.take_policies-said.new.holds c.insert.new.self c.push.new.self
    c.in_ok-insert.ensures.updates c.take_policies-said.ensures.others
    (ap policies_of c.in_ok-push.ensures.items ∙ map_push (λ (x : Bor CratePolicy). x.now) before held
    ∙ ap (λ (said : List CratePolicy). said ++ held.now ∷ []) c.take_policies-said.ensures.taken) name
    ∙ ap (λ k. said_of old name ++ cond (bytes_eq k name) (held.now ∷ []) []) c.as_str-name.ensures.value
