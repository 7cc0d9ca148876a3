use Rattle.std.proofs.Common.{◌≡◌, ◌≢◌, [], ap, inr, map, refl, string_bytes, sym, ◌∙◌}
use Rattle.edit_metadata.specs.Workspaces.{packages_view}
use Rattle.edit_set_version.specs.Chosen.{missing}
use Rattle.edit_set_version.specs.Missing.{names_not_among, names_of}
use Rattle.edit_set_version.specs.Selections.{selection_view}
use Rattle.edit_set_version.proofs.NameLemmas.{found_empty, found_some, unmapped}
use Rattle.edit_set_version.proofs.plan.Selection.check_names.Goals as goal

pub returns-then-is_empty-clause-found : goal.returns-then-is_empty-clause-found
returns-then-is_empty-clause-found c =
    let there = names_of (packages_view c.args.workspace.now.packages.items) in
    let names_are : map string_bytes c.in_ok-names.names.items ≡ missing (selection_view c.args.self.now) there
    = c.in_ok-names.ensures.ok (names_of (packages_view c.deref.result.now)) c.in_ok-known.ensures.ok
    ∙ ap (λ ps. names_not_among (names_of (packages_view ps)) (map string_bytes c.deref-2.result.now))
    c.deref.ensures.value
    ∙ ap (λ ns. names_not_among there (map string_bytes ns)) c.deref-2.ensures.value in
    let none : c.in_ok-names.names.items ≡ [] =
    found_empty c.in_ok-names.names.items c.in_ok-names.names.len c.is_empty.result c.if-is_empty.true
    c.is_empty.ensures (sym c.in_ok-names.names.ok.0) in
    sym names_are ∙ ap (map string_bytes) none

pub returns-clause-error : goal.returns-clause-error
returns-clause-error c =
    let there = names_of (packages_view c.args.workspace.now.packages.items) in
    let names_are : map string_bytes c.in_ok-names.names.items ≡ missing (selection_view c.args.self.now) there
    = c.in_ok-names.ensures.ok (names_of (packages_view c.deref.result.now)) c.in_ok-known.ensures.ok
    ∙ ap (λ ps. names_not_among (names_of (packages_view ps)) (map string_bytes c.deref-2.result.now))
    c.deref.ensures.value
    ∙ ap (λ ns. names_not_among there (map string_bytes ns)) c.deref-2.ensures.value in
    let some : c.in_ok-names.names.items ≢ [] =
    found_some c.in_ok-names.names.items c.in_ok-names.names.len c.is_empty.result c.if-is_empty.false
    c.is_empty.ensures (sym c.in_ok-names.names.ok.0) in
    inr (refl, λ none. some (unmapped string_bytes c.in_ok-names.names.items (names_are ∙ none)), names_are)
