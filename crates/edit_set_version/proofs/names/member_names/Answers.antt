use Rattle.std.proofs.Common.{List, ℕ, [], ◌∷◌, ap, sym, take, ◌∙◌}
use Rattle.std.specs.Prelude.{◌||◌}
use Rattle.std.proofs.lemmas.List.Folds.{list_any-append}
use Rattle.edit_tree.specs.Assertions.{same_bytes}
use Rattle.edit_metadata.specs.Workspaces.{package_view, packages_view}
use Rattle.edit_set_version.specs.Chosen.{is_among}
use Rattle.edit_set_version.specs.Missing.{names_of}
use Rattle.edit_set_version.proofs.NameLemmas.{names_more}
use Rattle.edit_set_version.proofs.names.member_names.Goals as goal

pub packages-preserved : goal.packages-preserved
packages-preserved c = λ q.
    let i = c.packages.package_info-index in
    let old = names_of (packages_view (take i c.args.packages.now)) in
    let own = names_of (package_view c.package_info-item.result ∷ []) in
    c.in_ok-add_member.ensures.ok q
    ∙ ap (λ b. b || is_among own q) (c.packages.invariant q)
    ∙ sym (list_any-append (same_bytes q) old own)
    ∙ ap (λ (xs : List (List ℕ)). is_among xs q)
    (sym (names_more c.args.packages.now i c.package_info-item.result c.packages-test.true c.package_info-item.is))
