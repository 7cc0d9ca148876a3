use Rattle.std.proofs.Common.{◌≡◌, ◌++◌, ◌∙◌, ap, rules, string_bytes, cond, sym, true, false}
use Rattle.std.specs.Prelude.{codes, nat_eq}
use Rattle.std.specs.List.{starts_with}
use Rattle.std.proofs.lemmas.Result.{IfOk-weaker}
use Rattle.edit_base.specs.Paths.{parts_of}
use Rattle.edit_set_version.specs.FolderTexts.{folder_text}
use Rattle.edit_set_version.specs.Folders.{folder_along, folder_of, folder_at_path, resolve_folder}
use Rattle.edit_set_version.proofs.ReachedFolders.{normal_text, way_on}
use Rattle.edit_set_version.proofs.reach.resolve_folder.Goals as goal

pub returns-clause-ok : goal.returns-clause-ok
returns-clause-ok c =
    let file = c.args.file.now in
    let path = c.args.path.now in
    let way : c.as_str.result.now ≡ file ++ (codes "/../" ++ path) = search rules in
    let relative : starts_with nat_eq path (codes "/") ≡ false = search rules in
    let there : resolve_folder file path ≡ folder_along (folder_of file) (parts_of path) =
    ap (λ b. cond b (folder_at_path path) (folder_along (folder_of file) (parts_of path))) relative in
    IfOk-weaker c.normal-2.result _ _ (λ s normal. normal_text c.as_str.result.now (string_bytes s) normal
    ∙ ap (λ w. folder_text (folder_at_path w)) way ∙ ap folder_text (way_on file path ∙ sym there))
    c.normal-2.ensures.text

pub returns-then-starts_with-clause-ok : goal.returns-then-starts_with-clause-ok
returns-then-starts_with-clause-ok c =
    let file = c.args.file.now in
    let path = c.args.path.now in
    let absolute : starts_with nat_eq path (codes "/") ≡ true = search rules in
    let there : resolve_folder file path ≡ folder_at_path path =
    ap (λ b. cond b (folder_at_path path) (folder_along (folder_of file) (parts_of path))) absolute in
    IfOk-weaker c.normal.result _ _ (λ s normal. normal_text path (string_bytes s) normal
    ∙ ap folder_text (sym there))
    c.normal.ensures.text
