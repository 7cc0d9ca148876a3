use Rattle.std.proofs.Common.{◌≡◌, ◌++◌, ◌∙◌, ap, rules, string_bytes}
use Rattle.std.specs.Prelude.{codes}
use Rattle.std.proofs.lemmas.Result.{IfOk-weaker}
use Rattle.edit_set_version.specs.FolderTexts.{folder_text}
use Rattle.edit_set_version.specs.Folders.{folder_at_path}
use Rattle.edit_set_version.proofs.ReachedFolders.{normal_text, way_up}
use Rattle.edit_set_version.proofs.reach.folder_of.Goals as goal

pub returns-clause-ok : goal.returns-clause-ok
returns-clause-ok c =
    let file = c.args.file.now in
    let way : c.as_str.result.now ≡ file ++ codes "/.." = search rules in
    IfOk-weaker c.normal.result _ _ (λ s normal. normal_text c.as_str.result.now (string_bytes s) normal
    ∙ ap (λ w. folder_text (folder_at_path w)) way ∙ ap folder_text (way_up file))
    c.normal.ensures.text
