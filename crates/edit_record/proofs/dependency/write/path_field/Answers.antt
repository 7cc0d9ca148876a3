use Rattle.std.proofs.Common.{◌∙◌, ap}
use Rattle.edit_record.specs.RelativePaths.{replace_backslashes}
use Rattle.edit_record.proofs.RelativeTexts.{relative-is}
use Rattle.edit_record.proofs.dependency.write.path_field.Goals as goal

pub returns-clause-text : goal.returns-clause-text
returns-clause-text c =
    c.in_ok-replace_backslashes.ensures
    ∙ ap replace_backslashes (c.as_str.ensures.value
    ∙ relative-is c.args.path.now c.args.root.now _ c.in_ok-way.ensures.text)
