use Rattle.std.proofs.Common.{◌≡◌, ◌∙◌, Option, ap, string_bytes, subst}
use Rattle.std.specs.Prelude.{option_copied, option_map}
use Rattle.semver.specs.Identifiers.{parts_of}
use Rattle.edit_version.specs.Candidates.{numbers_in}
use Rattle.edit_version.specs.Levels.{versions_within}
use Rattle.edit_version.specs.ReadRequirement.{text_in}
use Rattle.edit_version.specs.Selection.{IsCompatible, IsLatest}
use Rattle.edit_version.specs.declared.levels.Level.{Level}
use Rattle.edit_upgrade.specs.Lookups.{versions_in}
use Rattle.edit_upgrade.specs.OptionLevels.{level_in}
use Rattle.edit_upgrade.proofs.rows.row_with.Goals as goal

pub returns-clause-ok : goal.returns-clause-ok
returns-clause-ok c = λ answer h.
    let pair = c.version_pair-pair.result in
    let old = text_in c.args.old.now in
    let near = option_map parts_of (option_copied pair.compatible) in
    let far = option_map parts_of (option_copied pair.latest) in
    let xs = versions_in (numbers_in c.args.job.input.now.rust_version) answer in
    let options = c.args.job.parsed.options.now in
    let level : c.level_for-level.result ≡ level_in options (string_bytes c.args.entry.now.name)
    = c.level_for-level.ensures ∙ ap (level_in options) c.as_str.ensures.value in
    record {
      near = near;
      far = far;
      compatible = subst (λ (l : Option Level). IsCompatible old (versions_within l old xs) near) level
          (c.version_pair-pair.ensures.compatible answer h);
      latest = subst (λ (l : Option Level). IsLatest old (versions_within l old xs) far) level
          (c.version_pair-pair.ensures.latest answer h);
      is = c.in_ok-row.ensures.ok;
    }
