use Rattle.std.proofs.Common.{◌∙◌, ◌++◌, ap, ap₂, option_map}
use Rattle.std.specs.List.{flat_map}
use Rattle.semver.specs.Identifiers.{parts_of}
use Rattle.edit_set_version.specs.Crates.{bumps_view, project_view}
use Rattle.edit_set_version.specs.PlanLines.{shared_lines}
use Rattle.edit_set_version.proofs.LinesTogether.{lines_in_a_row}
use Rattle.edit_set_version.proofs.rows.plan_lines.Goals as goal

pub returns-clause-ok : goal.returns-clause-ok
returns-clause-ok c =
    c.in_ok-lines.ensures.ok
    ∙ ap₂ (λ a b. a ++ b)
    (c.in_ok-first.ensures.ok
    ∙ ap (λ path. shared_lines path (option_map (λ v. parts_of v.now) c.args.old)
    (option_map (λ v. parts_of v.now) c.args.new)) c.as_str.ensures.value)
    (ap (flat_map (λ l. l)) c.in_ok-lists.ensures.ok
    ∙ lines_in_a_row (project_view c.args.project.now) (bumps_view c.args.bumps.now) c.requires.apart)
