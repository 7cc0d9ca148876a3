use Rattle.std.proofs.Common.{◌≡◌, ◌∙◌, ◌++◌, List, ap, ap₂, codes, refl, rules, string_bytes, ℕ}
use Rattle.std.proofs.lemmas.List.{append_assoc}
use Rattle.edit_set_version.specs.Planned.{plan_lines_view}
use Rattle.edit_program.specs.Printed.{messages_in, statuses_in, warning_if}
use Rattle.edit_program.proofs.set_version_run.command.plan_effects.Goals as goal

pub returns-clause-texts : goal.returns-clause-texts
returns-clause-texts c =
    let args = c.args.args.now in
    let plan = c.args.plan in
    let format = args.presentation.format in
    let lines = plan_lines_view plan in
    let all = warning_if args.all (codes "The flag `--all` has been deprecated in favor of `--workspace`") in
    let dry = warning_if args.dry_run (codes "aborting set-version due to dry run") in
    let none : string_bytes c.new.result ≡ codes "" = search rules in
    let noted : c.into_bytes.result.items ≡ dry = search rules in
    record {
      stdout = ap₂ (λ (a b : List ℕ). a ++ b)
          (c.in_ok-push_lines.ensures.stdout
          ∙ ap (λ (t : List ℕ). t ++ messages_in format lines plan.changes.items) c.requires.stdout)
          (c.diffs_for-diffs.ensures plan.outputs.items);
      stderr = ap₂ (λ (a b : List ℕ). a ++ b)
          (c.in_ok-push_lines.ensures.stderr
          ∙ ap (λ (t : List ℕ). t ++ statuses_in format lines) c.requires.stderr)
          (ap₂ (λ (a b : List ℕ). a ++ b) none noted)
          ∙ append_assoc all (statuses_in format lines) dry;
      notes = noted;
      outputs = refl;
      writes = search rules;
      ends = refl;
    }
