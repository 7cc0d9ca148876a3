use Rattle.std.proofs.Common.{◌≡◌, ◌∙◌, ◌++◌, ap, of_z, to_z, w8}
use Rattle.std.specs.List.{flat_map}
use Rattle.std.specs.Prelude.{codes, true}
use Rattle.std.proofs.lemmas.Int.{to_z-of_z}
use Rattle.edit_report.specs.Messages.{message_text}
use Rattle.edit_program.specs.StderrText.{warning_on}
use Rattle.edit_program.proofs.DeliveryLemmas.{said_of_own}
use Rattle.edit_program.proofs.upgrade_output.reports.report_text.Goals as goal

pub returns : goal.returns
returns c =
    let v = c.args.verbosity in
    let i = c.args.input in
    let known : to_z w8 (of_z w8 v) ≡ v = to_z-of_z w8 v c.ranges.verbosity in
    let status = message_text true (codes "Checking") (c.args.name.now ++ codes "'s dependencies") in
    c.in_ok-push_warnings.ensures
    ∙ ap (λ xs. xs ++ flat_map (warning_on (to_z w8 (of_z w8 v)) i) c.warnings_at.result.now)
    (c.in_ok-push_check.ensures ∙ ap (λ xs. xs ++ status) c.new-text.ensures.bytes)
    ∙ ap (λ n. status ++ flat_map (warning_on n i) c.warnings_at.result.now) known
    ∙ ap (λ ws. status ++ flat_map (warning_on v i) ws) c.warnings_at.ensures
    ∙ ap (λ xs. status ++ xs) (said_of_own v i c.args.warnings.now)
