use Rattle.std.proofs.Common.{◌∙◌, [], Bool, Some, ap, ap₂, codes, refl, sym}
use Rattle.std.specs.Prelude.{option_map}
use Rattle.clap.specs.Words.{found_of, rows_of}
use Rattle.edit_shown.specs.declared.presentation.Presentation.{Presentation}
use Rattle.edit_program.specs.ParsedOptions.{lists_rows}
use Rattle.edit_program.specs.Presented.{format_of_options, numbered_if}
use Rattle.edit_program.proofs.ArgsLemmas.{err_always, none_unless, same_if, value_is}
use Rattle.edit_program.proofs.output_format.presentation.Goals as goal

pub returns-in_err-check_color_option-clause-error : goal.returns-in_err-check_color_option-clause-error
returns-in_err-check_color_option-clause-error c =
    err_always c.from_residual.result (none_unless _ _ c.in_err-check_color_option.ensures.error)

pub returns-in_err-given-clause-error : goal.returns-in_err-given-clause-error
returns-in_err-given-clause-error c =
    let format = value_is c.args.matches.now (codes "message-format") [] c.get_str.result
    c.unwrap_or-format.result _ c.get_str.ensures c.unwrap_or-format.ensures refl in
    err_always c.from_residual-in_err-given.result
    (same_if _ _ c.in_ok-check_color_option.ensures.ok
    ∙ ap (option_map (numbered_if (lists_rows (rows_of (found_of c.args.matches.now)))))
    (sym (ap₂ (format_of_options c.args.command) format c.is_given.ensures) ∙ c.in_err-given.ensures.error))

pub returns-clause-ok : goal.returns-clause-ok
returns-clause-ok c =
    let format = value_is c.args.matches.now (codes "message-format") [] c.get_str.result
    c.unwrap_or-format.result _ c.get_str.ensures c.unwrap_or-format.ensures refl in
    same_if _ _ c.in_ok-check_color_option.ensures.ok
    ∙ ap (option_map (numbered_if (lists_rows (rows_of (found_of c.args.matches.now)))))
    (sym (ap₂ (format_of_options c.args.command) format c.is_given.ensures) ∙ c.in_ok-given.ensures.ok)
    ∙ ap (λ (b : Bool). Some (numbered_if b c.in_ok-given.given)) (sym c.lists_rows.ensures)
    ∙ ap (λ (p : Presentation). Some p) (sym c.numbered_if.ensures)
