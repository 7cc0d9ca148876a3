use Rattle.std.proofs.Common.{◌∙◌, ◌||◌, ap, sym, take}
use Rattle.std.specs.Str.{bytes_eq}
use Rattle.edit_report.proofs.NameSetLemmas.{name_more}
use Rattle.edit_report.specs.NameSets.{has_name}
use Rattle.edit_choice.specs.ChosenRows.{has_change, is_change_of}
use Rattle.edit_choice.proofs.LookupLemmas.{any_take, any_take_none, change_of, no_change_of}
use Rattle.edit_choice.proofs.chosen.changed_names.Goals as goal
use Rattle.edit_choice.proofs.chosen.changed_names.Goals.{then-is_some+in_ok-insert, else-is_some}

pub rows-preserved : goal.rows-preserved
rows-preserved c = λ name.
    let xs = c.args.rows.now in
    let i = c.rows.row-index in
    let row = c.row-item.result in
    let before = has_change name (take i xs) in
    elim c.if-is_some.branch [
      | then-is_some+in_ok-insert w ↦
          ap (λ s. has_name s name) w.names-is
          ∙ name_more w.as_str.result.now c.rows.names w.insert.new.self w.in_ok-insert.ensures.updates name
          ∙ ap (λ b. b || bytes_eq w.as_str.result.now name) (c.rows.invariant name)
          ∙ ap (λ k. before || bytes_eq k name) w.as_str.ensures.value
          ∙ ap (λ b. before || b) (sym (change_of name row (sym c.is_some.ensures ∙ w.if-is_some.true)))
          ∙ sym (any_take (is_change_of name) xs i row _ c.rows-test.true c.row-item.is)
      | else-is_some w ↦
          ap (λ s. has_name s name) w.names-is
          ∙ c.rows.invariant name
          ∙ sym (any_take_none (is_change_of name) xs i row _ c.rows-test.true c.row-item.is
          (no_change_of name row (sym c.is_some.ensures ∙ w.if-is_some.false)))
    ]
