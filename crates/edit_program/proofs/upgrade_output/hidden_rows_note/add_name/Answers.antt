use Rattle.std.proofs.Common.{◌∙◌, ap, sym}
use Rattle.std.specs.Prelude.{String}
use Rattle.std.specs.BTreeSet.{BTreeSet}
use Rattle.std.specs.Str.{bytes_eq}
use Rattle.std.specs.declared.alloc.Global.{Global}
use Rattle.edit_program.proofs.NameLemmas.{name_added, name_unchanged}
use Rattle.edit_program.proofs.upgrade_output.hidden_rows_note.add_name.Goals as goal
use Rattle.edit_program.proofs.upgrade_output.hidden_rows_note.add_name.Goals.{then-eq+in_ok-name_text+in_ok-insert, else-eq}

pub returns-clause-ok : goal.returns-clause-ok
returns-clause-ok c =
    let reason = c.args.reason.now in
    elim c.if-eq.branch [
      | then-eq+in_ok-name_text+in_ok-insert w ↦
          name_added reason c.args.row.now c.args.names.now.keys c.if-eq.names.keys w.in_ok-name_text.field-0
          (sym (ap (λ t. bytes_eq t reason) c.in_ok-reason_in_notes.ensures.ok) ∙ sym c.eq.ensures ∙ w.if-eq.true)
          w.in_ok-name_text.ensures
          (ap (λ (s : BTreeSet (String Global)). s.keys) w.names-is ∙ w.in_ok-insert.ensures.keys)
      | else-eq w ↦
          name_unchanged reason c.args.row.now c.args.names.now.keys c.if-eq.names.keys
          (sym (ap (λ t. bytes_eq t reason) c.in_ok-reason_in_notes.ensures.ok) ∙ sym c.eq.ensures ∙ w.if-eq.false)
          (ap (λ (s : BTreeSet (String Global)). s.keys) w.names-is)
    ]
