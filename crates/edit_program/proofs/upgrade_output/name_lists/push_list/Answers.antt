use Rattle.std.proofs.Common.{◌≡◌, ◌∙◌, ◌++◌, string_bytes, subst, sym}
use Rattle.std.specs.Prelude.{OnOk}
use Rattle.edit_program.proofs.NameListLemmas.{list_said}
use Rattle.edit_program.proofs.upgrade_output.name_lists.push_list.Goals as goal

pub returns : goal.returns
returns c = record {
  text = subst (λ note. OnOk c.push_note.result (string_bytes c.push_note.new.text ≡ string_bytes c.args.text.now ++ note))
      (list_said c.args.what.now c.args.noun c.args.names.now _ c.as_str.result.now
      (sym c.is_empty.ensures ∙ c.if-is_empty.false) c.in_ok-message.ensures c.as_str.ensures.value)
      c.push_note.ensures;
}
