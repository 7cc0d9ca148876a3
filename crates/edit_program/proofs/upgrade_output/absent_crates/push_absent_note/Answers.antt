use Rattle.std.proofs.Common.{◌≡◌, ◌++◌, string_bytes, subst}
use Rattle.std.specs.Prelude.{OnOk}
use Rattle.edit_program.proofs.AbsentLemmas.{absent_said}
use Rattle.edit_program.proofs.upgrade_output.absent_crates.push_absent_note.Goals as goal

pub returns : goal.returns
returns c = record {
  text = subst (λ note. OnOk c.push_list.result (string_bytes c.push_list.new.text ≡ string_bytes c.args.text.now ++ note))
      (absent_said c.args.plan.now c.args.options.now c.args.offline c.as_slice-exclude.result.now
      c.as_slice-lookups.result.now c.in_ok-names.names.items c.as_slice.result.now c.if-offline.false
      c.as_slice-exclude.ensures.value c.as_slice-lookups.ensures.value c.in_ok-names.ensures
      c.as_slice.ensures.value)
      c.push_list.ensures.text;
}
