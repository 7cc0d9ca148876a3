use Rattle.std.proofs.Common.{◌≡◌, ◌∙◌, ◌++◌, ap, of_z, string_bytes, subst, sym, to_z, w8}
use Rattle.std.specs.Prelude.{◌==◌}
use Rattle.std.proofs.lemmas.Int.{to_z-of_z}
use Rattle.edit_program.proofs.NoteLemmas.{hidden_said}
use Rattle.edit_program.proofs.upgrade_output.notes.push_hidden.Goals as goal

pub returns-clause-text : goal.returns-clause-text
returns-clause-text c =
    let v = c.args.verbosity in
    let known : to_z w8 (of_z w8 v) ≡ v = to_z-of_z w8 v c.ranges.verbosity in
    subst (λ note. string_bytes c.push_note.new.text ≡ string_bytes c.args.text.now ++ note)
    (hidden_said v (to_z w8 (of_z w8 v)) c.args.rows.now c.in_ok-hidden.hidden.items c.as_slice.result.now _
    c.as_str.result.now known c.in_ok-hidden.ensures.ok
    (ap (λ n. n == 0) (sym c.in_ok-hidden.hidden.ok.0) ∙ sym c.is_empty.ensures ∙ c.if-is_empty.false)
    c.as_slice.ensures.value c.in_ok-message.ensures.ok c.as_str.ensures.value)
    c.in_ok-push_note.ensures
