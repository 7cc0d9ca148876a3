use denote.Text.{Utf8}
use denote.Shadow.{shadow}
use Rattle.edit_steps.proofs.output_error.written_text.Given as goal

-- the text between two paths is text
abbrev pub invariant-loop-output : goal.invariant-loop-output
invariant-loop-output l =
    (goal.iterator-loop-output).can_next l.output-iterator ×
    (goal.iterator-loop-output).is_finite l.output-iterator ×
    shadow (Utf8 l.separator)
