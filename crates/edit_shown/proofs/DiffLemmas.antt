-- The diffs of manifests, one input after the other.
use Rattle.std.proofs.Common.{◌≡◌, ◌∙◌, ℕ, ◌≤◌, List, [], ◌∷◌, true, ap, arith, get_or, length, sym}
use Rattle.std.specs.Prelude.{if◌then◌else◌}
use Rattle.edit_metadata.specs.declared.input.Input.{Input}
use Rattle.edit_report.specs.declared.output.Output.{Output}
use Rattle.edit_shown.specs.Diffs.{diff_of, is_of, next_diff}

-- the change of an input whose output comes first
pub next_is : (current : List ℕ) (input : Input) (outputs : List Output) (output : Output)
    → 1 ≤ length outputs → output ≡ get_or outputs 0 output → is_of input output ≡ true
    → next_diff current input outputs ≡ diff_of current input output
next_is current input [] output some is own = absurd (omega arith)
next_is current input (first ∷ outputs) output some is own =
    ap (λ x. if is_of input x then diff_of current input x else []) (sym is)
    ∙ ap (λ b. if b then diff_of current input output else []) own
