use Rattle.std.proofs.Common.{Bor, List, Some, ap, ℕ, ◌∙◌, sym}
use Rattle.std.specs.Prelude.{option_map}
use Rattle.clap.specs.Words.{Text}
use Rattle.edit_program.proofs.ArgsLemmas.{option_text_is}
use Rattle.edit_program.proofs.set_version_parser.copied_value.Goals as goal

pub returns-in_ok-from_str-in-Some : goal.returns-in_ok-from_str-in-Some
returns-in_ok-from_str-in-Some c = option_text_is c.args.matches.now c.args.id.now c.get_str.result _
    (ap (λ (x : Text). Some x) c.in_ok-from_str-in-Some.ensures.ok
    ∙ ap (option_map (λ (s : Bor (List ℕ)). s.now)) (sym c.in-Some.is)) c.get_str.ensures

pub returns-in-None : goal.returns-in-None
returns-in-None c = option_text_is c.args.matches.now c.args.id.now c.get_str.result _
    (ap (option_map (λ (s : Bor (List ℕ)). s.now)) (sym c.in-None.is)) c.get_str.ensures
