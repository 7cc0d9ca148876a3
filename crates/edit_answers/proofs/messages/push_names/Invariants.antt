use Rattle.std.proofs.Common.{◌≡◌, ◌++◌, take}
use Rattle.std.specs.Prelude.{codes, string_bytes}
use Rattle.std.specs.List.{flat_map}
use Rattle.edit_lookups.specs.ControlEscapes.{escape_controls}
use Rattle.edit_answers.proofs.messages.push_names.Given as goal

abbrev pub invariant-loop-name : goal.invariant-loop-name
invariant-loop-name l =
    string_bytes l.text ≡ string_bytes l.initial.text
    ++ flat_map (λ n. codes ", " ++ escape_controls n.now) (take l.name-index l.names)
