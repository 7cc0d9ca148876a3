use Rattle.std.proofs.Common.{◌≡◌, take, ◌∷◌}
use Rattle.std.specs.Prelude.{string_bytes}
use Rattle.std.specs.List.{flat_map}
use Rattle.edit_base.proofs.paths.absolute_text.Given as goal

abbrev pub invariant-loop-name : goal.invariant-loop-name
invariant-loop-name l = string_bytes l.text ≡ flat_map (λ n. 47 ∷ n.now) (take l.name-index l.names)
