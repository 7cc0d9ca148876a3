use Rattle.std.proofs.Common.{◌≡◌, map, take, string_bytes}
use Rattle.std.specs.Prelude.{codes}
use Rattle.edit_base.specs.Paths.{joined, texts}
use Rattle.edit_sources.proofs.config.files.places.Given as goal

abbrev pub invariant-loop-folder : goal.invariant-loop-folder
invariant-loop-folder l = map string_bytes l.places.items
    ≡ map (λ folder. joined folder (codes ".cargo")) (texts (take l.folder-index l.folder-items))
