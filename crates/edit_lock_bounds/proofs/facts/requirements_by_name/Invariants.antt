use Rattle.std.proofs.Common.{◌≡◌, ℕ, List, map, string_bytes, take}
use Rattle.std.specs.List.{filter}
use Rattle.std.specs.Str.{bytes_eq}
use Rattle.edit_lock_bounds.specs.Choices.{wanted_of}
use Rattle.edit_lock_bounds.specs.Views.{items_at, requirement_view, wanted_view}
use Rattle.edit_lock_bounds.proofs.facts.requirements_by_name.Given as goal

abbrev pub invariant-requirements : goal.invariant-requirements
invariant-requirements l = (name : List ℕ) → items_at wanted_view l.groups name
    ≡ map (λ r. wanted_of (requirement_view r)) (filter (λ r. bytes_eq name (string_bytes r.name))
    (take l.requirement-index l.requirements))
