use Rattle.std.proofs.Common.{◌≡◌, ℕ, List, map, string_bytes, take}
use Rattle.std.specs.List.{filter}
use Rattle.std.specs.Str.{bytes_eq}
use Rattle.edit_lock_bounds.specs.Views.{items_at}
use Rattle.edit_lock_bounds.proofs.facts.chosen_by_name.Given as goal

abbrev pub invariant-chosen : goal.invariant-chosen
invariant-chosen l = (name : List ℕ) → items_at (λ t. t.now) l.groups name
    ≡ map (λ c. string_bytes c.version) (filter (λ c. bytes_eq name (string_bytes c.name))
    (take l.version-index l.chosen))
