use Rattle.std.proofs.Common.{◌≡◌, ℕ, List, string_bytes, take}
use Rattle.std.specs.List.{filter}
use Rattle.std.specs.Str.{bytes_eq}
use Rattle.edit_lock_bounds.specs.Views.{items_at}
use Rattle.edit_lock_bounds.proofs.facts.crates_by_name.Given as goal

abbrev pub invariant-crates : goal.invariant-crates
invariant-crates l = (name : List ℕ) → items_at (λ c. c.now) l.groups name
    ≡ filter (λ c. bytes_eq name (string_bytes c.name)) (take l.versions-index l.crates)
