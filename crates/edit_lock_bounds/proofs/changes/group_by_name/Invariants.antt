use Rattle.std.proofs.Common.{◌≡◌, ℕ, List, string_bytes, take}
use Rattle.std.specs.List.{filter}
use Rattle.std.specs.Str.{bytes_eq}
use Rattle.edit_lock_bounds.specs.Views.{items_at}
use Rattle.edit_lock_bounds.proofs.changes.group_by_name.Given as goal

abbrev pub invariant-packages : goal.invariant-packages
invariant-packages l = (name : List ℕ) → items_at (λ p. p.now) l.groups name
    ≡ filter (λ p. bytes_eq name (string_bytes p.name)) (take l.locked-index l.packages)
