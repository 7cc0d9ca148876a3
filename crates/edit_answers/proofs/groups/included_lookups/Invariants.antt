use Rattle.std.proofs.Common.{◌≡◌, map}
use Rattle.std.specs.Prelude.{filter, not}
use Rattle.edit_answers.specs.Groups.{is_excluded}
use Rattle.edit_answers.proofs.groups.included_lookups.Given as goal

-- the pairs so far, without those of excluded crates
abbrev pub invariant-loop-lookup : goal.invariant-loop-lookup
invariant-loop-lookup l =
    l.pairs.items ≡ filter (λ p. not (is_excluded l.excluded p.0.name.now))
    (map (λ p. (p.0.now, p.1.now)) l.yielded)
