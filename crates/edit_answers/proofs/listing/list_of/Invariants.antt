use Rattle.std.proofs.Common.{map}
use Rattle.edit_answers.specs.Listing.{IsListOf}
use Rattle.edit_answers.proofs.listing.list_of.Given as goal

-- the list of the available entries so far
abbrev pub invariant-loop-lookup : goal.invariant-loop-lookup
invariant-loop-lookup l = IsListOf l.places (map (λ p. (p.0.now, p.1.now)) l.yielded) l.text.items
