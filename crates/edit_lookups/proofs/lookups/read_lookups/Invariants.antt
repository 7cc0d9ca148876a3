use Rattle.std.proofs.Common.{◌≡◌, List, [], ◌∷◌, ◌++◌, length, map}
use Rattle.std.specs.Prelude.{All}
use Rattle.std.specs.List.{flat_map}
use denote.Text.{Utf8}
use denote.Shadow.{shadow}
use Rattle.edit_lookups.specs.Lookups.{IsLookup, LookupText, HasLookupLines, lookup_line, lookup_text}
use Rattle.edit_lookups.proofs.lookups.read_lookups.Given as goal

-- the text is the lines of the lookups so far and the rest; if the text is valid, so is the rest
abbrev pub invariant-loop-line : goal.invariant-loop-line
invariant-loop-line l =
    shadow (Utf8 l.rest)
    × (l.text ≡ flat_map (λ x. lookup_line x ++ 10 ∷ []) (map lookup_text l.lookups.items) ++ l.rest)
    × All IsLookup (map lookup_text l.lookups.items)
    × ((ls : List LookupText) → HasLookupLines l.text ls → (ms : List LookupText) × HasLookupLines l.rest ms)

abbrev pub decreases-loop-line : goal.decreases-loop-line
decreases-loop-line l = length l.rest
