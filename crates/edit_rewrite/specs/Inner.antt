-- Pairs of inline tables whose dotted key passes through a place.
use Rattle.std.specs.Prelude.{◌≤◌, ◌<◌, ℕ, suc, List, length, take, Option, None, option_map, MatchOption}
use Rattle.edit_syntax.specs.Grammar.{Text}
use Rattle.edit_rewrite.specs.declared.inner.Inner.{Inner}
use Rattle.edit_tree.specs.Assertions.{Place}
use Rattle.edit_tree.specs.EditBytes.{front_to}
use Rattle.edit_document.specs.Ranges.{StartsTable, HasTable}
use Rattle.edit_tree.specs.Slots.{Slot, of_value, of_pair}
use Rattle.edit_rewrite.specs.StatementOffsets.{IsSuffix, IsFront}
use Rattle.edit_tree.specs.Statements.{PlacedPair, placed_pair}

-- the offsets of a pair whose key passes through the place
abbrev pub inner_of : Place → PlacedPair → Option Inner
inner_of place p =
    option_map (λ suffix. record { from = length p.from; front = length suffix; behind = length p.behind })
    (front_to place p)

-- the offsets of a member of an inline table whose key passes through the place, with the text behind its
-- value
abbrev pub inner_in : Place → Place → Slot → List ℕ → Option Inner
inner_in place table (of_value v) behind = None
inner_in place table (of_pair k a b v) behind = inner_of place (placed_pair table k a b v behind)

-- the pair is in the text, and its positions are character boundaries
pub record HasInner (bytes : List ℕ) (p : PlacedPair) (suffix : List ℕ) : Type 0 where
  pub from : IsSuffix bytes p.from
  pub front : IsFront bytes p.from suffix
  pub behind : IsSuffix bytes p.behind

-- no inline table is written at a prefix of this place of n steps or more
abbrev pub NoneAbove : Text → Place → ℕ → Type 0
NoneAbove form place from = (n : ℕ) → from ≤ n → n < length place → HasTable form (take n place) None

-- the innermost inline table around the place: the number of steps to it, and its offset
abbrev pub IsClosest : Text → Place → Option (ℕ × ℕ) → Type 0
IsClosest form place r =
    MatchOption r (NoneAbove form place 0)
    (λ p. (p.0 < length place) × StartsTable form (take p.0 place) p.1 × NoneAbove form place (suc p.0))
