-- The pairs that may name a place, and the offsets in one of them.
use Rattle.std.proofs.Common.{◌≡◌, ℕ, List, ◌∷◌, length, Option, Some, None, option_map, refl, ap, ◌∙◌, inl, inr}
use Rattle.edit_syntax.proofs.Members.{Among, among_contained, contained_among}
use Rattle.edit_tree.specs.Assertions.{Place}
use Rattle.edit_tree.specs.EditBytes.{part_to}
use Rattle.edit_rewrite.specs.PairOffsets.{IsAround, HasPairOffsets}
use Rattle.edit_tree.specs.Statements.{PlacedPair}

pub no_offsets : (place : Place) (ps : List PlacedPair)
    → ((p : PlacedPair) → Among p ps → part_to place p ≡ None)
    → HasPairOffsets place ps None
no_offsets place ps none p c = none p (contained_among p ps c)

none_among : (place : Place) (p : PlacedPair) (ps : List PlacedPair) → HasPairOffsets place ps None
    → Among p ps
    → part_to place p ≡ None
none_among place p ps offsets m = offsets p (among_contained p ps m)

pub pair_around : (place : Place) (p : PlacedPair) (ps : List PlacedPair) (part : List ℕ) (r : ℕ × ℕ)
    → Among p ps
    → part_to place p ≡ Some part → r.0 ≡ length part → r.1 ≡ length p.behind → IsAround place ps r
pair_around place p ps part r m e from to = record {
  pair = p;
  among = among_contained p ps m;
  part = part;
  named = e;
  from = from;
  to = to;
}

pub more_offsets : (place : Place) (p : PlacedPair) (ps : List PlacedPair) (o : Option (ℕ × ℕ))
    → part_to place p ≡ None
    → HasPairOffsets place ps o → HasPairOffsets place (p ∷ ps) o
more_offsets place p ps None e offsets = no_offsets place (p ∷ ps) each
  where
    each : (q : PlacedPair) → Among q (p ∷ ps) → part_to place q ≡ None
    each q (inl same) = ap (part_to place) same ∙ e
    each q (inr m) = none_among place q ps offsets m
more_offsets place p ps (Some r) e offsets =
    pair_around place offsets.pair (p ∷ ps) offsets.part r (inr (contained_among offsets.pair ps offsets.among)) offsets.named
    offsets.from offsets.to

-- ---- lengths of what may be there

pub mapped : (o : Option (List ℕ)) (n : ℕ) → option_map length o ≡ Some n
    → (l : List ℕ) × (o ≡ Some l) × (n ≡ length l)
mapped None n e = absurd cc
mapped (Some l) n e = (l, refl, cc)

pub unmapped : (o : Option (List ℕ)) → option_map length o ≡ None → o ≡ None
unmapped None e = refl
unmapped (Some l) e = absurd cc
