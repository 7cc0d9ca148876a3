-- The pairs of inline tables, by the places of those tables.
use Rattle.std.proofs.Common.{◌≡◌, ℕ, zero, suc, ◌+◌, ◌<◌, ◌≤◌, Bool, true, false, cond, List, [], ◌∷◌, ◌++◌, length, take, Option, Some, None, refl, sym, ap, subst, ◌∙◌, append_assoc, length-append, true≢false, arith}
use Rattle.std.specs.List.{Contains}
use Rattle.std.proofs.Math.Seq.{take-append_seam}
use Rattle.edit_syntax.specs.Grammar.{Text}
use Rattle.edit_syntax.proofs.Members.{Among, among_contained, contained_among}
use Rattle.edit_rewrite.specs.declared.path_matching.PathMatch.TheVariants.{On, Off}
use Rattle.edit_tree.specs.Assertions.{Place, key, at, same_place, AreCompatible, assertions}
use Rattle.edit_tree.specs.EditBytes.{unresolved, part_to}
use Rattle.edit_rewrite.specs.Entries.{path_match_on, path_match}
use Rattle.edit_rewrite.specs.PairOffsets.{HasPairOffsets, HasPairOffsetsIn}
use Rattle.edit_tree.specs.Statements.{Named, behind_part, PlacedPair, paired_value, inner_pairs}
use Rattle.edit_tree.specs.Tree.{is_value_at}
use Rattle.edit_tree.specs.Written.{PlacedValue, values}
use Rattle.edit_rewrite.proofs.LineEntries.{flat_among}
use Rattle.edit_rewrite.proofs.PairOffsetLemmas.{pair_around}
use Rattle.edit_tree.proofs.TablePairs.{among_flat, value_table}
use Rattle.edit_tree.proofs.SamePlace.{same_step_self, same_place_is}
use Rattle.edit_tree.proofs.UniqueValues.{values_unique, listed_value}

-- ---- the way of a front of the place

way_front : (d n : ℕ) (target : Place) → n ≤ length target
    → path_match_on d target (take n target) ≡ On (d + n)
way_front d zero [] le = ap On (let k : d ≡ d + 0 = omega arith in k)
way_front d zero (s ∷ ss) le = ap On (let k : d ≡ d + 0 = omega arith in k)
way_front d (suc n) [] le = absurd (omega (arith, le))
way_front d (suc n) (s ∷ ss) le =
    ap (λ (b : Bool). cond b (path_match_on (d + 1) ss (take n ss)) Off) (same_step_self s)
    ∙ way_front (d + 1) n ss (omega (arith, le)) ∙ ap On (let k : (d + 1) + n ≡ d + suc n = omega arith in k)

pub front_way : (n : ℕ) (target : Place) → n ≤ length target → On n ≡ path_match target (take n target)
front_way n target le = sym (way_front 0 n target le ∙ ap On (let k : 0 + n ≡ n = omega arith in k))

-- ---- one table

-- the result for the pairs of the value at a prefix of the place
pub inner_offsets : (form : Text) (place : Place) (n : ℕ) (w : PlacedValue) (o : Option (ℕ × ℕ))
    → AreCompatible (assertions form)
    → Among w (values form) → w.place ≡ take n place → HasPairOffsets place (paired_value w) o
    → HasPairOffsetsIn form place n o
inner_offsets form place n w None clash among there offsets = λ p listed table.
    let f = among_flat paired_value p (values form) (contained_among p (inner_pairs form) listed) in
    let same : f.0 ≡ w =
    values_unique form f.0 w clash f.1 among (sym (value_table p f.0 f.2) ∙ table ∙ sym there) in
    offsets p (among_contained p (paired_value w) (subst (λ (x : PlacedValue). Among p (paired_value x)) same f.2))
inner_offsets form place n w (Some r) clash among there offsets =
    pair_around place offsets.pair (inner_pairs form) offsets.part r
    (flat_among paired_value w offsets.pair (values form) among
    (contained_among offsets.pair (paired_value w) offsets.among))
    offsets.named offsets.from offsets.to

-- where no value stands, no pair does in it
pub no_inner_offsets : (form : Text) (place : Place) (n : ℕ) → is_value_at form (take n place) ≡ false
    → HasPairOffsetsIn form place n None
no_inner_offsets form place n none = λ p listed table.
    let f = among_flat paired_value p (values form) (contained_among p (inner_pairs form) listed) in
    absurd (true≢false (sym (listed_value form f.0 f.1)
    ∙ ap (is_value_at form) (sym (value_table p f.0 f.2) ∙ table) ∙ none))

-- ---- all tables

-- a pair that names the place begins in a table above it
part_below : (place table : Place) (ns : List Named) (part : List ℕ)
    → behind_part unresolved place table ns ≡ Some part → (below : Place) × (place ≡ table ++ below)
part_below place table [] part e = absurd cc
part_below place table (n ∷ ns) part e =
    go (same_place (at table (key n.0)) place) refl e (part_below place (at table (key n.0)) ns part)
  where
    others : Option (List ℕ)
    others = behind_part unresolved place (at table (key n.0)) ns

    go : (b : Bool) → same_place (at table (key n.0)) place ≡ b → cond b (Some n.1) others ≡ Some part
        → (others ≡ Some part → (below : Place) × (place ≡ at table (key n.0) ++ below))
        → (below : Place) × (place ≡ table ++ below)
    go true same e ih = (key n.0 ∷ [], sym (same_place_is (at table (key n.0)) place same))
    go false same e ih =
        let r = ih e in
        (key n.0 ∷ r.0, r.1 ∙ append_assoc table (key n.0 ∷ []) r.0)

-- where no pair names it that begins at a front of the place, none in an inline table does
pub inner_none : (form : Text) (place : Place) (end : ℕ)
    → ((p : PlacedPair) → Contains (inner_pairs form) p → (n : ℕ) → n < end → p.table ≡ take n place
    → part_to place p ≡ None)
    → length place < end → (p : PlacedPair) → Contains (inner_pairs form) p → part_to place p ≡ None
inner_none form place end none le p listed = go (part_to place p) refl
  where
    go : (o : Option (List ℕ)) → part_to place p ≡ o → part_to place p ≡ None
    go None e = e
    go (Some part) e =
        let r = part_below place p.table p.parts part e in
        let size = ap length r.1 ∙ length-append p.table r.0 in
        let front : p.table ≡ take (length p.table) place =
        sym (ap (take (length p.table)) r.1 ∙ take-append_seam p.table r.0) in
        none p listed (length p.table) (omega (arith, le, size)) front
