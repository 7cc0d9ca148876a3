-- Pairs of inline tables whose keys pass through a place: all are in the innermost inline table around it.
use Rattle.std.proofs.Common.{◌≡◌, ℕ, zero, suc, ◌+◌, ◌-◌, ◌<◌, ◌≤◌, Bool, true, false, cond, ltb, List, [], ◌∷◌, ◌++◌, map, length, take, Option, None, Some, option_map, refl, sym, subst, ap, ap₂, ◌∙◌, ◌⊎◌, inl, inr, true≢false, append_assoc, length-append, arith}
use Rattle.std.proofs.Math.Seq.{take-append_seam}
use Rattle.std.proofs.lemmas.Bool.{ltb-true, ltb-false}
use Rattle.edit_syntax.specs.Characters.{right_brace}
use Rattle.edit_syntax.specs.Strings.{Dotted, Key, name}
use Rattle.edit_syntax.specs.Grammar.{gap, Value, basic, literal, multi_basic, multi_literal, boolean, integer, float, datetime, array, inline, Members, no_members, last_member, member, Text}
use Rattle.edit_syntax.proofs.Cases.{by_test}
use Rattle.edit_syntax.proofs.Members.{Among, among_contained, contained_among}
use Rattle.edit_rewrite.specs.declared.inner.Inner.{Inner}
use Rattle.edit_tree.specs.Assertions.{Step, Place, key, at, same_place, dotted, leaf, Assertion, asserts, names, named, of_key, of_value, of_members, assertions, AreCompatible}
use Rattle.edit_tree.specs.EditBytes.{unresolved, last_result, front_to}
use Rattle.edit_rewrite.specs.Inner.{inner_of, NoneAbove}
use Rattle.edit_document.specs.Ranges.{is_table_value, StartsTable}
use Rattle.edit_tree.specs.Statements.{Named, dotted_parts, front_parts, behind_part, PlacedPair, placed_pair, paired_members, paired_value, inner_pairs}
use Rattle.edit_tree.specs.Written.{PlacedValue, values}
use Rattle.edit_tree.proofs.Choices.{last_nothing, last_flat, last_only}
use Rattle.edit_tree.proofs.TablePairs.{among_flat, value_table}
use Rattle.edit_tree.proofs.SamePlace.{same_place_is, same_place_self}
use Rattle.edit_tree.proofs.UniqueValues.{values_unique}
use Rattle.edit_rewrite.proofs.ValueAssertions.{among_left, among_right, value_assertion, value_alone}

-- ---- a key that goes on behind a place

-- it begins above the place
pub part_within : (place table : Place) (ns : List Named) (suffix : List ℕ)
    → behind_part unresolved place table ns ≡ Some suffix → (s : Step) × (below : Place)
    × (place ≡ table ++ (s ∷ below))
part_within place table [] suffix e = absurd cc
part_within place table (n ∷ ns) suffix e =
    go (same_place (at table (key n.0)) place) refl e (part_within place (at table (key n.0)) ns suffix)
  where
    go : (b : Bool) → same_place (at table (key n.0)) place ≡ b
        → cond b (Some n.1) (behind_part unresolved place (at table (key n.0)) ns) ≡ Some suffix
        → (behind_part unresolved place (at table (key n.0)) ns ≡ Some suffix
        → (s : Step) × (below : Place) × (place ≡ at table (key n.0) ++ (s ∷ below)))
        → (s : Step) × (below : Place) × (place ≡ table ++ (s ∷ below))
    go true h k ih = (key n.0, [], sym (same_place_is (at table (key n.0)) place h))
    go false h k ih =
        let r = ih k in
        (key n.0, r.0 ∷ r.1, r.2 ∙ append_assoc table (key n.0 ∷ []) (r.0 ∷ r.1))

pub part_above : (place table : Place) (ns : List Named) (suffix : List ℕ)
    → behind_part unresolved place table ns ≡ Some suffix → (length table < length place)
    × (take (length table) place ≡ table)
part_above place table ns suffix e =
    let r = part_within place table ns suffix e in
    let size = ap length r.2 ∙ length-append table (r.0 ∷ r.1) in
    (omega arith, ap (take (length table)) r.2 ∙ take-append_seam table (r.0 ∷ r.1))

-- and asserts each place on the way
key_dotted : (place : Place) (j : ℕ) (by q : Place) (n x : List ℕ) (ds : List Dotted) (rest : List ℕ)
    (v : Value)
    (suffix : List ℕ) → behind_part unresolved place q (front_parts ((n, x) ∷ dotted_parts ds rest)) ≡ Some suffix
    → length q + suc j < length place
    → Among (asserts by (take (length q + suc j) place) (dotted true))
    (of_key true by q (n ∷ map (λ d. name d.part) ds) v)
key_dotted place j by q n x [] rest v suffix e lt = absurd cc
key_dotted place j by q n x (d ∷ ds) rest v suffix e lt =
    go (same_place here place) refl e (λ i. key_dotted place i by here (name d.part) _ ds rest v suffix)
  where
    here : Place
    here = at q (key n)

    size : length here ≡ length q + 1
    size = length-append q (key n ∷ [])

    others : List Named
    others = front_parts (dotted_parts (d ∷ ds) rest)

    made : List Assertion
    made = of_key true by here (name d.part ∷ map (λ z. name z.part) ds) v

    deeper : (i : ℕ) → behind_part unresolved place here others ≡ Some suffix
        → ((m : ℕ) → behind_part unresolved place here others ≡ Some suffix → length here + suc m < length place
        → Among (asserts by (take (length here + suc m) place) (dotted true)) made)
        → length q + suc i < length place
        → Among (asserts by (take (length q + suc i) place) (dotted true))
        (asserts by here (dotted true) ∷ made)
    deeper zero k ih le =
        let r = part_above place here others suffix k in
        let at_here : length q + 1 ≡ length here = sym size in
        inl (ap (λ (p : Place). asserts by p (dotted true)) (ap (λ (m : ℕ). take m place) at_here ∙ r.1))
    deeper (suc i) k ih le =
        let same : length here + suc i ≡ length q + suc (suc i) = omega (arith, size) in
        inr (subst (λ (m : ℕ). Among (asserts by (take m place) (dotted true)) made) same
        (ih i k (omega (arith, size))))

    go : (b : Bool) → same_place here place ≡ b
        → cond b (Some x) (behind_part unresolved place here others) ≡ Some suffix
        → ((m : ℕ) → behind_part unresolved place here others ≡ Some suffix → length here + suc m < length place
        → Among (asserts by (take (length here + suc m) place) (dotted true)) made)
        → Among (asserts by (take (length q + suc j) place) (dotted true))
        (asserts by here (dotted true) ∷ made)
    go true h k ih =
        let full = ap length (same_place_is here place h) in
        absurd (omega (arith, size, full, lt))
    go false h k ih = deeper j k ih lt

-- what a pair of an inline table asserts on the way to a place
pub record OnTheWay (made : List Assertion) (there : Place) : Type 0 where
  pub one : Assertion
  pub among : Among one made
  pub place : one.place ≡ there
  pub kind : one.kind ≡ dotted true

pair_dotted : (place table : Place) (j : ℕ) (k : Key) (a b : List ℕ) (v : Value) (behind suffix : List ℕ)
    → front_to place (placed_pair table k a b v behind) ≡ Some suffix → length table + suc j < length place
    → OnTheWay (of_key true (named table (names k)) table (names k) v) (take (length table + suc j) place)
pair_dotted place table j k a b v behind suffix e lt = record {
  one = asserts (named table (names k)) (take (length table + suc j) place) (dotted true);
  among = key_dotted place j (named table (names k)) table (name k.first) _ k.others _ v suffix e lt;
  place = refl;
  kind = refl;
}

wider : (xs ys zs : List Assertion) (there : Place) → OnTheWay xs there → OnTheWay ((xs ++ ys) ++ zs) there
wider xs ys zs there r = record {
  one = r.one;
  among = among_left r.one (xs ++ ys) zs (among_left r.one xs ys r.among);
  place = r.place;
  kind = r.kind;
}

members_dotted : (place table : Place) (j : ℕ) (p : PlacedPair) (ms : Members) (rest suffix : List ℕ)
    → Among p (paired_members table ms rest) → front_to place p ≡ Some suffix
    → length table + suc j < length place
    → OnTheWay (of_members table ms) (take (length table + suc j) place)
members_dotted place table j p no_members rest suffix m e lt = absurd m
members_dotted place table j p (last_member k a b v c) rest suffix (inl is) e lt =
    let r = pair_dotted place table j k a b v (gap c rest) suffix (ap (front_to place) (sym is) ∙ e) lt in
    record {
      one = r.one;
      among = among_left r.one _ (of_value (named table (names k)) v) r.among;
      place = r.place;
      kind = r.kind;
    }
members_dotted place table j p (last_member k a b v c) rest suffix (inr m) e lt = absurd m
members_dotted place table j p (member k a b v c d ms) rest suffix (inl is) e lt =
    wider _ (of_value (named table (names k)) v) (of_members table ms) _
    (pair_dotted place table j k a b v _ suffix (ap (front_to place) (sym is) ∙ e) lt)
members_dotted place table j p (member k a b v c d ms) rest suffix (inr m) e lt =
    let r = members_dotted place table j p ms rest suffix m e lt in
    record {
      one = r.one;
      among = among_right r.one _ (of_members table ms) r.among;
      place = r.place;
      kind = r.kind;
    }

-- ---- the tables of such pairs

-- only inline tables have pairs
value_pairs : (p : PlacedPair) (w : PlacedValue) → Among p (paired_value w) → is_table_value w.value ≡ true
value_pairs p w = go w.value
  where
    go : (v : Value) → Among p (paired_value (record w { value = v })) → is_table_value v ≡ true
    go (basic ps) m = absurd m
    go (literal t) m = absurd m
    go (multi_basic ps) m = absurd m
    go (multi_literal ps) m = absurd m
    go (boolean b) m = absurd m
    go (integer n) m = absurd m
    go (float f) m = absurd m
    go (datetime d) m = absurd m
    go (array g es) m = absurd m
    go (inline g ms) m = refl

value_dotted : (place : Place) (j : ℕ) (p : PlacedPair) (w : PlacedValue) (suffix : List ℕ)
    → Among p (paired_value w)
    → front_to place p ≡ Some suffix → length w.place + suc j < length place
    → OnTheWay (of_value w.place w.value) (take (length w.place + suc j) place)
value_dotted place j p w suffix = go w.value
  where
    go : (v : Value) → Among p (paired_value (record w { value = v })) → front_to place p ≡ Some suffix
        → length w.place + suc j < length place
        → OnTheWay (of_value w.place v) (take (length w.place + suc j) place)
    go (basic ps) m e lt = absurd m
    go (literal t) m e lt = absurd m
    go (multi_basic ps) m e lt = absurd m
    go (multi_literal ps) m e lt = absurd m
    go (boolean b) m e lt = absurd m
    go (integer n) m e lt = absurd m
    go (float f) m e lt = absurd m
    go (datetime d) m e lt = absurd m
    go (array g es) m e lt = absurd m
    go (inline g ms) m e lt = members_dotted place w.place j p ms (right_brace ∷ w.after) suffix m e lt

-- an inline table whose pair goes on behind the place stands above it
stands_above : (place : Place) (p : PlacedPair) (w : PlacedValue) (suffix : List ℕ) → Among p (paired_value w)
    → front_to place p ≡ Some suffix → (length w.place < length place) × (take (length w.place) place ≡ w.place)
stands_above place p w suffix m e =
    subst (λ (t : Place). (length t < length place) × (take (length t) place ≡ t)) (value_table p w m)
    (part_above place p.table (front_parts p.parts) suffix e)

no_front : (place : Place) (p : PlacedPair) → ((suffix : List ℕ) → front_to place p ≡ Some suffix → ⊥)
    → inner_of place p ≡ None
no_front place p never = go (front_to place p) refl
  where
    go : (o : Option (List ℕ)) → front_to place p ≡ o → inner_of place p ≡ None
    go None e = ap (λ (x : Option (List ℕ)). option_map (λ (suffix : List ℕ). made suffix) x) e
      where
        made : List ℕ → Inner
        made suffix = record { from = length p.from; front = length suffix; behind = length p.behind }
    go (Some suffix) e = absurd (never suffix e)

module _ (form : Text) (place : Place) (clash : AreCompatible (assertions form)) where
  -- none stands so far from the root, or further
  too_far : (from : ℕ) → NoneAbove form place from → (w : PlacedValue) → Among w (values form)
      → from ≤ length w.place
      → (p : PlacedPair) → Among p (paired_value w) → (suffix : List ℕ) → front_to place p ≡ Some suffix → ⊥
  too_far from none w among le p m suffix e =
      let r = stands_above place p w suffix m e in
      true≢false (sym (value_pairs p w m)
      ∙ none (length w.place) le r.0 w (among_contained w (values form) among) (sym r.1))

  -- where no inline table stands above the place, no pair goes on behind it
  pub none_inner : NoneAbove form place 0 → last_result (inner_of place) (inner_pairs form) ≡ None
  none_inner none =
      last_nothing (inner_of place) (inner_pairs form)
      (λ p among. let w = among_flat paired_value p (values form) among in
      no_front place p (too_far 0 none w.0 w.1 (omega arith) p w.2))

  -- an inline table that stands above another one has no pair that goes on behind it
  too_near : (k start : ℕ) → k < length place → StartsTable form (take k place) start → (w : PlacedValue)
      → Among w (values form) → length w.place < k → (p : PlacedPair) → Among p (paired_value w)
      → (suffix : List ℕ)
      → front_to place p ≡ Some suffix → ⊥
  too_near k start lt t w among near p m suffix e =
      let j = k - suc (length w.place) in
      let same : length w.place + suc j ≡ k = omega arith in
      let r = value_dotted place j p w suffix m e (omega arith) in
      let listed = value_assertion form w r.one among (inr r.among) in
      let kind = value_alone form t.placed_value r.one clash (contained_among t.placed_value (values form) t.listed) listed
      (r.place ∙ ap (λ (n : ℕ). take n place) same ∙ sym t.there) in
      let clashes : dotted true ≡ leaf t.placed_value.value = sym r.kind ∙ kind in
      absurd cc

  -- else all such pairs stand in the closest one
  pub closest_inner : (k start : ℕ) → k < length place → (t : StartsTable form (take k place) start)
      → NoneAbove form place (suc k)
      → last_result (inner_of place) (inner_pairs form)
      ≡ last_result (inner_of place) (paired_members (take k place) t.all (right_brace ∷ t.placed_value.after))
  closest_inner k start lt t none =
      last_flat (inner_of place) paired_value (values form)
      ∙ last_only made t.placed_value (values form) (contained_among t.placed_value (values form) t.listed) each
      ∙ ap₂ (λ (v : Value) (q : Place). last_result (inner_of place)
      (paired_value (record t.placed_value { value = v; place = q })))
      t.is t.there
    where
      made : PlacedValue → Option Inner
      made w = last_result (inner_of place) (paired_value w)

      other : (w : PlacedValue) → Among w (values form) → same_place w.place t.placed_value.place ≡ false
          → (p : PlacedPair)
          → Among p (paired_value w) → (suffix : List ℕ) → front_to place p ≡ Some suffix → ⊥
      other w among apart p m suffix e =
          let r = stands_above place p w suffix m e in
          by_test (ltb (length w.place) k)
          (λ h. too_near k start lt t w among (ltb-true (length w.place) k h) p m suffix e)
          (λ h. by_test (ltb k (length w.place))
          (λ g. too_far (suc k) none w among (let x = ltb-true k (length w.place) g in
          omega arith) p m suffix e)
          (λ g. let same : length w.place
          ≡ k = omega (arith, ltb-false (length w.place) k h, ltb-false k (length w.place) g) in
          true≢false (sym (ap (λ (q : Place). same_place w.place q)
          (t.there ∙ ap (λ (n : ℕ). take n place) (sym same) ∙ r.1)
          ∙ same_place_self w.place) ∙ apart)))

      each : (w : PlacedValue) → Among w (values form) → (made w ≡ None) ⊎ (w ≡ t.placed_value)
      each w among =
          by_test (same_place w.place t.placed_value.place)
          (λ h. inr (values_unique form w t.placed_value clash among (contained_among t.placed_value (values form) t.listed)
          (same_place_is w.place t.placed_value.place h)))
          (λ h. inl (last_nothing (inner_of place) (paired_value w)
          (λ p m. no_front place p (other w among h p m))))
