-- The rule for inserting a member into a table that dotted keys make inside an inline table.
use Rattle.std.proofs.Common.{◌≡◌, ℕ, List, [], ◌∷◌, ◌++◌, map, length, Option, Some, None, option_map, refl, sym, subst, ap, ◌∙◌, inl, inr, arith}
use Rattle.std.specs.Prelude.{IsUtf8, codes}
use Rattle.edit_syntax.specs.Characters.{comma, equals, left_brace, right_brace}
use Rattle.edit_syntax.specs.Grammar.{gap, Value, basic, literal, multi_basic, multi_literal, boolean, integer, float, datetime, array, inline, value, IsValue, Members, no_members, last_member, member, members, AreMembers, Text}
use Rattle.edit_syntax.specs.Strings.{key}
use Rattle.edit_syntax.proofs.Members.{Among}
use Rattle.edit_rewrite.specs.declared.inner.Inner.{Inner}
use Rattle.edit_tree.specs.Assertions.{IsDocument, Place}
use Rattle.edit_tree.specs.EditBytes.{Splice, put_before, unresolved, last_result, front_to, dotted_pair, in_inner_dotted}
use Rattle.edit_rewrite.specs.Inner.{inner_of, HasInner}
use Rattle.edit_tree.specs.Statements.{PlacedPair, paired_members, paired_value, inner_pairs}
use Rattle.edit_tree.specs.Written.{PlacedValue, values}
use Rattle.edit_tree.proofs.Choices.{Alike, last_none, last_chosen}
use Rattle.edit_tree.proofs.Ends.{Ends, ends_one, ends_pair, ends_gap, ends_value}
use Rattle.edit_rewrite.proofs.InlineSuffixes.{gap_starts}
use Rattle.edit_tree.proofs.TablePairs.{among_flat}
use Rattle.edit_rewrite.proofs.StatementSuffixes.{Starts, suffix_of, part_start, key_fronts}
use Rattle.edit_rewrite.proofs.ValueSuffixes.{values_stand}

-- ---- the pair that is chosen

-- a member behind this one
abbrev pub inner_splice : PlacedPair → List ℕ → List ℕ → Splice
inner_splice p suffix m = put_before p.behind (codes ", " ++ dotted_pair p suffix m)

abbrev inner_grown : Place → List ℕ → PlacedPair → Option Splice
inner_grown place m p = option_map (λ suffix. inner_splice p suffix m) (front_to place p)

map_none : {A B C : Type 0} (f : A → B) (g : A → C) (o : Option A) → option_map f o ≡ None
    → option_map g o ≡ None
map_none f g None e = refl
map_none f g (Some x) e = absurd cc

map_some : {A B : Type 0} (f : A → B) (o : Option A) (y : B) → option_map f o ≡ Some y → (x : A)
    × (o ≡ Some x)
map_some f None y e = absurd cc
map_some f (Some x) y e = (x, refl)

abbrev itself : PlacedPair → PlacedPair
itself p = p

inner_alike : (place : Place) (m : List ℕ) → Alike (inner_of place) (inner_grown place m) itself
inner_alike place m = record {
  none = λ p e. map_none _ (λ suffix. inner_splice p suffix m) (front_to place p) e;
  some = λ p b e. let r = map_some _ (front_to place p) b e in
      (inner_splice p r.0 m, ap (option_map (λ suffix. inner_splice p suffix m)) r.1);
}

all_themselves : (ps : List PlacedPair) → map itself ps ≡ ps
all_themselves [] = refl
all_themselves (p ∷ ps) = ap (λ (l : List PlacedPair). p ∷ l) (all_themselves ps)

-- the last pair that goes on behind the place
pub record InnerRow (place : Place) (form : Text) (m : List ℕ) (e : Inner) : Type 0 where
  pub pair : PlacedPair
  pub among : Among pair (inner_pairs form)
  pub suffix : List ℕ
  pub front : front_to place pair ≡ Some suffix
  pub is : inner_of place pair ≡ Some e
  pub row : in_inner_dotted place m form ≡ Some (inner_splice pair suffix m)

pub inner_chosen : (form : Text) (place : Place) (m : List ℕ) (e : Inner)
    → last_result (inner_of place) (inner_pairs form) ≡ Some e → InnerRow place form m e
inner_chosen form place m e h =
    let ch = last_chosen (inner_of place) (inner_grown place m) itself (inner_alike place m)
    (inner_pairs form) e
    (ap (last_result (inner_of place)) (all_themselves (inner_pairs form)) ∙ h) in
    let r = map_some _ (front_to place ch.one) e ch.made in
    record {
      pair = ch.one;
      among = ch.among;
      suffix = r.0;
      front = r.1;
      is = ch.made;
      row = ch.is ∙ ap (option_map (λ suffix. inner_splice ch.one suffix m)) r.1;
    }

pub inner_nothing : (form : Text) (place : Place) (m : List ℕ)
    → last_result (inner_of place) (inner_pairs form) ≡ None → in_inner_dotted place m form ≡ None
inner_nothing form place m h =
    last_none (inner_of place) (inner_grown place m) itself (inner_alike place m) (inner_pairs form)
    (ap (last_result (inner_of place)) (all_themselves (inner_pairs form)) ∙ h)

-- ---- where it stands

members_inner : (bytes : List ℕ) (place table : Place) (p : PlacedPair) (ms : Members) (rest suffix : List ℕ)
    → AreMembers ms → Ends bytes (members ms rest) → Starts rest → Among p (paired_members table ms rest)
    → front_to place p ≡ Some suffix → HasInner bytes p suffix
members_inner bytes place table p no_members rest suffix h ends st m f = absurd m
members_inner bytes place table p (last_member k a b v c) rest suffix h ends st (inl is) f =
    let more = a ++ (equals ∷ (b ++ value v (gap c rest))) in
    subst (λ (x : PlacedPair). HasInner bytes x suffix) (sym is) (record {
      from = suffix_of bytes (key k more) ends (part_start k more h.0);
      front = key_fronts bytes k more unresolved place table suffix h.0 ends (ap (front_to place) (sym is) ∙ f);
      behind = suffix_of bytes (gap c rest)
          (ends_value bytes v _ (ends_pair bytes k a b (value v (gap c rest)) ends))
          (gap_starts c rest h.4 st);
    })
members_inner bytes place table p (last_member k a b v c) rest suffix h ends st (inr m) f = absurd m
members_inner bytes place table p (member k a b v c d ms) rest suffix h ends st (inl is) f =
    let behind = gap c (comma ∷ gap d (members ms rest)) in
    let more = a ++ (equals ∷ (b ++ value v behind)) in
    subst (λ (x : PlacedPair). HasInner bytes x suffix) (sym is) (record {
      from = suffix_of bytes (key k more) ends (part_start k more h.0);
      front = key_fronts bytes k more unresolved place table suffix h.0 ends (ap (front_to place) (sym is) ∙ f);
      behind = suffix_of bytes behind (ends_value bytes v _ (ends_pair bytes k a b (value v behind) ends))
          (gap_starts c _ h.4 (omega arith));
    })
members_inner bytes place table p (member k a b v c d ms) rest suffix h ends st (inr m) f =
    let behind = gap c (comma ∷ gap d (members ms rest)) in
    members_inner bytes place table p ms rest suffix h.6
    (ends_gap bytes d _ (ends_one bytes comma _ (ends_gap bytes c _ (ends_value bytes v _
    (ends_pair bytes k a b (value v behind) ends))))) st m f

value_inner : (bytes : List ℕ) (place : Place) (p : PlacedPair) (w : PlacedValue) (suffix : List ℕ)
    → IsValue w.value
    → Ends bytes (value w.value w.after) → Among p (paired_value w) → front_to place p ≡ Some suffix
    → HasInner bytes p suffix
value_inner bytes place p w suffix = go w.value
  where
    go : (v : Value) → IsValue v → Ends bytes (value v w.after)
        → Among p (paired_value (record w { value = v }))
        → front_to place p ≡ Some suffix → HasInner bytes p suffix
    go (basic ps) h ends m f = absurd m
    go (literal t) h ends m f = absurd m
    go (multi_basic ps) h ends m f = absurd m
    go (multi_literal ps) h ends m f = absurd m
    go (boolean b) h ends m f = absurd m
    go (integer n) h ends m f = absurd m
    go (float x) h ends m f = absurd m
    go (datetime d) h ends m f = absurd m
    go (array g es) h ends m f = absurd m
    go (inline g ms) h ends m f =
        members_inner bytes place w.place p ms (right_brace ∷ w.after) suffix h.1
        (ends_gap bytes g _ (ends_one bytes left_brace _ ends)) (omega arith) m f

-- the pairs of a document's inline tables stand where it may be cut
pub inner_stands : (bytes : List ℕ) (form : Text) (place : Place) (p : PlacedPair) (suffix : List ℕ)
    → IsDocument bytes form → IsUtf8 bytes → Among p (inner_pairs form) → front_to place p ≡ Some suffix
    → HasInner bytes p suffix
inner_stands bytes form place p suffix m u among f =
    let w = among_flat paired_value p (values form) among in
    let stands = values_stand bytes form m u w.0 w.1 in
    value_inner bytes place p w.0 suffix stands.valid stands.ends w.2 f

-- by how many bytes follow
pub inner_is : (place : Place) (p : PlacedPair) (suffix : List ℕ) (e : Inner) → front_to place p ≡ Some suffix
    → inner_of place p ≡ Some e
    → e ≡ record { from = length p.from; front = length suffix; behind = length p.behind }
inner_is place p suffix e f h = some_same _ e (sym (ap (option_map made) f) ∙ h)
  where
    made : List ℕ → Inner
    made x = record { from = length p.from; front = length x; behind = length p.behind }

    some_same : (a b : Inner) → Some a ≡ Some b → b ≡ a
    some_same a b k = cc
