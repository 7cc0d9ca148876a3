-- The state of the walk before a value and after it.
use Rattle.std.proofs.Common.{◌≡◌, ℕ, suc, ◌<◌, ◌≤◌, Bool, cond, List, [], ◌∷◌, ◌++◌, length, map, Some, None, refl, sym, ap, subst, ◌∙◌, inl, inr, append_assoc, length-append, arith}
use Rattle.std.proofs.lemmas.List.{append-nil, length_push}
use Rattle.std.proofs.lemmas.Option.{slice_get_past}
use Rattle.edit_tree.specs.declared.nodes.DefinedBy.TheVariants.{Dotted}
use Rattle.edit_syntax.specs.Grammar.{Between, Value, array, Elements}
use Rattle.edit_tree.specs.Assertions.{key, index, Place, at, Kind, dotted, leaf, Assertion, asserts, named, of_key, of_value}
use Rattle.edit_tree.specs.Tree.{kind_at, count_elements}
use Rattle.edit_document.specs.DocumentLayout.{Placed}
use Rattle.edit_tree.specs.Nodes.{ModelNode, StandsAt}
use Rattle.edit_tree.specs.Walk.{without_pending, is_dotted_within}
use Rattle.edit_tree.proofs.SamePlace.{same_place_self, other_place, last_same, not_root, not_below}
use Rattle.edit_tree.proofs.MoreAssertions.{first_kind, first_stays, first_is}
use Rattle.edit_tree.proofs.Trees.{Grows}
use Rattle.edit_document.proofs.AssertedModels.{Stands, nothing_below_model}
use Rattle.edit_tree.proofs.PlainValues.{HasLeaf, leaf_there}
use Rattle.edit_tree.proofs.Parts.{deep_value, kind_deep, kind_append}
use Rattle.edit_document.proofs.Arrays.{elements_are, elements_none_at}
use Rattle.edit_tree.proofs.WalkedTokens.{waits}
use Rattle.edit_document.proofs.KeyWalks.{pair_enters, element_enters, element_vacant}
use Rattle.edit_document.proofs.KeySpans.{vacant}
use Rattle.edit_document.proofs.WalkedHolders.{Before, IsBefore, bare_at, deeper}

-- ---- before a value

-- behind the key of a pair
abbrev pub pair_before : List ModelNode → List Assertion → List Placed → List ℕ → ℕ → Place → Bool → List ℕ
    → List (List ℕ) → Before
pair_before models made written base t p within n ns = record {
  models = models;
  made = made;
  written = written;
  tables = base ++ t ∷ [];
  place = named p (n ∷ ns);
  waiting = waits (without_pending models (base ++ t ∷ [])) (n ∷ ns);
  keyed = λ v. of_key within (named p (n ∷ ns)) p (n ∷ ns) v;
}

key_low : (within : Bool) (by p : Place) (n : List ℕ) (ns : List (List ℕ)) (v : Value) (r : Place)
    → length (named p (n ∷ ns)) < length r → kind_at (of_key within by p (n ∷ ns) v) r ≡ None
key_low within by p n [] v r lt = ap (λ (b : Bool). cond b (Some (leaf v)) None)
    (other_place (at p (key n)) r (λ e. let l : length (at p (key n)) ≡ length r = ap length e in
    omega arith))
key_low within by p n (m ∷ ns) v r lt =
    let whole : length (named (at p (key n)) (m ∷ ns)) ≡ length (named p (n ∷ m ∷ ns)) =
    ap length (append_assoc p (key n ∷ []) (map key (m ∷ ns))) in
    let size = length-append (at p (key n)) (map key (m ∷ ns)) in
    ap (λ (b : Bool). cond b (Some (dotted within)) (kind_at (of_key within by (at p (key n)) (m ∷ ns) v) r))
    (other_place (at p (key n)) r (λ e. let l : length (at p (key n)) ≡ length r = ap length e in
    omega arith))
    ∙ key_low within by (at p (key n)) m ns v r (omega arith)

key_has : (within : Bool) (by p : Place) (n : List ℕ) (ns : List (List ℕ)) (v : Value)
    → HasLeaf (named p (n ∷ ns)) v (of_key within by p (n ∷ ns) v)
key_has within by p n [] v = inl (refl, refl)
key_has within by p n (m ∷ ns) v =
    inr (subst (λ (q : Place). HasLeaf q v (of_key within by (at p (key n)) (m ∷ ns) v))
    (append_assoc p (key n ∷ []) (map key (m ∷ ns))) (key_has within by (at p (key n)) m ns v))

named_inner : (p : Place) (n : List ℕ) (ns : List (List ℕ)) → named p (n ∷ ns) ≡ [] → ⊥
named_inner p n ns e = let l : length (named p (n ∷ ns)) ≡ 0 = ap length e in
    let size = length-append p (map key (n ∷ ns)) in omega arith

pub pair_is_before : (models : List ModelNode) (made : List Assertion) (written : List Placed) (base : List ℕ)
    (t : ℕ) (p : Place) (within : Bool) (n : List ℕ) (ns : List (List ℕ)) → Stands made written models
    → StandsAt models t p
    → is_dotted_within (length (base ++ t ∷ [])) Dotted ≡ within
    → IsBefore (pair_before models made written base t p within n ns)
pair_is_before models made written base t p within n ns st there in_table = record {
  enters_at = λ v span. pair_enters models base t p n ns within
      (named p (n ∷ ns)) v span made written in_table st there;
  vacant_at = λ v clear. vacant made within (named p (n ∷ ns)) p n ns v clear;
  low = λ v. key_low within (named p (n ∷ ns)) p n ns v (at (named p (n ∷ ns)) (index 0))
      (let l = length_push (named p (n ∷ ns)) (index 0) in omega arith);
  has_leaf = λ v. key_has within (named p (n ∷ ns)) p n ns v;
  stands = st;
  inner = named_inner p n ns;
  deep = λ j. deeper base t j;
}

-- before an element of an array
abbrev pub element_before : List ModelNode → List Assertion → List Placed → List ℕ → ℕ → Place → ℕ → Before
element_before models made written base t p i = record {
  models = models;
  made = made;
  written = written;
  tables = base ++ t ∷ [];
  place = at p (index i);
  waiting = without_pending models (base ++ t ∷ []);
  keyed = λ v. asserts (at p (index i)) (at p (index i)) (leaf v) ∷ [];
}

-- the array at a place, of which so many elements stand
pub record IsArrayAt (models : List ModelNode) (made : List Assertion) (t : ℕ) (p : Place)
    (i total : ℕ) : Type 0 where
  pub there : StandsAt models t p
  pub size : length there.0.elements ≡ i
  pub gap_of : List Between
  pub all : Elements
  pub first : first_kind made p ≡ Some (leaf (array gap_of all))
  pub whole : total ≡ count_elements all

pub element_is_before : (models : List ModelNode) (made : List Assertion) (written : List Placed) (base : List ℕ)
    (t : ℕ) (p : Place) (i total : ℕ) → Stands made written models → IsArrayAt models made t p i total
    → i < total → IsBefore (element_before models made written base t p i)
element_is_before models made written base t p i total st a lt =
    let few : i < count_elements a.all = let w = a.whole in omega arith in
    record {
      enters_at = λ v span. element_enters models base t p i a.gap_of a.all v span made written st a.there
          a.size a.first few;
      vacant_at = λ v clear. element_vacant models t p i made written st a.there a.size;
      low = λ v. ap (λ (b : Bool). cond b (Some (leaf v)) None)
          (other_place (at p (index i)) (at (at p (index i)) (index 0))
          (λ e. not_below (at p (index i)) (index 0) (sym e)));
      has_leaf = λ v. inl (refl, refl);
      stands = st;
      inner = not_root p (index i);
      deep = λ j. deeper base t j;
    }

first_front : (made more : List Assertion) (p : Place) (k : Kind) → first_kind made p ≡ Some k
    → first_kind (made ++ more) p ≡ Some k
first_front made [] p k e = ap (λ (xs : List Assertion). first_kind xs p) (append-nil made) ∙ e
first_front made (a ∷ more) p k e = ap (λ (xs : List Assertion). first_kind xs p)
    (sym (append_assoc made (a ∷ []) more)) ∙ first_front (made ++ a ∷ []) more p k (first_stays made a p k e)

-- one element more stands
pub array_more : (models now : List ModelNode) (made : List Assertion) (written written2 : List Placed) (t : ℕ)
    (p : Place) (i total : ℕ) (v : Value) → Stands made written models → IsArrayAt models made t p i total
    → Stands (made ++ (asserts (at p (index i)) (at p (index i)) (leaf v) ∷ of_value (at p (index i)) v))
    written2 now → Grows models now
    → IsArrayAt now (made ++ (asserts (at p (index i)) (at p (index i)) (leaf v) ∷ of_value
    (at p (index i)) v)) t p (suc i) total
array_more models now made written written2 t p i total v st a st2 grows =
    let q = at p (index i) in
    let r = at p (index (suc i)) in
    let one : Assertion = asserts (at p (index i)) (at p (index i)) (leaf v) in
    let block = asserts (at p (index i)) (at p (index i)) (leaf v) ∷ of_value (at p (index i)) v in
    let all = made ++ (asserts (at p (index i)) (at p (index i)) (leaf v) ∷ of_value (at p (index i)) v) in
    let s = a.there.0 in
    let u = grows t p a.there in
    let bare : (j : ℕ) → i ≤ j → kind_at made (at p (index j)) ≡ None = λ j le.
    ap (λ (z : Place). kind_at made (at z (index j))) (sym a.there.2) ∙
    nothing_below_model made written models t s (index j) st a.there.1
    (slice_get_past s.elements j (let e = a.size in omega arith)) in
    let here : kind_at all q ≡ Some (leaf v) = kind_append made block q (bare i (omega arith)) ∙
    ap (λ (b : Bool). cond b (Some (leaf v)) (kind_at (of_value q v) q)) (same_place_self q) in
    let off : q ≡ r → ⊥ = λ e. let same : index i ≡ index (suc i) =
    (last_same p p (index i) (index (suc i)) e).1 in let n : i ≡ suc i = cc in omega arith in
    let long : length r ≡ length q = length_push p (index (suc i)) ∙ sym (length_push p (index i)) in
    let none : kind_at all r ≡ None =
    kind_append made block r (bare (suc i) (omega arith)) ∙
    ap (λ (b : Bool). cond b (Some (leaf v)) (kind_at (of_value q v) r)) (other_place q r off) ∙
    kind_deep (length q) (of_value q v) r (deep_value q v) (omega arith) in
    record {
      there = u;
      size = elements_are all written2 now t u.0 i (leaf v) st2 u.1
          (ap (λ (z : Place). kind_at all (at z (index i))) u.2 ∙ here)
          (ap (λ (z : Place). kind_at all (at z (index (suc i)))) u.2 ∙ none);
      gap_of = a.gap_of;
      all = a.all;
      first = first_front made block p (leaf (array a.gap_of a.all)) a.first;
      whole = a.whole;
    }

has_right : (p : Place) (v : Value) (xs ys : List Assertion) → HasLeaf p v ys → HasLeaf p v (xs ++ ys)
has_right p v [] ys h = h
has_right p v (x ∷ xs) ys h = inr (has_right p v xs ys h)

-- an array that was just entered has no element
pub array_new : (b : Before) (now : List ModelNode) (written : List Placed) (j : ℕ) (g : List Between)
    (es : Elements)
    → IsBefore b → Stands (b.made ++ b.keyed (array g es)) written now → StandsAt now j b.place
    → IsArrayAt now (b.made ++ b.keyed (array g es)) j b.place 0 (count_elements es)
array_new b now written j g es h st there =
    let v : Value = array g es in
    let all = b.made ++ b.keyed (array g es) in
    let kind : kind_at all b.place ≡ Some (leaf (array g es)) =
    leaf_there b.place v all st.clear.apart (has_right b.place v b.made (b.keyed v) (h.has_leaf v)) in
    let none : kind_at all (at there.0.place (index 0)) ≡ None =
    ap (λ (q : Place). kind_at all (at q (index 0))) there.2 ∙ bare_at b v h st.clear in
    record {
      there = there;
      size = elements_none_at all written now j there.0 st there.1 none;
      gap_of = g;
      all = es;
      first = first_is all b.place h.inner ∙ kind;
      whole = refl;
    }
