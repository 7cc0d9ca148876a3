-- The tree after one value, several values or several strings are replaced.
use Rattle.std.proofs.Common.{◌≡◌, ℕ, true, false, ◌&&◌, ◌||◌, cond, List, [], ◌∷◌, Option, None, Some, option_map, refl, sym, ap, ap₂, ◌∙◌, subst, inl, inr, true≢false}
use Rattle.std.proofs.lemmas.Bool.{and_parts}
use Rattle.edit_syntax.specs.Grammar.{Value, basic, literal, multi_basic, multi_literal, boolean, integer, float, datetime, array, inline, Text}
use Rattle.edit_tree.specs.Assertions.{Place, same_place, Kind, dotted, leaf, super, header_kind, array_kind, element_kind, Assertion, assertions, AreCompatible, IsDocument}
use Rattle.edit_tree.specs.Tree.{View, string, view_at, view_of_kind, kind_at, is_value_at}
use Rattle.std.specs.List.{AllByRecursion, list_any}
use Rattle.edit_tree.specs.Replaces.{Edits, new_text, replaced, is_below, is_below_any, tree_with_strings, tree_without_below, is_string, AreStrings, AreValues, AreOutside}
use Rattle.edit_tree.proofs.SamePlaces.{not_below_itself}
use Rattle.edit_tree.proofs.ThinnedForms.{is_leaf}
use Rattle.edit_tree.proofs.NothingBelow.{opens}
use Rattle.edit_tree.proofs.PlainValues.{HasLeaf, leaf_there}
use Rattle.edit_tree.proofs.ReplacedTree.{HasValue, AreApart, edit_above, nothing_below, replaced_view}
use Rattle.edit_syntax.proofs.Cases.{by_test}
use Rattle.edit_tree.proofs.SamePlace.{same_place_is}

-- ---- one value

value_has : (p : Place) (made : List Assertion) → list_any (λ a. same_place a.place p && is_leaf a.kind) made
    ≡ true → (v : Value) × HasLeaf p v made
value_has p [] e = absurd (true≢false (sym e))
value_has p (x ∷ made) e =
    by_test (same_place x.place p && is_leaf x.kind)
    (λ h. let b = and_parts (same_place x.place p) (is_leaf x.kind) h in let r = of_kind x.kind b.1 in
    (r.0, inl (same_place_is x.place p b.0, r.1)))
    (λ h. let r = value_has p made
    (sym (ap (λ c. c || list_any (λ a. same_place a.place p && is_leaf a.kind) made) h) ∙ e) in
    (r.0, inr r.1))
  where
    of_kind : (k : Kind) → is_leaf k ≡ true → (v : Value) × (k ≡ leaf v)
    of_kind (leaf v) e = (v, refl)
    of_kind (dotted w) e = absurd (true≢false (sym e))
    of_kind super e = absurd (true≢false (sym e))
    of_kind header_kind e = absurd (true≢false (sym e))
    of_kind array_kind e = absurd (true≢false (sym e))
    of_kind element_kind e = absurd (true≢false (sym e))

-- the value that is reported at a place
pub value_written : (form : Text) (p : Place) → AreCompatible (assertions form) → is_value_at form p ≡ true
    → HasValue form p
value_written form p clash e = let r = value_has p (assertions form) e in
    (r.0, leaf_there p r.0 (assertions form) clash r.1)

pub one_apart : (form : Text) (p : Place) (said : List ℕ) → HasValue form p → AreApart ((p, said) ∷ []) form
one_apart form p said has q new e =
    by_test (same_place p q)
    (λ h. let same = same_place_is p q h in (
      subst (λ r. HasValue form r) same has,
      ap (λ r. is_below r q || false) same ∙
          ap (λ c. c || false) (not_below_itself q),
    ))
    (λ h. let no : None ≡ Some new = sym (ap (λ c. cond c (Some said) None) h) ∙ e in absurd (never new no))
  where
    never : (l : List ℕ) → None ≡ Some l → ⊥
    never l h = cc

-- ---- several values

-- what holds of the place of each edit holds where a text is to be written
each_place : (P : Place → Type 0) (edits : Edits) (p : Place) (said : List ℕ)
    → AllByRecursion (λ e. P e.0) edits → new_text edits p ≡ Some said → P p
each_place P [] p said all e = absurd cc
each_place P (x ∷ edits) p said all e =
    by_test (same_place x.0 p)
    (λ h. subst P (same_place_is x.0 p h) all.0)
    (λ h. each_place P edits p said all.1 (sym (ap (λ c. cond c (Some x.1) (new_text edits p)) h) ∙ e))

pub values_apart : (edits : Edits) (form : Text) → AreCompatible (assertions form) → AreValues edits form
    → AreOutside edits → AreApart edits form
values_apart edits form clash values outside p said e = (
  value_written form p clash (each_place (λ q. is_value_at form q ≡ true) edits p said values e),
  each_place (λ q. is_below_any edits q ≡ false) edits p said outside e,
)

-- ---- strings

-- a plain value that shows a string
abbrev Plain : Kind → Type 0
Plain k = (v : Value) × (k ≡ leaf v) × (opens (leaf v) ≡ false)

string_kind : (made : List Assertion) (p : Place) (k : Kind) → is_string (Some (view_of_kind made p k)) ≡ true
    → Plain k
string_kind made p (leaf (basic ps)) e = (basic ps, refl, refl)
string_kind made p (leaf (literal t)) e = (literal t, refl, refl)
string_kind made p (leaf (multi_basic ps)) e = (multi_basic ps, refl, refl)
string_kind made p (leaf (multi_literal ps)) e = (multi_literal ps, refl, refl)
string_kind made p (leaf (boolean b)) e = absurd (true≢false (sym e))
string_kind made p (leaf (integer n)) e = absurd (true≢false (sym e))
string_kind made p (leaf (float f)) e = absurd (true≢false (sym e))
string_kind made p (leaf (datetime d)) e = absurd (true≢false (sym e))
string_kind made p (leaf (array g es)) e = absurd (true≢false (sym e))
string_kind made p (leaf (inline g ms)) e = absurd (true≢false (sym e))
string_kind made p (dotted true) e = absurd (true≢false (sym e))
string_kind made p (dotted false) e = absurd (true≢false (sym e))
string_kind made p super e = absurd (true≢false (sym e))
string_kind made p header_kind e = absurd (true≢false (sym e))
string_kind made p array_kind e = absurd (true≢false (sym e))
string_kind made p element_kind e = absurd (true≢false (sym e))

pub string_value : (form : Text) (p : Place) → is_string (view_at form p) ≡ true → (v : Value)
    × (kind_at (assertions form) p ≡ Some (leaf v)) × (opens (leaf v) ≡ false)
string_value form [] e = absurd (true≢false (sym e))
string_value form (s ∷ ss) e = go (kind_at (assertions form) (s ∷ ss)) refl
  where
    go : (o : Option Kind) → kind_at (assertions form) (s ∷ ss) ≡ o → (v : Value)
        × (kind_at (assertions form) (s ∷ ss) ≡ Some (leaf v)) × (opens (leaf v) ≡ false)
    go None h = absurd (true≢false
        (sym e ∙ ap (λ o. is_string (option_map (view_of_kind (assertions form) (s ∷ ss)) o)) h))
    go (Some k) h =
        let r = string_kind (assertions form) (s ∷ ss) k
        (sym (ap (λ o. is_string (option_map (view_of_kind (assertions form) (s ∷ ss)) o)) h) ∙ e) in
        (r.0, h ∙ ap Some r.1, r.2)

edited_string : (edits : Edits) (tree : Place → Option View) (p : Place) (said : List ℕ)
    → AreStrings edits tree → new_text edits p ≡ Some said → is_string (tree p) ≡ true
edited_string edits tree p said all e = each_place (λ q. is_string (tree q) ≡ true) edits p said all e

-- nothing shows below a string
below_none : (edits : Edits) (old : List ℕ) (form : Text) (q : Place) → IsDocument old form
    → AreStrings edits (view_at form) → is_below_any edits q ≡ true → view_at form q ≡ None
below_none edits old form q document all low =
    let r = edit_above edits q low in
    let v = string_value form r.0 (edited_string edits (view_at form) r.0 r.1 all r.2) in
    nothing_below form r.0 q v.0 v.2 document.no_clash v.1 r.3

pub strings_apart : (edits : Edits) (old : List ℕ) (form : Text) → IsDocument old form
    → AreStrings edits (view_at form) → AreApart edits form
strings_apart edits old form document all p said e =
    let is = edited_string edits (view_at form) p said all e in
    let v = string_value form p is in (
      (v.0, v.1),
      by_test (is_below_any edits p)
          (λ low. absurd (true≢false (sym is ∙ ap is_string (below_none edits old form p document all low))))
          (λ high. high),
    )

pub written_same : (edits : Edits) (t u : Place → Option View) (q : Place) → t q ≡ u q
    → tree_with_strings edits t q ≡ tree_with_strings edits u q
written_same [] t u q e = e
written_same (x ∷ edits) t u q e = ap (λ v. cond (same_place x.0 q) (Some (string x.1)) v)
    (written_same edits t u q e)

-- ---- strings are values, none of which lies below another

kind_of_leaf : (made : List Assertion) (p : Place) (v : Value) → kind_at made p ≡ Some (leaf v)
    → list_any (λ a. same_place a.place p && is_leaf a.kind) made ≡ true
kind_of_leaf [] p v e = absurd cc
kind_of_leaf (a ∷ made) p v e =
    by_test (same_place a.place p)
    (λ h. let is : Some a.kind ≡ Some (leaf v) = sym (ap (λ c. cond c (Some a.kind) (kind_at made p)) h) ∙
    e in
    let same : a.kind ≡ leaf v = cc in
    ap₂ (λ b c. (b && c) || list_any (λ a. same_place a.place p && is_leaf a.kind) made) h (ap is_leaf same))
    (λ h. ap (λ b. (b && is_leaf a.kind) || list_any (λ a. same_place a.place p && is_leaf a.kind) made) h
    ∙ kind_of_leaf made p v (sym (ap (λ c. cond c (Some a.kind) (kind_at made p)) h) ∙ e))

pub string_is_value : (form : Text) (p : Place) → is_string (view_at form p) ≡ true → is_value_at form p ≡ true
string_is_value form p e = let v = string_value form p e in kind_of_leaf (assertions form) p v.0 v.1

pub strings_values : (edits : Edits) (form : Text) → AreStrings edits (view_at form) → AreValues edits form
strings_values [] form all = tt
strings_values (e ∷ edits) form all = (string_is_value form e.0 all.0, strings_values edits form all.1)

pub strings_outside : (edits : Edits) (old : List ℕ) (form : Text) → IsDocument old form
    → AreStrings edits (view_at form) → AreOutside edits
strings_outside edits old form document all = go edits all
  where
    go : (es : Edits) → AreStrings es (view_at form) → AllByRecursion (λ e. is_below_any edits e.0 ≡ false) es
    go [] h = tt
    go (e ∷ es) h = (
      by_test (is_below_any edits e.0)
          (λ low. absurd (true≢false
          (sym h.0 ∙ ap is_string (below_none edits old form e.0 document all low))))
          (λ high. high),
      go es h.1,
    )

-- nothing is lost below strings
pub strings_emptied : (edits : Edits) (old : List ℕ) (form : Text) (q : Place) → IsDocument old form
    → AreStrings edits (view_at form) → tree_without_below edits (view_at form) q ≡ view_at form q
strings_emptied edits old form q document all =
    by_test (is_below_any edits q)
    (λ low. ap (λ c. cond c None (view_at form q)) low ∙ sym (below_none edits old form q document all low))
    (λ high. ap (λ c. cond c None (view_at form q)) high)

pub strings_view : (edits : Edits) (old : List ℕ) (form : Text) → IsDocument old form
    → AreStrings edits (view_at form) → (q : Place) → view_at (replaced edits form) q
    ≡ tree_with_strings edits (view_at form) q
strings_view edits old form document all q =
    replaced_view edits old form document (strings_apart edits old form document all) q
    ∙ written_same edits (tree_without_below edits (view_at form)) (view_at form) q
    (strings_emptied edits old form q document all)
