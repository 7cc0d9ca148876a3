-- The tree after values are replaced: unchanged except at and below the replaced places.
use Rattle.std.proofs.Common.{◌≡◌, ℕ, Bool, true, false, ◌&&◌, ◌||◌, if◌then◌else◌, cond, List, [], ◌∷◌, Option, None, Some, option_map, refl, sym, ap, ◌∙◌, subst, ◌⊎◌, inl, inr, ⊎_elim, true≢false}
use Rattle.std.proofs.lemmas.Bool.{and_parts}
use Rattle.std.specs.List.{filter_map, cons_option}
use Rattle.edit_syntax.specs.Grammar.{Value, basic, literal, multi_basic, multi_literal, boolean, integer, float, datetime, array, inline}
use Rattle.edit_tree.specs.EditBytes.{is_within}
use Rattle.edit_tree.specs.Assertions.{Place, Step, same_step, same_place, Kind, dotted, leaf, super, header_kind, array_kind, element_kind, Assertion, elements_at}
use Rattle.edit_tree.specs.Tree.{table, table_array, inline_table, view_of_value, view_of_kind, members_of, kind_at, view_in, step_from, once}
use Rattle.edit_tree.specs.Literals.{literal_of}
use Rattle.edit_tree.specs.Replaces.{Edits, new_text, is_below, is_below_any}
use Rattle.edit_tree.proofs.SamePlaces.{within_cases}
use Rattle.edit_tree.proofs.ThinnedForms.{Thin, none, keep, swap, lose, is_leaf}
use Rattle.edit_tree.proofs.ThinnedLines.{thin_count}
use Rattle.edit_syntax.proofs.Cases.{by_test, or_false}
use Rattle.edit_tree.proofs.SamePlace.{same_step_is, same_place_is, same_step_self, same_place_self}

-- a place that is none of the edited ones, and below none
pub record Untouched (edits : Edits) (q : Place) : Type 0 where
  pub same : new_text edits q ≡ None
  pub above : is_below_any edits q ≡ false

-- ---- the members of a place

outside_rest : (s r t : Step) (ss rs ts : Place) → is_below (s ∷ ss) (t ∷ ts) ≡ true
    → is_within (s ∷ ss) (r ∷ rs) ≡ false → same_step r t ≡ true → is_within ss rs ≡ false
outside_rest s r t ss rs ts b far e =
    let st = same_step_is s t (and_parts (same_step s t) (is_below ss ts) b).0 in
    let rt = same_step_is r t e in
    let same : same_step s r ≡ true = ap (λ x. same_step s x) (rt ∙ sym st) ∙ same_step_self s in
    sym (ap (λ c. c && is_within ss rs) same) ∙ far

-- what lies below the target is no member of a place outside
pub no_member : (target q p : Place) → is_below target p ≡ true → is_within target q ≡ false
    → step_from q p ≡ None
no_member [] q p b far = absurd cc
no_member (s ∷ ss) [] [] b far = refl
no_member (s ∷ []) [] (t ∷ []) b far = absurd (true≢false (sym (and_parts (same_step s t) false b).1))
no_member (s ∷ u ∷ us) [] (t ∷ []) b far = absurd (true≢false (sym (and_parts (same_step s t) false b).1))
no_member (s ∷ ss) [] (t ∷ v ∷ vs) b far = refl
no_member (s ∷ ss) (r ∷ rs) [] b far = refl
no_member (s ∷ ss) (r ∷ rs) (t ∷ ts) b far =
    by_test (same_step r t)
    (λ e. ap (λ c. if c then step_from rs ts else None) e ∙
    no_member ss rs ts (and_parts (same_step s t) (is_below ss ts) b).1 (outside_rest s r t ss rs ts b far e))
    (λ e. ap (λ c. if c then step_from rs ts else None) e)

or_cases : (a b : Bool) → (a || b) ≡ true → (a ≡ true) ⊎ (b ≡ true)
or_cases true b e = inl refl
or_cases false b e = inr e

-- an untouched place is not within an edited one
outside_first : (e : Place × List ℕ) (edits : Edits) (q : Place) → Untouched (e ∷ edits) q
    → is_within e.0 q ≡ false
outside_first e edits q u =
    by_test (is_within e.0 q)
    (λ h. absurd (⊎_elim
    (λ same. let is : Some e.1
    ≡ None = sym (ap (λ c. cond c (Some e.1) (new_text edits q)) (ap (λ r. same_place r q) same ∙
    same_place_self q)) ∙ u.same in some_none e.1 is)
    (λ low. true≢false (sym low ∙ (or_false (is_below e.0 q) (is_below_any edits q) u.above).0))
    (within_cases e.0 q h)))
    (λ h. h)
  where
    some_none : (l : List ℕ) → Some l ≡ None → ⊥
    some_none l h = cc

untouched_rest : (e : Place × List ℕ) (edits : Edits) (q : Place) → Untouched (e ∷ edits) q
    → Untouched edits q
untouched_rest e edits q u = record {
  same = by_test (same_place e.0 q)
      (λ h. let is : Some e.1 ≡ None = sym (ap (λ c. cond c (Some e.1) (new_text edits q)) h) ∙ u.same in
      absurd (some_none e.1 is))
      (λ h. sym (ap (λ c. cond c (Some e.1) (new_text edits q)) h) ∙ u.same);
  above = (or_false (is_below e.0 q) (is_below_any edits q) u.above).1;
}
  where
    some_none : (l : List ℕ) → Some l ≡ None → ⊥
    some_none l h = cc

no_lost_member : (edits : Edits) (q p : Place) → is_below_any edits p ≡ true → Untouched edits q
    → step_from q p ≡ None
no_lost_member [] q p b u = absurd (true≢false (sym b))
no_lost_member (e ∷ edits) q p b u =
    ⊎_elim (λ low. no_member e.0 q p low (outside_first e edits q u))
    (λ more. no_lost_member edits q p more (untouched_rest e edits q u))
    (or_cases (is_below e.0 p) (is_below_any edits p) b)

thin_steps : (edits : Edits) (q : Place) (xs ys : List Assertion) → Untouched edits q → Thin edits xs ys
    → filter_map (λ (a : Assertion). step_from q a.place) xs
    ≡ filter_map (λ (a : Assertion). step_from q a.place) ys
thin_steps edits q xs ys u none = refl
thin_steps edits q xs ys u (keep x us vs l t) = ap (λ l. cons_option (step_from q x.place) l)
    (thin_steps edits q us vs u t)
thin_steps edits q xs ys u (swap by p v w us vs e t) = ap (λ l. cons_option (step_from q p) l)
    (thin_steps edits q us vs u t)
thin_steps edits q xs ys u (lose x us vs b k t) =
    ap (λ o. cons_option o (filter_map (λ (a : Assertion). step_from q a.place) us))
    (no_lost_member edits q x.place b u) ∙ thin_steps edits q us vs u t

thin_members_of : (edits : Edits) (q : Place) (xs ys : List Assertion) → Untouched edits q → Thin edits xs ys
    → members_of xs q ≡ members_of ys q
thin_members_of edits q xs ys u t = ap once (thin_steps edits q xs ys u t)

-- ---- the kind of a place

-- what was lost is not at a place above which nothing is written
not_lost : (edits : Edits) (p q : Place) → is_below_any edits p ≡ true → is_below_any edits q ≡ false
    → same_place p q ≡ false
not_lost edits p q low none_above =
    by_test (same_place p q)
    (λ e. absurd (true≢false (sym low ∙ ap (λ r. is_below_any edits r) (same_place_is p q e) ∙ none_above)))
    (λ e. e)

pub cond_map : {A B : Type 0} (f : A → B) (c : Bool) (k : A) (x y : Option A)
    → option_map f x ≡ option_map f y → option_map f (cond c (Some k) x) ≡ option_map f (cond c (Some k) y)
cond_map f true k x y e = refl
cond_map f false k x y e = e

thin_kind : (edits : Edits) (q : Place) (made xs ys : List Assertion) → Untouched edits q → Thin edits xs ys
    → option_map (view_of_kind made q) (kind_at xs q) ≡ option_map (view_of_kind made q) (kind_at ys q)
thin_kind edits q made xs ys u none = refl
thin_kind edits q made xs ys u (keep x us vs l t) = cond_map (view_of_kind made q)
    (same_place x.place q) x.kind (kind_at us q) (kind_at vs q) (thin_kind edits q made us vs u t)
thin_kind edits q made xs ys u (swap by p v w us vs e t) =
    by_test (same_place p q)
    (λ h. ap (λ c. option_map (view_of_kind made q) (cond c (Some (leaf v)) (kind_at us q))) h
    ∙ ap Some (subst (λ r. view_of_value made r v ≡ view_of_value made r w) (same_place_is p q h)
    (e.unwritten (ap (λ r. new_text edits r) (same_place_is p q h) ∙ u.same) made))
    ∙ sym (ap (λ c. option_map (view_of_kind made q) (cond c (Some (leaf w)) (kind_at vs q))) h))
    (λ h. ap (λ c. option_map (view_of_kind made q) (cond c (Some (leaf v)) (kind_at us q))) h ∙
    thin_kind edits q made us vs u t
    ∙ sym (ap (λ c. option_map (view_of_kind made q) (cond c (Some (leaf w)) (kind_at vs q))) h))
thin_kind edits q made xs ys u (lose x us vs b k t) =
    ap (λ c. option_map (view_of_kind made q) (cond c (Some x.kind) (kind_at us q)))
    (not_lost edits x.place q b u.above) ∙ thin_kind edits q made us vs u t

-- at an edited place the value is the literal
pub thin_literal : (edits : Edits) (q : Place) (said : List ℕ) (xs ys : List Assertion) (v : Value)
    → new_text edits q ≡ Some said → is_below_any edits q ≡ false
    → kind_at xs q ≡ Some (leaf v) → Thin edits xs ys → kind_at ys q ≡ Some (leaf (literal_of said))
thin_literal edits q said xs ys v new high was none = absurd cc
thin_literal edits q said xs ys v new high was (keep x us vs l t) =
    by_test (same_place x.place q)
    (λ h. let is : Some x.kind ≡ Some (leaf v) = sym (ap (λ c. cond c (Some x.kind) (kind_at us q)) h) ∙
    was in
    let same : x.kind ≡ leaf v = cc in absurd (true≢false (sym (ap is_leaf same) ∙ l)))
    (λ h. ap (λ c. cond c (Some x.kind) (kind_at vs q)) h
    ∙ thin_literal edits q said us vs v new high (sym (ap (λ c. cond c (Some x.kind) (kind_at us q)) h) ∙
    was) t)
thin_literal edits q said xs ys v new high was (swap by p u w us vs e t) =
    by_test (same_place p q)
    (λ h. ap (λ c. cond c (Some (leaf w)) (kind_at vs q)) h ∙
    ap (λ z. Some (leaf z)) (e.written said (ap (λ r. new_text edits r) (same_place_is p q h) ∙ new)))
    (λ h. ap (λ c. cond c (Some (leaf w)) (kind_at vs q)) h
    ∙ thin_literal edits q said us vs v new high (sym (ap (λ c. cond c (Some (leaf u)) (kind_at us q)) h) ∙
    was) t)
thin_literal edits q said xs ys v new high was (lose x us vs b k t) =
    thin_literal edits q said us vs v new high
    (sym (ap (λ c. cond c (Some x.kind) (kind_at us q)) (not_lost edits x.place q b high)) ∙ was) t

-- a view shows members and numbers of elements alone
value_made : (q : Place) (xs ys : List Assertion) (v : Value) → members_of xs q ≡ members_of ys q
    → view_of_value xs q v ≡ view_of_value ys q v
value_made q xs ys (basic ps) e = refl
value_made q xs ys (literal t) e = refl
value_made q xs ys (multi_basic ps) e = refl
value_made q xs ys (multi_literal ps) e = refl
value_made q xs ys (boolean b) e = refl
value_made q xs ys (integer n) e = refl
value_made q xs ys (float f) e = refl
value_made q xs ys (datetime d) e = refl
value_made q xs ys (array g es) e = refl
value_made q xs ys (inline g ms) e = ap inline_table e

kind_made : (q : Place) (xs ys : List Assertion) (k : Kind) → members_of xs q ≡ members_of ys q
    → elements_at xs q ≡ elements_at ys q → view_of_kind xs q k ≡ view_of_kind ys q k
kind_made q xs ys (dotted true) e n = ap inline_table e
kind_made q xs ys (dotted false) e n = ap table e
kind_made q xs ys (leaf v) e n = value_made q xs ys v e
kind_made q xs ys super e n = ap table e
kind_made q xs ys header_kind e n = ap table e
kind_made q xs ys array_kind e n = ap table_array n
kind_made q xs ys element_kind e n = ap table e

pub option_made : (q : Place) (xs ys : List Assertion) (o : Option Kind) → members_of xs q ≡ members_of ys q
    → elements_at xs q ≡ elements_at ys q → option_map (view_of_kind xs q) o
    ≡ option_map (view_of_kind ys q) o
option_made q xs ys None e n = refl
option_made q xs ys (Some k) e n = ap Some (kind_made q xs ys k e n)

-- the tree is the same where nothing is written at a place or above it
pub thin_view : (edits : Edits) (q : Place) (xs ys : List Assertion) → Untouched edits q → Thin edits xs ys
    → view_in xs q ≡ view_in ys q
thin_view edits [] xs ys u t = ap (λ ms. Some (table ms)) (thin_members_of edits [] xs ys u t)
thin_view edits (s ∷ ss) xs ys u t =
    thin_kind edits (s ∷ ss) xs xs ys u t
    ∙ option_made (s ∷ ss) xs ys (kind_at ys (s ∷ ss)) (thin_members_of edits (s ∷ ss) xs ys u t)
    (thin_count edits xs ys (s ∷ ss) t)
