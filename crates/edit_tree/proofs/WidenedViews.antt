-- Views after an empty literal is replaced by another value.
use Rattle.std.proofs.Common.{◌≡◌, Bool, true, false, cond, List, [], ◌∷◌, ◌++◌, None, Some, option_map, refl, sym, ap, ◌∙◌, subst, true≢false}
use Rattle.std.specs.List.{filter_map, cons_option}
use Rattle.edit_syntax.specs.Grammar.{Value}
use Rattle.edit_tree.specs.EditBytes.{is_within}
use Rattle.edit_tree.specs.Assertions.{Place, Step, same_place, Kind, leaf, Assertion, of_value, AreCompatible}
use Rattle.edit_tree.specs.Tree.{table, view_of_kind, kind_at, view_in, step_from, once}
use Rattle.edit_tree.specs.Literals.{literal_of}
use Rattle.edit_tree.specs.Replaces.{is_below}
use Rattle.edit_syntax.proofs.Cases.{by_test}
use Rattle.edit_tree.proofs.SamePlace.{same_place_is, same_place_self}
use Rattle.edit_tree.proofs.SamePlaces.{within_same, not_below_itself}
use Rattle.edit_tree.proofs.ThinnedForms.{is_leaf}
use Rattle.edit_tree.proofs.ThinnedViews.{no_member, option_made}
use Rattle.edit_tree.proofs.Parts.{kind_append}
use Rattle.edit_tree.proofs.WidenedForms.{Alike, equal, leaves, Widened, none, same, here, HasNoArray, widened_count}
use Rattle.edit_tree.proofs.WidenedLists.{IsFree, IsUnder, under_else, free_none, under_none, widened_free, leaf_none}

-- ---- kinds

never_leaf : (o : Kind) (v : Value) → is_leaf o ≡ false → o ≡ leaf v → ⊥
never_leaf o v e h = true≢false (sym (ap is_leaf h) ∙ e)

-- the value stands at the place
pub widened_here : (p : Place) (w v : Value) (xs ys : List Assertion) → Widened p w xs ys
    → kind_at xs p ≡ Some (leaf v) → kind_at ys p ≡ Some (leaf w)
widened_here p w v xs ys none e = absurd cc
widened_here p w v xs ys (same by q j k cs bs (equal l n) t) e =
    go (same_place q p) e (widened_here p w v cs bs t)
  where
    go : (b : Bool) → cond b (Some l) (kind_at cs p) ≡ Some (leaf v)
        → (kind_at cs p ≡ Some (leaf v) → kind_at bs p ≡ Some (leaf w))
        → cond b (Some l) (kind_at bs p) ≡ Some (leaf w)
    go true h ih = let is : l ≡ leaf v = cc in absurd (never_leaf l v n is)
    go false h ih = ih h
widened_here p w v xs ys (same by q j k cs bs (leaves u z n s) t) e =
    let other : same_place q p ≡ false = by_test (same_place q p)
    (λ h. absurd
    (true≢false (sym (same_place_self p) ∙ ap (λ r. same_place p r) (sym (same_place_is q p h)) ∙ n)))
    (λ h. h) in
    ap (λ c. cond c (Some (leaf z)) (kind_at bs p)) other
    ∙ widened_here p w v cs bs t (sym (ap (λ c. cond c (Some (leaf u)) (kind_at cs p)) other) ∙ e)
widened_here p w v xs ys (here by cs bs t) e =
    ap (λ c. cond c (Some (leaf w)) (kind_at (of_value p w ++ bs) p)) (same_place_self p)

kind_front : (xs ys : List Assertion) (q : Place) → kind_at ys q ≡ None
    → kind_at (xs ++ ys) q ≡ kind_at xs q
kind_front [] ys q e = e
kind_front (x ∷ xs) ys q e = ap (λ o. cond (same_place x.place q) (Some x.kind) o) (kind_front xs ys q e)

-- below the place stands what the value asserts
pub widened_below : (p : Place) (w v : Value) (q : Place) (xs ys : List Assertion) → is_below p q ≡ true
    → Widened p w xs ys → IsFree p xs → AreCompatible xs → kind_at xs p ≡ Some (leaf v)
    → kind_at ys q ≡ kind_at (of_value p w) q
widened_below p w v q xs ys low none free clash e = absurd cc
widened_below p w v q xs ys low (same by r j k cs bs a t) free clash e =
    ap (λ c. cond c (Some k) (kind_at bs q)) elsewhere
    ∙ widened_below p w v q cs bs low t free.1 clash.1 (behind j k (same_place r p) refl a e)
  where
    elsewhere : same_place r q ≡ false
    elsewhere =
        by_test (same_place r q) (λ h. absurd (under_else p q r low free.0 (sym (same_place_is r q h))))
        (λ h. h)

    behind : (j k : Kind) (b : Bool) → same_place r p ≡ b → Alike p r j k
        → cond b (Some j) (kind_at cs p) ≡ Some (leaf v) → kind_at cs p ≡ Some (leaf v)
    behind j k false n alike h = h
    behind j k true n (equal l m) h = let is : l ≡ leaf v = cc in absurd (never_leaf l v m is)
    behind j k true n (leaves u z m s) h =
        absurd (true≢false (sym (same_place_self p) ∙ ap (λ x. same_place p x) (sym (same_place_is r p n))
        ∙ m))
widened_below p w v q xs ys low (here by cs bs t) free clash e =
    let none_there = leaf_none p (literal_of []) cs (λ l h. true≢false (sym h)) clash.0 in
    let clear = widened_free p w cs bs t none_there free.1 in
    let elsewhere : same_place p q ≡ false = by_test (same_place p q)
    (λ h. absurd (under_else p q p low (not_below_itself p) (sym (same_place_is p q h)))) (λ h. h) in
    ap (λ c. cond c (Some (leaf w)) (kind_at (of_value p w ++ bs) q)) elsewhere
    ∙ kind_front (of_value p w) bs q (free_none p q bs low clear)

-- ---- views outside the place

same_kinds : (p q : Place) (j k : Kind) (made : List Assertion) → Alike p q j k
    → view_of_kind made q j ≡ view_of_kind made q k
same_kinds p q j k made (equal l e) = refl
same_kinds p q j k made (leaves v w e s) = s made

pub self_far : (p q : Place) → is_within p q ≡ false → same_place p q ≡ false
self_far p q far =
    by_test (same_place p q)
    (λ h. absurd
    (true≢false (sym (within_same p) ∙ ap (λ r. is_within p r) (same_place_is p q h) ∙ far))) (λ h. h)

widened_kind : (p : Place) (w : Value) (q : Place) (made xs ys : List Assertion) → is_within p q ≡ false
    → IsUnder p (of_value p w) → Widened p w xs ys
    → option_map (view_of_kind made q) (kind_at xs q) ≡ option_map (view_of_kind made q) (kind_at ys q)
widened_kind p w q made xs ys far under none = refl
widened_kind p w q made xs ys far under (same by r j k cs bs e t) =
    go (same_place r q) refl (widened_kind p w q made cs bs far under t)
  where
    go : (b : Bool) → same_place r q ≡ b
        → option_map (view_of_kind made q) (kind_at cs q) ≡ option_map (view_of_kind made q) (kind_at bs q)
        → option_map (view_of_kind made q) (cond b (Some j) (kind_at cs q)) ≡ option_map
        (view_of_kind made q) (cond b (Some k) (kind_at bs q))
    go true h ih =
        ap Some (subst (λ z. view_of_kind made z j ≡ view_of_kind made z k) (same_place_is r q h)
        (same_kinds p r j k made e))
    go false h ih = ih
widened_kind p w q made xs ys far under (here by cs bs t) =
    let other = self_far p q far in
    ap (λ c. option_map (view_of_kind made q) (cond c (Some (leaf (literal_of []))) (kind_at cs q))) other
    ∙ widened_kind p w q made cs bs far under t
    ∙ sym (ap
    (λ c. option_map (view_of_kind made q)
    (cond c (Some (leaf w)) (kind_at (of_value p w ++ bs) q))) other
    ∙ ap (λ o. option_map (view_of_kind made q) o)
    (kind_append (of_value p w) bs q (under_none p q (of_value p w) far under)))

abbrev steps : Place → List Assertion → List Step
steps q xs = filter_map (λ (a : Assertion). step_from q a.place) xs

under_steps : (p q : Place) (xs ys : List Assertion) → is_within p q ≡ false → IsUnder p xs
    → steps q (xs ++ ys) ≡ steps q ys
under_steps p q [] ys far h = refl
under_steps p q (x ∷ xs) ys far h = ap (λ o. cons_option o (steps q (xs ++ ys)))
    (no_member p q x.place h.0 far) ∙ under_steps p q xs ys far h.1

widened_steps : (p : Place) (w : Value) (q : Place) (xs ys : List Assertion) → is_within p q ≡ false
    → IsUnder p (of_value p w) → Widened p w xs ys → steps q xs ≡ steps q ys
widened_steps p w q xs ys far under none = refl
widened_steps p w q xs ys far under (same by r j k cs bs e t) = ap (λ l. cons_option (step_from q r) l)
    (widened_steps p w q cs bs far under t)
widened_steps p w q xs ys far under (here by cs bs t) =
    ap (λ l. cons_option (step_from q p) l)
    (widened_steps p w q cs bs far under t ∙ sym (under_steps p q (of_value p w) bs far under))

-- all else shows as before
pub widened_else : (p : Place) (w : Value) (q : Place) (xs ys : List Assertion) → is_within p q ≡ false
    → IsUnder p (of_value p w) → HasNoArray (of_value p w) → Widened p w xs ys → view_in xs q ≡ view_in ys q
widened_else p w [] xs ys far under flat t =
    ap (λ ss. Some (table (once ss))) (widened_steps p w [] xs ys far under t)
widened_else p w (s ∷ ss) xs ys far under flat t =
    let q : Place = s ∷ ss in
    widened_kind p w q xs xs ys far under t
    ∙ option_made q xs ys (kind_at ys q) (ap once (widened_steps p w q xs ys far under t))
    (widened_count p w xs ys flat t q)
