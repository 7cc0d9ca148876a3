-- A value set at a place: the bytes are a document, with the intended tree.
use Rattle.std.proofs.Common.{◌≡◌, ℕ, true, false, ◌&&◌, ◌||◌, cond, List, [], ◌∷◌, ◌++◌, length, None, Some, option_map, refl, sym, ap, ◌∙◌, subst, true≢false, append-nil}
use Rattle.edit_syntax.specs.Grammar.{Text, text}
use Rattle.edit_syntax.proofs.Cases.{by_test}
use Rattle.edit_tree.specs.Assertions.{Place, Step, same_step, leaf, assertions, AreCompatible, IsDocument}
use Rattle.edit_tree.specs.EditBytes.{set_text, is_within}
use Rattle.edit_tree.specs.EditBytes.{is_within as is_inside}
use Rattle.edit_tree.specs.Literals.{literal_of}
use Rattle.edit_tree.specs.IntendedTrees.{Tree, HasSet, new_view}
use Rattle.edit_tree.specs.NewItems.{NewValue, new_value}
use Rattle.edit_document.specs.NewItemViews.{HasRoom}
use Rattle.edit_tree.specs.Replaces.{new_text, replaced, is_below}
use Rattle.edit_tree.specs.Tree.{view_at, view_of_kind, kind_at, is_value_at}
use Rattle.edit_tree.specs.Written.{values, start_of, end_of, IsWrittenAt}
use Rattle.edit_changes.proofs.NewValues.{new_is_value, new_under, new_flat, new_short, new_apart, new_shows, new_shows_below}
use Rattle.edit_tree.proofs.NothingBelow.{rooted}
use Rattle.edit_tree.proofs.PlainValues.{shut_below}
use Rattle.edit_tree.proofs.Parts.{has_kind}
use Rattle.edit_tree.proofs.ReplacedStrings.{value_written, one_apart}
use Rattle.edit_tree.proofs.ReplacedTree.{formed_lines, thinned, replaced_document, no_root}
use Rattle.edit_tree.proofs.SamePlace.{same_step_self, same_place_self}
use Rattle.edit_tree.proofs.SamePlaces.{below_within}
use Rattle.edit_tree.proofs.Shallow.{one_form}
use Rattle.edit_tree.proofs.ThinnedViews.{thin_view, thin_literal}
use Rattle.edit_syntax.proofs.Members.{among_contained}
use Rattle.edit_tree.proofs.UniqueValues.{value_listed}
use Rattle.edit_tree.proofs.WidenedForms.{one, turned, Widened, widened}
use Rattle.edit_tree.proofs.WidenedViews.{self_far, widened_here, widened_below, widened_else}
use Rattle.edit_tree.proofs.WidenedLists.{IsFree, none_free, widened_short, widened_apart}
use Rattle.edit_rewrite.proofs.SetBytes.{form_set, set_at}

-- ---- a document

module _ (old : List ℕ) (form : Text) (p : Place) (v : NewValue) (document : IsDocument old form)
    (listed : is_value_at form p ≡ true) where
  there : new_text (one p) p ≡ Some []
  there = ap (λ c. cond c (Some []) None) (same_place_self p)

  literal_there : kind_at (assertions (replaced (one p) form)) p ≡ Some (leaf (literal_of []))
  literal_there =
      let has = value_written form p document.no_clash listed in
      let apart = one_apart form p [] has p [] there in
      thin_literal (one p) p [] (assertions form)
      (assertions (replaced (one p) form)) has.0 there apart.1 has.1 (thinned (one p) form)

  replaced_is : IsDocument (text (replaced (one p) form)) (replaced (one p) form)
  replaced_is = replaced_document (one p) old form document

  free : IsFree p (assertions (replaced (one p) form))
  free = none_free p _ (λ q low. nothing p q refl low)
    where
      nothing : (r q : Place) → r ≡ p → is_below p q ≡ true
          → kind_at (assertions (replaced (one p) form)) q ≡ None
      nothing [] q e low =
          absurd (never (sym (no_root [] _ (rooted (replaced (one p) form)))
          ∙ ap (λ z. kind_at (assertions (replaced (one p) form)) z) e ∙ literal_there))
        where
          never : None ≡ Some (leaf (literal_of [])) → ⊥
          never h = cc
      nothing (s ∷ ss) q e low =
          shut_below (replaced (one p) form) s ss q (literal_of []) refl replaced_is.no_clash
          (has_kind (s ∷ ss) (literal_of []) _ (ap (λ z. kind_at (assertions (replaced (one p) form)) z) e
          ∙ literal_there)) (ap (λ z. is_below z q) e ∙ low)

  turns : Widened p (new_value v) (assertions (replaced (one p) form)) (assertions (form_set p v form))
  turns = widened p (new_value v) form (new_flat p v)

  pub set_document : HasRoom p v → IsDocument (text (form_set p v form)) (form_set p v form)
  set_document room = record {
    grammar =
        record {
          spelled = refl;
          well_formed = formed_lines (turned (new_value v)) (λ said. new_is_value v)
              (one p) [] [] form.lines document.grammar.well_formed;
        };
    short = widened_short p (new_value v) _ _ (new_short p v room) turns replaced_is.short;
    no_clash = widened_apart p (new_value v) _ _ (new_under p v)
        (new_apart p v) turns free replaced_is.no_clash;
  }

  -- ---- the tree

  same_inside : (q r : Place) → is_inside q r ≡ is_within q r
  same_inside [] r = refl
  same_inside (s ∷ ss) [] = refl
  same_inside (s ∷ ss) (t ∷ ts) = ap (λ b. same_step s t && b) (same_inside ss ts)

  below_more : (q r : Place) (s : Step) → is_below q (q ++ s ∷ r) ≡ true
  below_more [] r s = refl
  below_more (t ∷ q) r s = ap (λ b. b && is_below q (q ++ s ∷ r)) (same_step_self t) ∙ below_more q r s

  below_far : (q : Place) → is_within p q ≡ false → is_below p q ≡ false
  below_far q far = by_test (is_below p q) (λ low. absurd (true≢false (sym (below_within p q low) ∙ far)))
      (λ h. h)

  elsewhere : (q : Place) → is_inside p q ≡ false → view_at (form_set p v form) q ≡ view_at form q
  elsewhere q out =
      let far : is_within p q ≡ false = sym (same_inside p q) ∙ out in
      sym (widened_else p (new_value v) q _ _ far (new_under p v) (new_flat p v) turns)
      ∙ sym (thin_view (one p) q (assertions form) (assertions (replaced (one p) form))
      (record {
        same = ap (λ c. cond c (Some []) None) (self_far p q far);
        above =
            ap (λ c. c || false) (below_far q far);
      }) (thinned (one p) form))

  shown : (r q : Place) → r ≡ p → view_at (form_set p v form) (p ++ q) ≡ new_view v q
  shown [] q e =
      absurd (never (sym (no_root [] _ (rooted (replaced (one p) form)))
      ∙ ap (λ z. kind_at (assertions (replaced (one p) form)) z) e ∙ literal_there))
    where
      never : None ≡ Some (leaf (literal_of [])) → ⊥
      never h = cc
  shown (s ∷ ss) [] e =
      let made = assertions (form_set p v form) in
      let is = widened_here p (new_value v) (literal_of []) _ made turns literal_there in
      ap (λ z. view_at (form_set p v form) z) (append-nil p ∙ sym e)
      ∙ ap (λ o. option_map (view_of_kind made (s ∷ ss)) o) (ap (λ z. kind_at made z) e ∙ is)
      ∙ new_shows made (s ∷ ss) v
  shown (s ∷ ss) (t ∷ q) e =
      let made = assertions (form_set p v form) in
      let is = widened_below p (new_value v) (literal_of []) (p ++ t ∷ q) _ made
      (below_more p q t) turns free replaced_is.no_clash literal_there in
      ap (λ z. view_at (form_set p v form) (z ++ t ∷ q)) (sym e)
      ∙ ap (λ o. option_map (view_of_kind made (s ∷ (ss ++ t ∷ q))) o)
      (ap (λ z. kind_at made (z ++ t ∷ q)) e ∙ is)
      ∙ new_shows_below made p v t q (s ∷ (ss ++ t ∷ q))

  pub set_tree : (t u : Tree) → ((q : Place) → t q ≡ view_at form q)
      → ((q : Place) → u q ≡ view_at (form_set p v form) q) → HasSet p v t u
  set_tree t u olds news = record {
    there = λ q. news (p ++ q) ∙ shown p q refl;
    elsewhere = λ q out. news q ∙ elsewhere q out ∙ sym (olds q);
  }

-- whatever form the old text has, the definition says the same
pub set_any : (old : List ℕ) (p : Place) (v : NewValue) (f g : Text) → IsDocument old f → IsDocument old g
    → set_text p v f ≡ set_text p v g
set_any old p v f g a b = ap (λ z. set_text p v z) (one_form old f g a b)

-- the value at the place is written somewhere
is_written : (form : Text) (p : Place) → AreCompatible (assertions form) → is_value_at form p ≡ true
    → (start : ℕ) × (end : ℕ) × IsWrittenAt form p start end
is_written form p clash listed =
    let w = value_listed form p clash listed in
    let total = length (text form) in (
      start_of total w.0,
      end_of total w.0,
      record {
        placed_value = w.0;
        listed =
            among_contained w.0 (values form) w.1;
        there = w.2;
        starts = refl;
        ends = refl;
      },
    )

-- the text with the value is a document
pub set_manifest : (old new : List ℕ) (form : Text) (p : Place) (v : NewValue) → IsDocument old form
    → is_value_at form p ≡ true → HasRoom p v → new ≡ set_text p v form → IsDocument new (form_set p v form)
set_manifest old new form p v manifest listed room e =
    let r = is_written form p manifest.no_clash listed in
    let same = set_at form p v r.0 r.1 old manifest listed r.2 in
    subst (λ (b : List ℕ). IsDocument b (form_set p v form)) (sym (e ∙ same.meant))
    (set_document old form p v manifest listed room)
