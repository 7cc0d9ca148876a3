-- A node has the tree of a new value where its kind, text and children match.
use Rattle.std.proofs.Common.{◌≡◌, ℕ, ◌<◌, Bool, true, false, eqb, List, [], ◌∷◌, ◌++◌, length, Option, Some, None, refl, sym, ap, subst, ◌∙◌, eq-eqb, append-nil}
use Rattle.std.specs.Bool.{Decides}
use Rattle.std.specs.Prelude.{slice_get, option_map}
use Rattle.std.proofs.lemmas.Bool.{eqb-true}
use Rattle.std.proofs.lemmas.Option.{same_Some, slice_get-get_or}
use Rattle.edit_tree.specs.Assertions.{Step, key, index, Place, at}
use Rattle.edit_tree.specs.Tree.{View, string, truth, whole, fractional, moment, static_array, table_array, inline_table, table}
use Rattle.edit_tree.specs.NewItems.{NewValue, a_string, a_truth, a_list}
use Rattle.edit_tree.specs.IntendedTrees.{new_view}
use Rattle.edit_tree.specs.DocumentViews.{DocumentViews, tree_of}
use Rattle.edit_document.specs.Items.{node_place, node_view, count_in, IsNodeIndex}
use Rattle.edit_document.specs.Compared.{kind_of, value_text, nth_part, ShowsValue}
use Rattle.edit_document.proofs.SameParts.{one_down, NothingElse, NoneBelow}
use Rattle.edit_document.proofs.Wholes.{element_was}

-- ---- views by their kinds

string_is : (v : View) (w : List ℕ) → kind_of v ≡ 0 → value_text v ≡ Some w → v ≡ string w
string_is (string s) w k e = ap string (same_Some s w e)
string_is (truth true) w k e = absurd cc
string_is (truth false) w k e = absurd cc
string_is (whole s) w k e = absurd cc
string_is (fractional s) w k e = absurd cc
string_is (moment s) w k e = absurd cc
string_is (static_array n) w k e = absurd cc
string_is (table_array n) w k e = absurd cc
string_is (inline_table ms) w k e = absurd cc
string_is (table ms) w k e = absurd cc

truth_is : (v : View) (b : Bool) → kind_of v ≡ kind_of (truth b) → v ≡ truth b
truth_is (truth true) true k = refl
truth_is (truth false) false k = refl
truth_is (truth true) false k = absurd cc
truth_is (truth false) true k = absurd cc
truth_is (string s) true k = absurd cc
truth_is (string s) false k = absurd cc
truth_is (whole s) true k = absurd cc
truth_is (whole s) false k = absurd cc
truth_is (fractional s) true k = absurd cc
truth_is (fractional s) false k = absurd cc
truth_is (moment s) true k = absurd cc
truth_is (moment s) false k = absurd cc
truth_is (static_array n) true k = absurd cc
truth_is (static_array n) false k = absurd cc
truth_is (table_array n) true k = absurd cc
truth_is (table_array n) false k = absurd cc
truth_is (inline_table ms) true k = absurd cc
truth_is (inline_table ms) false k = absurd cc
truth_is (table ms) true k = absurd cc
truth_is (table ms) false k = absurd cc

list_is : (v : View) (n : ℕ) → kind_of v ≡ 6 → count_in v ≡ n → v ≡ static_array n
list_is (static_array m) n k e = ap static_array e
list_is (string s) n k e = absurd cc
list_is (truth true) n k e = absurd cc
list_is (truth false) n k e = absurd cc
list_is (whole s) n k e = absurd cc
list_is (fractional s) n k e = absurd cc
list_is (moment s) n k e = absurd cc
list_is (table_array m) n k e = absurd cc
list_is (inline_table ms) n k e = absurd cc
list_is (table ms) n k e = absurd cc

-- a new value shows something at its place
pub new_some : (v : NewValue) → new_view v [] ≡ None → ⊥
new_some (a_string s) e = cc
new_some (a_truth b) e = cc
new_some (a_list ss) e = cc

-- ---- nodes

abbrev At : DocumentViews → ℕ → Type 0
At d n = tree_of d (node_place d n) ≡ Some (node_view d n)

module _ (d : DocumentViews) (n : ℕ) (here : At d n) where
  pub shown_view : (v : NewValue) → ShowsValue d (node_place d n) v
      → new_view v [] ≡ Some (node_view d n)
  shown_view v h = sym (h []) ∙ ap (tree_of d) (append-nil (node_place d n)) ∙ here

  -- what has no parts shows what it shows, and nothing below
  leaf_shows : NoneBelow d → NothingElse d n → (x : NewValue) (v : View) → node_view d n ≡ v
      → ((i : ℕ) → nth_part v i ≡ None) → new_view x [] ≡ Some v
      → ((t : Step) (q : Place) → new_view x (t ∷ q) ≡ None) → ShowsValue d (node_place d n) x
  leaf_shows below else x v is bare first more [] =
      ap (tree_of d) (append-nil (node_place d n)) ∙ here ∙ ap Some is ∙ sym first
  leaf_shows below else x v is bare first more (t ∷ q) =
      let none : (i : ℕ) → nth_part (node_view d n) i ≡ Some t → ⊥ =
      λ i h. let clash : None ≡ Some t = sym (bare i) ∙ ap (λ (w : View). nth_part w i) (sym is) ∙ h in cc in
      sym (one_down d (node_place d n) t q) ∙ below (at (node_place d n) t) q (else t none) ∙
      sym (more t q)

  pub string_decides : NoneBelow d → NothingElse d n → (w : List ℕ) (r : Bool)
      → kind_of (node_view d n) ≡ 0
      → Decides r (value_text (node_view d n) ≡ Some w)
      → Decides r (ShowsValue d (node_place d n) (a_string w))
  string_decides below else w r k decided = (
    λ e. leaf_shows below else (a_string w) (string w) (string_is (node_view d n) w k (decided.0 e))
        (λ i. refl) refl (λ t q. refl),
    λ h. decided.1 (sym (ap value_text (same_Some (string w) (node_view d n) (shown_view (a_string w) h)))),
  )

  pub string_kind : (w : List ℕ) → ShowsValue d (node_place d n) (a_string w)
      → kind_of (node_view d n) ≡ 0
  string_kind w h = sym (ap kind_of (same_Some (string w) (node_view d n) (shown_view (a_string w) h)))

  pub truth_decides : NoneBelow d → NothingElse d n → (b : Bool) (k : ℕ) → k ≡ kind_of (node_view d n)
      → Decides (eqb k (kind_of (truth b))) (ShowsValue d (node_place d n) (a_truth b))
  truth_decides below else b k is = (
    λ e. leaf_shows below else (a_truth b) (truth b)
        (truth_is (node_view d n) b (sym is ∙ eqb-true k (kind_of (truth b)) e))
        (λ i. refl) refl (λ t q. refl),
    λ h. eq-eqb k (kind_of (truth b))
        (is ∙ sym (ap kind_of (same_Some (truth b) (node_view d n) (shown_view (a_truth b) h)))),
  )

  -- ---- lists of strings

  pub list_view : (ss : List (List ℕ)) → ShowsValue d (node_place d n) (a_list ss)
      → static_array (length ss) ≡ node_view d n
  list_view ss h = same_Some (static_array (length ss)) (node_view d n) (shown_view (a_list ss) h)

  pub list_element : (ss : List (List ℕ)) (i : ℕ) (s : List ℕ) → ShowsValue d (node_place d n) (a_list ss)
      → slice_get ss i ≡ Some s → ShowsValue d (at (node_place d n) (index i)) (a_string s)
  list_element ss i s h e [] =
      one_down d (node_place d n) (index i) [] ∙ h (index i ∷ []) ∙ ap (option_map string) e
  list_element ss i s h e (t ∷ q) = one_down d (node_place d n) (index i) (t ∷ q) ∙ h (index i ∷ t ∷ q)

  element_of : (m j : ℕ) (t : Step) → node_view d n ≡ static_array m
      → nth_part (node_view d n) j ≡ Some t
      → (j < m) × (t ≡ index j)
  element_of m j t is e = element_was m j t (ap (λ (w : View). nth_part w j) (sym is) ∙ e)

  pub list_shows : NoneBelow d → NothingElse d n → (ss : List (List ℕ)) → kind_of (node_view d n) ≡ 6
      → count_in (node_view d n) ≡ length ss
      → ((i : ℕ) (s : List ℕ) → slice_get ss i ≡ Some s
      → ShowsValue d (at (node_place d n) (index i)) (a_string s))
      → ShowsValue d (node_place d n) (a_list ss)
  list_shows below else ss kind count each = shows
    where
      is : node_view d n ≡ static_array (length ss)
      is = list_is (node_view d n) (length ss) kind count

      none : (t : Step) (q : Place) → ((j : ℕ) → nth_part (node_view d n) j ≡ Some t → ⊥)
          → tree_of d (node_place d n ++ t ∷ q) ≡ None
      none t q no_part = sym (one_down d (node_place d n) t q) ∙
          below (at (node_place d n) t) q (else t no_part)

      past : (i : ℕ) → slice_get ss i ≡ None → (j : ℕ) → nth_part (node_view d n) j ≡ Some (index i) → ⊥
      past i e j h =
          let p = element_of (length ss) j (index i) is h in
          let same : i ≡ j = (let step : index i ≡ index j = p.1 in cc) in
          let clash : None ≡ Some _ = sym e ∙ ap (slice_get ss) same ∙ slice_get-get_or ss j [] p.0 in
          cc

      element : (i : ℕ) (q : Place) (o : Option (List ℕ)) → slice_get ss i ≡ o
          → tree_of d (node_place d n ++ index i ∷ q) ≡ new_view (a_list ss) (index i ∷ q)
      element i [] (Some s) e =
          sym (one_down d (node_place d n) (index i) []) ∙ each i s e [] ∙ sym (ap (option_map string) e)
      element i (t ∷ q) (Some s) e = sym (one_down d (node_place d n) (index i) (t ∷ q)) ∙
          each i s e (t ∷ q)
      element i [] None e = none (index i) [] (past i e) ∙ sym (ap (option_map string) e)
      element i (t ∷ q) None e = none (index i) (t ∷ q) (past i e)

      shows : (q : Place) → tree_of d (node_place d n ++ q) ≡ new_view (a_list ss) q
      shows [] = ap (tree_of d) (append-nil (node_place d n)) ∙ here ∙ ap Some is
      shows (index i ∷ q) = element i q (slice_get ss i) refl
      shows (key name ∷ q) =
          none (key name) q (λ j h. let p = element_of (length ss) j (key name) is h in
          let clash : key name ≡ index j = p.1 in cc)

-- what stands at a place shows what its node shows
pub shown_at : (d : DocumentViews) (p : Place) (m : ℕ) (v : NewValue) (r : Bool) → IsNodeIndex d p (Some m)
    → Decides r (ShowsValue d (node_place d m) v) → Decides r (ShowsValue d p v)
shown_at d p m v r numbers decided = subst (λ (q : Place). Decides r (ShowsValue d q v)) numbers.1 decided

-- where nothing stands no value is shown
pub unshown_at : (d : DocumentViews) (p : Place) (v : NewValue) → tree_of d p ≡ None → ShowsValue d p v → ⊥
unshown_at d p v none h = new_some v (sym (h []) ∙ ap (tree_of d) (append-nil p) ∙ none)
