-- What a node determines about the statements that name its place.
use Rattle.std.proofs.Common.{◌≡◌, ℕ, zero, suc, true, false, List, [], ◌∷◌, length, map, Some, None, refl, sym, ap, subst, ◌∙◌, true≢false}
use Rattle.std.specs.Prelude.{slice_get}
use Rattle.std.proofs.lemmas.Option.{same_Some}
use Rattle.edit_syntax.specs.Grammar.{Value, Text}
use Rattle.edit_tree.specs.declared.nodes.DefinedBy.{DefinedBy}
use Rattle.edit_tree.specs.declared.nodes.DefinedBy.TheVariants.{Dotted, Value as ByValue, Super, Header, Array}
use Rattle.edit_tree.specs.Assertions.{Step, key, index, Place, at, Kind, dotted, leaf, super, header_kind, array_kind, element_kind, Assertion, assertions, are_compatible}
use Rattle.edit_document.specs.DocumentLayout.{placed}
use Rattle.edit_tree.specs.EditBytes.{is_one_statement}
use Rattle.edit_document.specs.Items.{names_in, key_names}
use Rattle.edit_tree.specs.Nodes.{ModelNode, names_of, view_of_shape}
use Rattle.edit_tree.specs.Redefinition.{defined_by, can_extend}
use Rattle.edit_tree.specs.Tree.{kind_at, members_of}
use Rattle.edit_tree.specs.Written.{values}
use Rattle.edit_tree.proofs.AlonePlaces.{header_none, array_none, headed_here, first_allows}
use Rattle.edit_document.proofs.AssertedModels.{Stands, Tells, Lists, shape_of_kind, was_asserted, step_below}
use Rattle.edit_tree.proofs.HeadedPlaces.{headed_up}
use Rattle.edit_tree.proofs.MoreAssertions.{allowed}
use Rattle.edit_tree.proofs.NamedHeads.{is_alone, one_statement_is}
use Rattle.edit_tree.proofs.NamedPairs.{IsKeyed}
use Rattle.edit_document.proofs.OnceLists.{apart_once, names_apart}
use Rattle.edit_tree.proofs.OneStatements.{first_fits, leaf_alone, none_alone, headed_alone, at_cons, only_alone, bare_alone, two_alone}
use Rattle.edit_tree.proofs.SamePlace.{last_same, not_root}
use Rattle.edit_document.proofs.Views.{view_of_model}
use Rattle.edit_document.proofs.MemberViews.{names_keys}
use Rattle.edit_document.proofs.Wholes.{name_at, number_at}

-- what goes with an assertion that goes with headers goes with headers too
goes_through : (j l : Kind) → are_compatible j super ≡ true → are_compatible j l ≡ true
    → are_compatible l super ≡ true
goes_through j (dotted b) e f = refl
goes_through j super e f = refl
goes_through j header_kind e f = refl
goes_through j element_kind e f = refl
goes_through (dotted b) (leaf v) e f = absurd (true≢false (sym f))
goes_through (leaf w) (leaf v) e f = absurd (true≢false (sym f))
goes_through super (leaf v) e f = absurd (true≢false (sym f))
goes_through header_kind (leaf v) e f = absurd (true≢false (sym f))
goes_through array_kind (leaf v) e f = absurd (true≢false (sym f))
goes_through element_kind (leaf v) e f = absurd (true≢false (sym f))
goes_through (dotted b) array_kind e f = absurd (true≢false (sym f))
goes_through (leaf w) array_kind e f = absurd (true≢false (sym f))
goes_through super array_kind e f = absurd (true≢false (sym f))
goes_through header_kind array_kind e f = absurd (true≢false (sym f))
goes_through array_kind array_kind e f = absurd (true≢false (sym e))
goes_through element_kind array_kind e f = absurd (true≢false (sym f))

pub array_through : (l : Kind) → are_compatible array_kind l ≡ true → are_compatible l array_kind ≡ true
array_through array_kind f = refl
array_through (dotted b) f = absurd (true≢false (sym f))
array_through (leaf v) f = absurd (true≢false (sym f))
array_through super f = absurd (true≢false (sym f))
array_through header_kind f = absurd (true≢false (sym f))
array_through element_kind f = absurd (true≢false (sym f))

-- a table has its members' names
table_names : (s : ModelNode) (k : Kind) → are_compatible k (dotted false) ≡ true
    → names_in (view_of_shape (shape_of_kind k) (names_of s) (length s.elements)) ≡ names_of s
table_names s (dotted true) e = names_keys (names_of s)
table_names s (dotted false) e = names_keys (names_of s)
table_names s super e = names_keys (names_of s)
table_names s (leaf v) e = absurd (true≢false (sym e))
table_names s header_kind e = absurd (true≢false (sym e))
table_names s array_kind e = absurd (true≢false (sym e))
table_names s element_kind e = absurd (true≢false (sym e))

-- and no elements
lists_none : (k : Kind) (i : ℕ) → are_compatible k (dotted false) ≡ true → Lists k i → ⊥
lists_none (dotted b) i e h = h
lists_none super i e h = h
lists_none (leaf v) i e h = true≢false (sym e)
lists_none header_kind i e h = true≢false (sym e)
lists_none array_kind i e h = true≢false (sym e)
lists_none element_kind i e h = true≢false (sym e)

first_apart : zero ≡ suc zero → ⊥
first_apart e = cc

-- a node whose place is that of a member
module _ (form : Text) (models : List ModelNode) (n : ℕ) (s : ModelNode)
    (st : Stands (assertions form) (map placed (values form)) models) (here : slice_get models n ≡ Some s)
    (q : Place) (name : List ℕ) (place : s.place ≡ at q (key name)) where
  made : List Assertion
  made = assertions form

  own_tells : Tells (assertions form) (map placed (values form)) s
  own_tells = st.tells n s here

  inner : s.place ≡ [] → ⊥
  inner root = not_root q (key name) (sym place ∙ root)

  member_defined : kind_at (assertions form) s.place ≡ Some (st.tells n s here).kind
  member_defined = was_asserted (st.tells n s here) inner

  joined : (k : Kind) → allowed (assertions form) s.place k ≡ can_extend s.taken (defined_by k)
  joined k = (st.tells n s here).joined inner k

  keyed : IsKeyed s.place
  keyed p i e = let clash : index i ≡ key name = (last_same p q (index i) (key name) (e ∙ place)).1 in cc

  split : (x : Step) × (xs : Place) × (s.place ≡ x ∷ xs)
  split = let c = at_cons q (key name) in (c.0, c.1, place ∙ c.2)

  alone_is : is_one_statement form s.place ≡ is_alone (assertions form) s.place
  alone_is = one_statement_is s.place keyed form

  -- a value is one pair's
  value_kind : s.taken ≡ ByValue → (k : Kind) → kind_at (assertions form) s.place ≡ Some k → (v : Value)
      × (k ≡ leaf v)
  value_kind taken k e = go k e
    where
      through : (k : Kind) → kind_at (assertions form) s.place ≡ Some k → are_compatible k super ≡ true → ⊥
      through k e f =
          true≢false (sym (first_allows (assertions form) s.place k super st.clear.apart e f
          (λ l g. goes_through k l f g))
          ∙ joined super ∙ ap (λ t. can_extend t Super) taken)

      go : (k : Kind) → kind_at (assertions form) s.place ≡ Some k → (v : Value) × (k ≡ leaf v)
      go (leaf v) e = (v, refl)
      go (dotted b) e = absurd (through (dotted b) e refl)
      go super e = absurd (through super e refl)
      go header_kind e = absurd (through header_kind e refl)
      go element_kind e = absurd (through element_kind e refl)
      go array_kind e =
          absurd (true≢false (sym
          (first_allows (assertions form) s.place array_kind array_kind st.clear.apart e refl array_through)
          ∙ joined array_kind ∙ ap (λ t. can_extend t Array) taken))

  pub value_states : s.taken ≡ ByValue → is_one_statement form s.place ≡ true
  value_states taken =
      let v = value_kind taken (st.tells n s here).kind member_defined in
      let e = member_defined ∙ ap Some v.1 in
      alone_is ∙ subst (λ p. kind_at (assertions form) p ≡ Some (leaf v.0)
      → is_alone (assertions form) p ≡ true) (sym split.2)
      (leaf_alone form split.0 split.1 v.0 st.clear.apart) e

  pub super_states : s.taken ≡ Super → is_one_statement form s.place ≡ false
  super_states taken =
      alone_is ∙ none_alone (assertions form) s.place
      (header_none (assertions form) s.place (joined header_kind ∙ ap (λ t. can_extend t Header) taken))

  pub array_states : s.taken ≡ Array → is_one_statement form s.place ≡ false
  array_states taken =
      alone_is ∙ none_alone (assertions form) s.place
      (array_none (assertions form) s.place (joined array_kind ∙ ap (λ t. can_extend t Array) taken))

  -- a header is none
  pub headed_states : (t : DefinedBy) → s.taken ≡ t → can_extend t Super ≡ true → can_extend t Dotted ≡ false
      → is_one_statement form s.place ≡ false
  headed_states t taken e f =
      alone_is ∙ headed_alone (assertions form) s.place (headed_up form s.place
      (headed_here (assertions form) s.place (joined super ∙ ap (λ t. can_extend t Super) taken ∙ e)
      (joined (dotted false) ∙ ap (λ t. can_extend t Dotted) taken ∙ f)))

  -- ---- tables that dotted keys alone go through

  module _ (taken : s.taken ≡ Dotted) where
    free : allowed (assertions form) s.place (dotted false) ≡ true
    free = joined (dotted false) ∙ ap (λ t. can_extend t Dotted) taken

    fits : are_compatible (st.tells n s here).kind (dotted false) ≡ true
    fits = first_fits (assertions form) s.place (st.tells n s here).kind (dotted false) member_defined free

    pub names_seen : names_in (view_of_model s) ≡ names_of s
    names_seen =
        ap (λ x. names_in (view_of_shape x (names_of s) (length s.elements))) (st.tells n s here).shape
        ∙ table_names s (st.tells n s here).kind fits

    member_stands : (i : ℕ) (m : List ℕ) → slice_get (names_of s) i ≡ Some m → (k : Kind)
        × (kind_at (assertions form) (at s.place (key m)) ≡ Some k)
    member_stands i m e =
        let j = number_at s.members m i e in
        let u = st.tree.down n j.0 s (key m) here j.1 in
        let t = st.tells j.0 u.0 u.1 in (
          t.kind,
          ap (λ p. kind_at (assertions form) p) (sym u.2) ∙
              was_asserted t (λ root. not_root s.place (key m) (sym u.2 ∙ root)),
        )

    member_named : (x : Step) (k : Kind) → kind_at (assertions form) (at s.place x) ≡ Some k → (i : ℕ)
        × (m : List ℕ) × (slice_get (names_of s) i ≡ Some m) × (x ≡ key m)
    member_named (key m) k e =
        let c = st.covers (at s.place (key m)) k e in
        let b = step_below (assertions form) (map placed (values form)) models n s (key m) st here c.0 c.1 in
        let i = name_at s.members m c.0 b in
        (i.0, m, i.1, refl)
    member_named (index i) k e =
        let l = st.indexed s.place i k e in
        let same : l.kind ≡ (st.tells n s here).kind = same_Some l.kind (st.tells n s here).kind
        (sym l.first ∙ (st.tells n s here).first) in
        absurd (lists_none (st.tells n s here).kind i fits (subst (λ x. Lists x i) same l.lists))

    pub only_states : (m : List ℕ) → names_of s ≡ m ∷ []
        → is_one_statement form s.place ≡ is_one_statement form (at s.place (key m))
    only_states m names =
        alone_is
        ∙ subst (λ p. allowed (assertions form) p (dotted false) ≡ true
        → ((x : Step) (k : Kind) → kind_at (assertions form) (at p x) ≡ Some k → x ≡ key m)
        → is_alone (assertions form) p ≡ is_alone (assertions form) (at p (key m)))
        (sym split.2) (only_alone form split.0 split.1 m) free only
        ∙ sym (one_statement_is (at s.place (key m)) below_keyed form)
      where
        first : (i : ℕ) (l : List ℕ) → slice_get (m ∷ []) i ≡ Some l → l ≡ m
        first zero l e = sym (same_Some m l e)
        first (suc i) l e = absurd cc

        only : (x : Step) (k : Kind) → kind_at (assertions form) (at s.place x) ≡ Some k → x ≡ key m
        only x k e =
            let h = member_named x k e in
            h.3 ∙ ap key (first h.0 h.1 (ap (λ ns. slice_get ns h.0) (sym names) ∙ h.2))

        below_keyed : IsKeyed (at s.place (key m))
        below_keyed p i e = let clash : index i ≡ key m = (last_same p s.place (index i) (key m) e).1 in cc

    pub other_states : (length (names_of s) ≡ 1 → ⊥) → is_one_statement form s.place ≡ false
    other_states ne = alone_is ∙ go (names_of s) refl
      where
        none : names_of s ≡ [] → (x : Step) (k : Kind) → kind_at (assertions form) (at s.place x) ≡ Some k → ⊥
        none e x k f =
            let h = member_named x k f in
            let clash : None ≡ Some h.1 = ap (λ ns. slice_get ns h.0) (sym e) ∙ h.2 in
            cc

        go : (ns : List (List ℕ)) → names_of s ≡ ns → is_alone (assertions form) s.place ≡ false
        go [] e =
            subst (λ p. allowed (assertions form) p (dotted false) ≡ true
            → ((x : Step) (k : Kind) → kind_at (assertions form) (at p x) ≡ Some k → ⊥)
            → is_alone (assertions form) p ≡ false)
            (sym split.2) (bare_alone form split.0 split.1) free (none e)
        go (m ∷ []) e = absurd (ne (ap length e))
        go (l ∷ m ∷ ns) e =
            let a = member_stands 0 l (ap (λ ns. slice_get ns 0) e) in
            let b = member_stands 1 m (ap (λ ns. slice_get ns 1) e) in
            subst (λ p. allowed (assertions form) p (dotted false) ≡ true
            → kind_at (assertions form) (at p (key l)) ≡ Some a.0
            → kind_at (assertions form) (at p (key m)) ≡ Some b.0 → is_alone (assertions form) p ≡ false)
            (sym split.2) (λ f g h. two_alone form split.0 split.1 l m a.0 b.0 f apart g h) free a.1 b.1
          where
            names : (i : ℕ) (x : List ℕ) → slice_get (l ∷ m ∷ ns) i ≡ Some x
                → slice_get (key_names (members_of (assertions form) s.place)) i ≡ Some x
            names i x f = ap (λ ns. slice_get ns i) (sym ((st.tells n s here).names) ∙ e) ∙ f

            apart : l ≡ m → ⊥
            apart same =
                first_apart (names_apart (members_of (assertions form) s.place) (apart_once _) 0 1 l
                (names 0 l refl) (names 1 l (ap Some (sym same))))
