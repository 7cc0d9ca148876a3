-- A place without an item has no item below it.
use Rattle.std.proofs.Common.{◌≡◌, cond, List, [], ◌∷◌, Option, None, Some, option_map, refl, sym, ap, ◌∙◌, ◌⊎◌, inl, inr, ⊎_elim, subst}
use Rattle.edit_tree.specs.Assertions.{Place, Step, at, same_place, Kind, Assertion, assertions}
use Rattle.edit_tree.specs.DocumentViews.{DocumentViews, tree_of, ShowsTree}
use Rattle.edit_tree.specs.Tree.{kind_at, view_at, view_of_kind}
use Rattle.edit_tree.proofs.NothingBelow.{Opened, Rooted, done, next, rooted}
use Rattle.edit_tree.proofs.SamePlace.{last_same, same_place_is, same_place_self}
use Rattle.edit_syntax.specs.Grammar.{Text}
use Rattle.edit_syntax.proofs.Cases.{by_test}

-- a kind is asserted on the place
abbrev pub HasKind : List Assertion → Place → Type 0
HasKind made p = (k : Kind) × (kind_at made p ≡ Some k)

-- the first assertion, or a later one
kind_more : (x : Assertion) (made : List Assertion) (p : Place) → HasKind made p → HasKind (x ∷ made) p
kind_more x made p h =
    by_test (same_place x.place p)
    (λ same. (x.kind, ap (λ c. cond c (Some x.kind) (kind_at made p)) same))
    (λ other. (h.0, ap (λ c. cond c (Some x.kind) (kind_at made p)) other ∙ h.1))

kind_here : (x : Assertion) (made : List Assertion) (p : Place) → x.place ≡ p → HasKind (x ∷ made) p
kind_here x made p e = (
  x.kind,
  ap (λ q. cond (same_place q p) (Some x.kind) (kind_at made p)) e
      ∙ ap (λ c. cond c (Some x.kind) (kind_at made p)) (same_place_self p),
)

-- what is asserted stands right below the root, or below what is asserted too
kind_above : (base xs : List Assertion) (p : Place) (s : Step) (k : Kind) → Rooted base xs
    → kind_at xs (at p s) ≡ Some k → (p ≡ []) ⊎ (Opened base p ⊎ HasKind xs p)
kind_above base xs p s k (done b) e = absurd cc
kind_above base xs p s k (next b x zs q t place stands more) e =
    by_test (same_place x.place (at p s))
    (λ same. here (last_same q p t s (sym place ∙ same_place_is x.place (at p s) same)).0)
    (λ other. later (kind_above (x ∷ b) zs p s k more
    (sym (ap (λ c. cond c (Some x.kind) (kind_at zs (at p s))) other) ∙ e)))
  where
    here : q ≡ p → (p ≡ []) ⊎ (Opened b p ⊎ HasKind (x ∷ zs) p)
    here up = ⊎_elim (λ root. inl (sym up ∙ root)) (λ o. inr (inl (subst (Opened b) up o))) stands

    later : (p ≡ []) ⊎ (Opened (x ∷ b) p ⊎ HasKind zs p) → (p ≡ []) ⊎ (Opened b p ⊎ HasKind (x ∷ zs) p)
    later (inl root) = inl root
    later (inr (inl (inl h))) = inr (inr (kind_here x zs p h.0))
    later (inr (inl (inr o))) = inr (inl o)
    later (inr (inr h)) = inr (inr (kind_more x zs p h))

never : {A : Type 0} (a : A) → None ≡ Some a → ⊥
never a e = cc

-- of a form
pub none_below : (form : Text) (p : Place) (s : Step) → view_at form p ≡ None → view_at form (at p s) ≡ None
none_below form [] s none = absurd cc
none_below form (t ∷ ts) s none = no_view (kind_at (assertions form) (at (t ∷ ts) s)) refl
  where
    no_kind : HasKind (assertions form) (t ∷ ts) → ⊥
    no_kind h =
        let shown = ap (option_map (view_of_kind (assertions form) (t ∷ ts))) h.1 in
        never _ (sym none ∙ shown)

    no_view : (o : Option Kind) → kind_at (assertions form) (at (t ∷ ts) s) ≡ o
        → view_at form (at (t ∷ ts) s) ≡ None
    no_view None e = ap (option_map (view_of_kind (assertions form) (at (t ∷ ts) s))) e
    no_view (Some k) e = absurd (stands (kind_above [] (assertions form) (t ∷ ts) s k (rooted form) e))
      where
        stands : ((t ∷ ts) ≡ []) ⊎ (Opened [] (t ∷ ts) ⊎ HasKind (assertions form) (t ∷ ts)) → ⊥
        stands (inl root) = cc
        stands (inr (inl o)) = o
        stands (inr (inr h)) = no_kind h

-- of a document that shows a form's tree
pub nothing_there : (d : DocumentViews) (form : Text) (p : Place) (s : Step) → ShowsTree d form
    → tree_of d p ≡ None → tree_of d (at p s) ≡ None
nothing_there d form p s shows none = shows (at p s) ∙ none_below form p s (sym (shows p) ∙ none)
