-- A place does not exist before its value is read; nodes that differ in their spans only.
use Rattle.std.proofs.Common.{◌≡◌, ℕ, ◌+◌, ◌-◌, Bool, true, false, cond, List, [], ◌∷◌, ◌++◌, length, map, take, Option, Some, None, refl, sym, ap, subst, ◌∙◌, inl, inr, append_assoc, length-append, arith}
use Rattle.std.specs.Prelude.{slice_get, slice_set}
use Rattle.std.proofs.lemmas.Option.{slice_get_within}
use Rattle.edit_syntax.specs.declared.span.Span.{Span}
use Rattle.edit_syntax.specs.Grammar.{Value as Written}
use Rattle.edit_tree.specs.Assertions.{key, Place, same_place, Kind, dotted, leaf, Assertion, asserts, named, of_key, are_compatible}
use Rattle.edit_tree.specs.Tree.{kind_at}
use Rattle.edit_document.specs.DocumentLayout.{Placed, span_at}
use Rattle.edit_syntax.specs.Reading.{◌>>=◌}
use Rattle.edit_tree.specs.Nodes.{ModelNode, StandsAt}
use Rattle.edit_tree.specs.Walk.{State, without_last, without_pending, value_closed}
use Rattle.edit_tree.proofs.SamePlace.{same_place_self, other_place, place_or}
use Rattle.edit_tree.proofs.Ends.{take_length}
use Rattle.edit_syntax.proofs.ListElements.{OneSet, changed, other, in_set}
use Rattle.edit_tree.proofs.MoreAssertions.{allowed, IsClear, clash_last}
use Rattle.edit_tree.proofs.Trees.{Grows, grows_then, grows_set, tree_set}
use Rattle.edit_document.proofs.AssertedModels.{Tells, Stands}
use Rattle.edit_tree.proofs.ThinnedLines.{leaf_alone}
use Rattle.edit_tree.proofs.Walks.{last_push}
use Rattle.std.proofs.lemmas.Bool.{and_parts}
use Rattle.edit_document.proofs.KeyWalks.{Leads, leads}

-- ---- nothing stands at a place before its value

key_last : (within : Bool) (by p : Place) (n : List ℕ) (ns : List (List ℕ)) (v : Written)
    → (front : List Assertion) × (q : Place)
    × (of_key within by p (n ∷ ns) v ≡ front ++ asserts by q (leaf v) ∷ []) × (q ≡ named p (n ∷ ns))
key_last within by p n [] v = ([], named p (n ∷ []), refl, refl)
key_last within by p n (m ∷ ns) v =
    let r = key_last within by (named p (n ∷ [])) m ns v in (
      asserts by (named p (n ∷ [])) (dotted within) ∷ r.0,
      r.1,
      ap (λ (xs : List Assertion). asserts by (named p (n ∷ [])) (dotted within) ∷ xs) r.2,
      r.3 ∙
          append_assoc p (key n ∷ []) (map key (m ∷ ns)),
    )

leaf_refused : (made : List Assertion) (p : Place) (k : Kind) (v : Written) → kind_at made p ≡ Some k
    → allowed made p (leaf v) ≡ true → ⊥
leaf_refused [] p k v e h = cc
leaf_refused (a ∷ made) p k v e h = go (same_place a.place p) refl e (leaf_refused made p k v)
  where
    parts : (cond (same_place a.place p) (are_compatible a.kind (leaf v)) true ≡ true)
        × (allowed made p (leaf v) ≡ true)
    parts = and_parts (cond (same_place a.place p) (are_compatible a.kind (leaf v)) true)
        (allowed made p (leaf v)) h

    go : (b : Bool) → same_place a.place p ≡ b → cond b (Some a.kind) (kind_at made p) ≡ Some k
        → (kind_at made p ≡ Some k → allowed made p (leaf v) ≡ true → ⊥) → ⊥
    go true t g ih = let clash : true ≡ false = sym parts.0 ∙
        ap (λ (b : Bool). cond b (are_compatible a.kind (leaf v)) true) t ∙ leaf_alone a.kind v in cc
    go false t g ih = ih g parts.1

pub vacant : (made : List Assertion) (within : Bool) (by p : Place) (n : List ℕ) (ns : List (List ℕ))
    (v : Written) → IsClear (made ++ of_key within by p (n ∷ ns) v) → kind_at made (named p (n ∷ ns)) ≡ None
vacant made within by p n ns v clear = go (kind_at made (named p (n ∷ ns))) refl
  where
    go : (o : Option Kind) → kind_at made (named p (n ∷ ns)) ≡ o → kind_at made (named p (n ∷ ns)) ≡ None
    go None e = e
    go (Some k) e =
        let l = key_last within by p n ns v in
        let a : Assertion = asserts by l.1 (leaf v) in
        let all : made ++ of_key within by p (n ∷ ns) v ≡ (made ++ l.0) ++ a ∷ [] =
        ap (λ (xs : List Assertion). made ++ xs) l.2 ∙ sym (append_assoc made l.0 (a ∷ [])) in
        let fits : allowed (made ++ l.0) l.1 (leaf v) ≡ true =
        clash_last (made ++ l.0) a (subst IsClear all clear) in
        let there : kind_at made l.1 ≡ Some k = ap (kind_at made) l.3 ∙ e in
        absurd (leaf_refused (made ++ l.0) l.1 k v (kind_front made l.0 l.1 k there) fits)
      where
        kind_front : (made more : List Assertion) (q : Place) (k : Kind) → kind_at made q ≡ Some k
            → kind_at (made ++ more) q ≡ Some k
        kind_front [] more q k e = absurd cc
        kind_front (a ∷ made) more q k e = pick (same_place a.place q) e (kind_front made more q k)
          where
            pick : (b : Bool) → cond b (Some a.kind) (kind_at made q) ≡ Some k
                → (kind_at made q ≡ Some k → kind_at (made ++ more) q ≡ Some k)
                → cond b (Some a.kind) (kind_at (made ++ more) q) ≡ Some k
            pick true g ih = g
            pick false g ih = ih g

-- ---- a span that is replaced

span_middle : (ws vs : List Placed) (q : Place) (x : Span) → span_at ws q ≡ None
    → span_at (ws ++ (q, x) ∷ vs) q ≡ Some x
span_middle [] vs q x e = ap (λ (b : Bool). cond b (Some x) (span_at vs q)) (same_place_self q)
span_middle (w ∷ ws) vs q x e = go (same_place w.0 q) e (span_middle ws vs q x)
  where
    go : (b : Bool) → cond b (Some w.1) (span_at ws q) ≡ None
        → (span_at ws q ≡ None → span_at (ws ++ (q, x) ∷ vs) q ≡ Some x)
        → cond b (Some w.1) (span_at (ws ++ (q, x) ∷ vs) q) ≡ Some x
    go true h ih = absurd cc
    go false h ih = ih h

span_off : (ws vs : List Placed) (q p : Place) (x y : Span) → (q ≡ p → ⊥)
    → span_at (ws ++ (q, x) ∷ vs) p ≡ span_at (ws ++ (q, y) ∷ vs) p
span_off [] vs q p x y ne = ap (λ (b : Bool). cond b (Some x) (span_at vs p)) (other_place q p ne) ∙
    sym (ap (λ (b : Bool). cond b (Some y) (span_at vs p)) (other_place q p ne))
span_off (w ∷ ws) vs q p x y ne = ap (λ (o : Option Span). cond (same_place w.0 p) (Some w.1) o)
    (span_off ws vs q p x y ne)

-- the model node of the place has the new span too
respanned : (made : List Assertion) (ws vs : List Placed) (models : List ModelNode) (q : Place) (x y : Span) (j : ℕ)
    (s : ModelNode) → Stands made (ws ++ (q, x) ∷ vs) models → span_at ws q ≡ None → slice_get models j ≡ Some s
    → s.place ≡ q
    → Stands made (ws ++ (q, y) ∷ vs) (slice_set models j (record s { span = Some y }))
respanned made ws vs models q x y j s st none here place = record {
  tree = tree_set models j s (record s { span = Some y }) st.tree here refl refl refl;
  tells = λ n u e. tell n u
      (in_set models j (record s { span = Some y }) n u (slice_get_within models j s here) e);
  covers = λ p k e. let c = st.covers p k e in
      (c.0, grows_set models j s (record s { span = Some y }) here refl c.0 p c.1);
  rooted = st.rooted;
  indexed = st.indexed;
  spans = spans_there;
  clear = st.clear;
}
  where
    tell : (n : ℕ) (u : ModelNode) → OneSet models j (record s { span = Some y }) n u
        → Tells made (ws ++ (q, y) ∷ vs) u
    tell n u (changed same is) =
        let t = st.tells j s here in
        let new : Tells made (ws ++ (q, y) ∷ vs) (record s { span = Some y }) =
        record {
          kind = t.kind;
          first = t.first;
          shape = t.shape;
          joined = t.joined;
          names = t.names;
          count = t.count;
          span = sym (ap (span_at (ws ++ (q, y) ∷ vs)) place ∙ span_middle ws vs q y none);
        } in
        subst (Tells made (ws ++ (q, y) ∷ vs)) (sym is) new
    tell n u (other ne g) =
        let t = st.tells n u g in
        let off : q ≡ u.place → ⊥ = λ e. ne (st.tree.unique n j u s g here (sym e ∙ sym place)) in
        record {
          kind = t.kind;
          first = t.first;
          shape = t.shape;
          joined = t.joined;
          names = t.names;
          count = t.count;
          span = t.span ∙ span_off ws vs q u.place x y off;
        }

    spans_there : (p : Place) (sp : Span) → span_at (ws ++ (q, y) ∷ vs) p ≡ Some sp → (k : Kind)
        × (kind_at made p ≡ Some k)
    spans_there p sp e = elim (place_or q p) [
      | inl same ↦ subst (λ (r : Place). (k : Kind) × (kind_at made r ≡ Some k)) same
          (st.spans q x (span_middle ws vs q x none))
      | inr ne ↦ st.spans p sp (span_off ws vs q p x y ne ∙ e)
    ]

-- the innermost table ends
pub closed_leads : (before now : List ModelNode) (made : List Assertion) (ws vs : List Placed) (q : Place)
    (x : Span) (base : List ℕ) (j to : ℕ) → Stands made (ws ++ (q, x) ∷ vs) now → span_at ws q ≡ None
    → StandsAt now j q → Grows before now
    → Leads before made (ws ++ (q, record { from = x.from; to = to }) ∷ vs) base
    (value_closed (without_pending now (base ++ j ∷ [])) to)
closed_leads before now made ws vs q x base j to st none there grows =
    let s = there.0 in
    let y : Span = record { from = x.from; to = to } in
    let size : length (base ++ j ∷ []) ≡ length base + 1 = length-append base (j ∷ []) in
    let n : length (base ++ j ∷ []) - 1 ≡ length base = omega arith in
    let tables : without_last (base ++ j ∷ []) ≡ base = ap (λ (k : ℕ). take k (base ++ j ∷ [])) n ∙
    take_length base (j ∷ []) in
    let has : s.span ≡ Some x = (st.tells j s there.1).span ∙ ap (span_at (ws ++ (q, x) ∷ vs)) there.2 ∙
    span_middle ws vs q x none in
    let made_state : List ModelNode → List ℕ → Option State = λ ss ts. Some (without_pending ss ts) in
    let path : value_closed (without_pending now (base ++ j ∷ [])) to
    ≡ Some (without_pending (slice_set now j (record s { span = Some y })) base) =
    ap (λ (o : Option ℕ). o >>= λ number. slice_get now number >>= λ u. u.span >>= λ span. made_state
    (slice_set now number (record u { span = Some (record { from = span.from; to = to }) }))
    (without_last (base ++ j ∷ []))) (last_push base j)
    ∙ ap (λ (o : Option ModelNode). o >>= λ u. u.span >>= λ span. made_state
    (slice_set now j (record u { span = Some (record { from = span.from; to = to }) }))
    (without_last (base ++ j ∷ []))) there.1
    ∙ ap (λ (o : Option Span). o >>= λ span. made_state
    (slice_set now j (record s { span = Some (record { from = span.from; to = to }) }))
    (without_last (base ++ j ∷ []))) has
    ∙ ap (λ (ts : List ℕ). made_state (slice_set now j (record s { span = Some y })) ts) tables in
    leads (slice_set now j (record s { span = Some y })) path
    (respanned made ws vs now q x y j s st none there.1 there.2)
    (grows_then before now (slice_set now j (record s { span = Some y })) grows
    (grows_set now j s (record s { span = Some y }) there.1 refl))
