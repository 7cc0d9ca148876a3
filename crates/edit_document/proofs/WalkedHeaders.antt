-- The walk over pairs and headers, against their assertions.
use Rattle.std.proofs.Common.{◌≡◌, ℕ, Bool, true, false, cond, List, [], ◌∷◌, ◌++◌, length, map, Option, Some, None, refl, sym, ap, subst, ◌∙◌, append_assoc}
use Rattle.std.specs.Prelude.{slice_get}
use Rattle.std.proofs.lemmas.List.{append-nil}
use Rattle.std.proofs.lemmas.Option.{same_Some}
use Rattle.edit_syntax.specs.declared.read.syntax_tokens.TokenKind.TheVariants as kinds
use Rattle.edit_tree.specs.declared.nodes.DefinedBy.TheVariants.{Super, Header, Array, Element}
use Rattle.edit_syntax.specs.Strings.{name, Dotted as DottedPart, Key}
use Rattle.edit_tree.specs.Assertions.{key, index, Place, at, same_place, are_compatible, last_element_or_self, Kind, dotted, leaf, super, header_kind, array_kind, element_kind, Assertion, asserts, names, elements_at, fronts, header_place}
use Rattle.edit_tree.specs.Tree.{kind_at}
use Rattle.edit_document.specs.DocumentLayout.{Placed}
use Rattle.edit_syntax.specs.Reading.{◌>>=◌}
use Rattle.edit_tree.specs.Nodes.{section, sections, ModelNode, StandsAt}
use Rattle.edit_tree.specs.Walk.{State, element_added, without_pending, pending_defined, with_only_table, table_opened, array_table_opened, step, state_after}
use Rattle.edit_syntax.specs.SyntaxTokens.{token_between}
use Rattle.edit_tree.proofs.SamePlace.{not_root}
use Rattle.edit_tree.proofs.MoreAssertions.{first_kind, first_is, kind_stays, kind_new, IsClear, clear_front, clash_last, allowed}
use Rattle.edit_tree.proofs.MoreMembers.{is_headed, elements_below, elements_stay}
use Rattle.edit_tree.proofs.Trees.{Grows, grows_then}
use Rattle.edit_document.proofs.AssertedModels.{Stands}
use Rattle.edit_document.proofs.MemberAssertions.{Makes, makes, fails, element_makes}
use Rattle.edit_document.proofs.KeyPlaces.{header_lands}
use Rattle.edit_tree.proofs.ArrayCounts.{IsEven, arrays_alone}
use Rattle.edit_tree.proofs.Walks.{walked_one}
use Rattle.edit_tree.proofs.WalkedTokens.{waits}
use Rattle.edit_document.proofs.KeyWalks.{Leads, leads, stops, Enters, enters, bars, settled_enters}
use Rattle.std.proofs.lemmas.Bool.{and_parts}

header_step : (bytes from rest : List ℕ) (st : State) → step bytes (token_between kinds.Header from rest) st
    ≡ table_opened st
unfolding step
header_step bytes from rest st = refl

element_step : (bytes from rest : List ℕ) (st : State)
    → step bytes (token_between kinds.ElementHeader from rest) st
    ≡ array_table_opened st
unfolding step
element_step bytes from rest st = refl

-- the walk stands behind a statement under the header of a place, or the assertions clash
pub data PlacedStatement (before : List ModelNode) (made : List Assertion) (written : List Placed) (place : Place)
    (r : Option State) : Type 0 where
  placed_statements : (now : List ModelNode) (j : ℕ) → r ≡ Some (without_pending now (j ∷ []))
      → Stands made written now
      → StandsAt now j place → Grows before now → PlacedStatement before made written place r
  halts : r ≡ None → (IsClear made → ⊥) → PlacedStatement before made written place r

pub stated_along : {before : List ModelNode} {made : List Assertion} {written : List Placed} {place : Place}
    {r q : Option State} → q ≡ r → PlacedStatement before made written place r → PlacedStatement before made written place q
stated_along e (placed_statements now j h s p g) = placed_statements now j (e ∙ h) s p g
stated_along e (halts h c) = halts (e ∙ h) c

-- ---- pairs

abbrev pub key_names : Key → List (List ℕ)
key_names k = map (λ (d : DottedPart). name d.part) k.others

pub pair_stated : (before : List ModelNode) (made : List Assertion) (written : List Placed) (t : ℕ) (p : Place)
    (r : Option State) → StandsAt before t p → Leads before made written (t ∷ []) r
    → PlacedStatement before made written p r
pair_stated before made written t p r there (leads now e s g) = placed_statements now t e s (g t p there) g
pair_stated before made written t p r there (stops e c) = halts e c

-- ---- headers

pub header_stated : (bytes : List ℕ) (models : List ModelNode) (t : ℕ) (made : List Assertion)
    (written : List Placed)
    (k : Key) (whole rest : List ℕ) → Stands made written models → IsEven made
    → PlacedStatement models (made ++ (fronts made (header_place made [] (names k)) [] (names k) ++ asserts
    (header_place made [] (names k)) (header_place made [] (names k)) header_kind ∷ [])) written
    (header_place made [] (names k))
    (state_after bytes (token_between kinds.Header whole rest ∷ []) (waits (without_pending models (t ∷ [])) (names k)))
header_stated bytes models t made written k whole rest st even =
    let q = header_place made [] (names k) in
    let root = st.tree.root in
    let lands = header_lands models 0 [] (name k.first)
    (key_names k) made q q header_kind made written st root even
    (λ r. arrays_alone made r st.clear.apart) refl (λ e. absurd cc) in
    go (settled_enters models (t ∷ []) 0 (name k.first) (key_names k) Super section Header None
    (made ++ (fronts made q [] (names k) ++ asserts q q header_kind ∷ [])) written q lands)
  where
    path : state_after bytes (token_between kinds.Header whole rest ∷ []) (waits (without_pending models (t ∷ [])) (names k))
        ≡ table_opened (waits (without_pending models (t ∷ [])) (names k))
    path = walked_one bytes (token_between kinds.Header whole rest) (waits (without_pending models (t ∷ [])) (names k)) ∙
        header_step bytes whole rest (waits (without_pending models (t ∷ [])) (names k))

    go : Enters models (made ++ (fronts made (header_place made [] (names k)) [] (names k) ++ asserts
        (header_place made [] (names k)) (header_place made [] (names k)) header_kind ∷ [])) written (t ∷ [])
        (header_place made [] (names k))
        (pending_defined (waits (without_pending models (t ∷ [])) (names k)) 0 Super section Header None)
        → PlacedStatement models (made ++ (fronts made (header_place made [] (names k)) [] (names k) ++ asserts
        (header_place made [] (names k)) (header_place made [] (names k)) header_kind ∷ [])) written
        (header_place made [] (names k))
        (state_after bytes (token_between kinds.Header whole rest ∷ []) (waits (without_pending models (t ∷ [])) (names k)))
    go (enters now j e s p g) =
        placed_statements now j (path ∙ ap (λ (o : Option (State × ℕ)). o >>= λ r. Some (with_only_table r)) e) s p g
    go (bars e c) = halts (path ∙ ap (λ (o : Option (State × ℕ)). o >>= λ r. Some (with_only_table r)) e) c

-- ---- headers of elements

-- what is asserted with an array is an array from its first assertion on
array_first : (k : Kind) (made : List Assertion) (p : Place) → kind_at made p ≡ Some k
    → allowed made p array_kind ≡ true → k ≡ array_kind
array_first k [] p e h = absurd cc
array_first k (a ∷ made) p e h = go (same_place a.place p) refl e (array_first k made p)
  where
    parts : (cond (same_place a.place p) (are_compatible a.kind array_kind) true ≡ true)
        × (allowed made p array_kind ≡ true)
    parts = and_parts (cond (same_place a.place p) (are_compatible a.kind array_kind) true)
        (allowed made p array_kind) h

    only : (j : Kind) → are_compatible j array_kind ≡ true → j ≡ array_kind
    only (dotted b) t = absurd cc
    only (leaf v) t = absurd cc
    only super t = absurd cc
    only header_kind t = absurd cc
    only array_kind t = refl
    only element_kind t = absurd cc

    go : (b : Bool) → same_place a.place p ≡ b → cond b (Some a.kind) (kind_at made p) ≡ Some k
        → (kind_at made p ≡ Some k → allowed made p array_kind ≡ true → k ≡ array_kind) → k ≡ array_kind
    go true t g ih = sym (same_Some a.kind k g) ∙
        only a.kind (sym (ap (λ (b : Bool). cond b (are_compatible a.kind array_kind) true) t) ∙ parts.0)
    go false t g ih = ih g parts.1

array_place : (made : List Assertion) (by q : Place) → (q ≡ [] → ⊥)
    → IsClear (made ++ asserts by q array_kind ∷ []) → first_kind (made ++ asserts by q array_kind ∷ []) q
    ≡ Some array_kind
array_place made by q inner clear = first_is (made ++ asserts by q array_kind ∷ []) q inner ∙
    go (kind_at made q) refl
  where
    go : (o : Option Kind) → kind_at made q ≡ o → kind_at (made ++ asserts by q array_kind ∷ []) q
        ≡ Some array_kind
    go None e = kind_new made (asserts by q array_kind) q refl e
    go (Some k) e = kind_stays made (asserts by q array_kind) q k e ∙
        ap (λ (j : Kind). Some j) (array_first k made q e (clash_last made (asserts by q array_kind) clear))

header_inner : (earlier : List Assertion) (p : Place) (n : List ℕ) (ns : List (List ℕ))
    → header_place earlier p (n ∷ ns) ≡ [] → ⊥
header_inner earlier p n [] e = not_root p (key n) e
header_inner earlier p n (m ∷ ns) e = header_inner earlier (last_element_or_self earlier (at p (key n))) m ns e

-- headers that go on below their places are no elements
fronts_stay : (made earlier : List Assertion) (by p : Place) (ns : List (List ℕ)) (q : Place)
    → elements_below (made ++ fronts earlier by p ns) q ≡ elements_below made q
fronts_stay made earlier by p [] q = ap (λ (xs : List Assertion). elements_below xs q) (append-nil made)
fronts_stay made earlier by p (n ∷ []) q = ap (λ (xs : List Assertion). elements_below xs q) (append-nil made)
fronts_stay made earlier by p (n ∷ m ∷ ns) q =
    let a : Assertion = asserts by (last_element_or_self earlier (at p (key n))) super in
    ap (λ (xs : List Assertion). elements_below xs q)
    (sym (append_assoc made (a ∷ []) (fronts earlier by (last_element_or_self earlier (at p (key n))) (m ∷ ns))))
    ∙ fronts_stay (made ++ a ∷ []) earlier by (last_element_or_self earlier (at p (key n))) (m ∷ ns) q ∙
    elements_stay made a q refl

module _ (bytes : List ℕ) (models : List ModelNode) (t : ℕ) (made : List Assertion) (written : List Placed)
    (k : Key) (whole rest : List ℕ) (st : Stands made written models) (even : IsEven made) where
  abbrev array_at : Place
  array_at = header_place made [] (names k)

  abbrev own : Place
  own = at (header_place made [] (names k)) (index (elements_at made (header_place made [] (names k))))

  abbrev supers : List Assertion
  supers = fronts made own [] (names k)

  abbrev one_array : Assertion
  one_array = asserts own array_at array_kind

  abbrev one_element : Assertion
  one_element = asserts own own element_kind

  abbrev waiting : State
  waiting = waits (without_pending models (t ∷ [])) (names k)

  element_path : state_after bytes (token_between kinds.ElementHeader whole rest ∷ []) waiting ≡ array_table_opened waiting
  element_path = walked_one bytes (token_between kinds.ElementHeader whole rest) waiting ∙
      element_step bytes whole rest waiting

  abbrev with_element_of : State × ℕ → Option State
  with_element_of r = element_added r.0.models r.1 section Element None >>= λ e. Some
      (with_only_table (record r.0 { models = e.0 }, e.1))

  all_made : (made ++ (supers ++ one_array ∷ [])) ++ one_element ∷ []
      ≡ made ++ (supers ++ one_array ∷ one_element ∷ [])
  all_made = append_assoc made (supers ++ one_array ∷ []) (one_element ∷ []) ∙
      ap (λ (xs : List Assertion). made ++ xs) (append_assoc supers (one_array ∷ []) (one_element ∷ []))

  array_made : made ++ (supers ++ one_array ∷ []) ≡ (made ++ supers) ++ one_array ∷ []
  array_made = sym (append_assoc made supers (one_array ∷ []))

  -- what is asserted as an array of tables was made by headers
  by_headers : (now : List ModelNode) (s : ModelNode) (j : ℕ)
      → (st2 : Stands (made ++ (supers ++ one_array ∷ [])) written now) → (here : slice_get now j ≡ Some s)
      → s.place ≡ array_at → is_headed (st2.tells j s here).kind ≡ true
  by_headers now s j st2 here place =
      let clear2 : IsClear ((made ++ supers) ++ one_array ∷ []) = subst IsClear array_made st2.clear in
      let arrays : first_kind (made ++ (supers ++ one_array ∷ [])) s.place ≡ Some array_kind =
      ap (first_kind (made ++ (supers ++ one_array ∷ []))) place ∙
      ap (λ (xs : List Assertion). first_kind xs array_at) array_made ∙
      array_place (made ++ supers) own array_at (header_inner made [] (name k.first) (key_names k)) clear2 in
      let kind : (st2.tells j s here).kind ≡ array_kind =
      (let both : Some (st2.tells j s here).kind ≡ Some array_kind = sym (st2.tells j s here).first ∙
      arrays in cc) in
      ap is_headed kind

  -- as many elements stand below the array as were asserted before this statement
  counted : (now : List ModelNode) (s : ModelNode) (j : ℕ)
      → Stands (made ++ (supers ++ one_array ∷ [])) written now
      → slice_get now j ≡ Some s → s.place ≡ array_at → length s.elements ≡ elements_at made array_at
  counted now s j st2 here place =
      (st2.tells j s here).count (by_headers now s j st2 here place) ∙
      ap (elements_below (made ++ (supers ++ one_array ∷ []))) place ∙
      ap (λ (xs : List Assertion). elements_below xs array_at) array_made
      ∙ elements_stay (made ++ supers) one_array array_at refl ∙
      fronts_stay made made own [] (names k) array_at ∙ sym (even array_at)

  element_second : (now : List ModelNode) (j : ℕ) → pending_defined waiting 0 Super sections Array None
      ≡ Some (without_pending now (t ∷ []), j) → Grows models now
      → Makes (made ++ (supers ++ one_array ∷ [])) written now one_element []
      (element_added now j section Element None)
      → PlacedStatement models (made ++ (supers ++ one_array ∷ one_element ∷ [])) written own
      (state_after bytes (token_between kinds.ElementHeader whole rest ∷ []) waiting)
  element_second now j e grows (makes later i f s p g) =
      placed_statements later i
      (element_path ∙ ap (λ (o : Option (State × ℕ)). o >>= λ r. with_element_of r) e ∙
      ap (λ (o : Option (List ModelNode × ℕ)). o >>= λ x. Some (with_only_table (without_pending x.0 (t ∷ []), x.1))) f)
      (subst (λ (xs : List Assertion). Stands xs written later) all_made
      (subst (λ (w : List Placed). Stands ((made ++ (supers ++ one_array ∷ [])) ++ one_element ∷ []) w later)
      (append-nil written) s)) p (grows_then models now later grows g)
  element_second now j e grows (fails f c) =
      halts (element_path ∙ ap (λ (o : Option (State × ℕ)). o >>= λ r. with_element_of r) e ∙
      ap (λ (o : Option (List ModelNode × ℕ)). o >>= λ x. Some (with_only_table (without_pending x.0 (t ∷ []), x.1))) f)
      (λ clear. c (subst IsClear (sym all_made) clear))

  element_first : Enters models (made ++ (supers ++ one_array ∷ [])) written (t ∷ []) array_at
      (pending_defined waiting 0 Super sections Array None)
      → PlacedStatement models (made ++ (supers ++ one_array ∷ one_element ∷ [])) written own
      (state_after bytes (token_between kinds.ElementHeader whole rest ∷ []) waiting)
  element_first (enters now j e s p g) =
      let place : one_element.place ≡ at p.0.place (index (length p.0.elements)) =
      ap (λ (n : ℕ). at array_at (index n)) (sym (counted now p.0 j s p.1 p.2)) ∙
      ap (λ (r : Place). at r (index (length p.0.elements))) (sym p.2) in
      let clear2 : IsClear ((made ++ supers) ++ one_array ∷ []) = subst IsClear array_made s.clear in
      let arrays : first_kind (made ++ (supers ++ one_array ∷ [])) p.0.place ≡ Some array_kind =
      ap (first_kind (made ++ (supers ++ one_array ∷ []))) p.2 ∙
      ap (λ (xs : List Assertion). first_kind xs array_at) array_made ∙
      array_place (made ++ supers) own array_at (header_inner made [] (name k.first) (key_names k)) clear2 in
      element_second now j e g
      (element_makes (made ++ (supers ++ one_array ∷ [])) written now j p.0 one_element None s p.1 place
      (λ r f e. refl) (record { kind = array_kind; first = arrays; lists = tt }))
  element_first (bars e c) =
      halts (element_path ∙ ap (λ (o : Option (State × ℕ)). o >>= λ r. with_element_of r) e)
      (λ clear. c (clear_front (made ++ (supers ++ one_array ∷ [])) (one_element ∷ [])
      (subst IsClear (sym all_made) clear)))

  pub element_stated : PlacedStatement models (made ++ (supers ++ one_array ∷ one_element ∷ [])) written own
      (state_after bytes (token_between kinds.ElementHeader whole rest ∷ []) waiting)
  element_stated =
      element_first (settled_enters models (t ∷ []) 0 (name k.first) (key_names k) Super sections Array None
      (made ++ (supers ++ one_array ∷ [])) written array_at
      (header_lands models 0 [] (name k.first)
      (key_names k) made own own array_kind made written st st.tree.root even
      (λ r. arrays_alone made r st.clear.apart) refl (λ e. absurd cc)))
