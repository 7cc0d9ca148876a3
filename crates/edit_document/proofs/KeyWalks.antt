-- The walk over the tokens of a key and of what it names, against its assertions.
use Rattle.std.proofs.Common.{◌≡◌, ℕ, ◌<◌, Bool, true, false, List, [], ◌∷◌, ◌++◌, length, Option, Some, None, refl, sym, ap, subst, ◌∙◌, arith}
use Rattle.std.proofs.lemmas.Option.{slice_get_past}
use Rattle.edit_syntax.specs.declared.read.syntax_tokens.SyntaxToken.{SyntaxToken}
use Rattle.edit_syntax.specs.declared.span.Span.{Span}
use Rattle.edit_tree.specs.declared.nodes.DefinedBy.{DefinedBy}
use Rattle.edit_tree.specs.declared.nodes.DefinedBy.TheVariants.{Dotted, Value}
use Rattle.edit_syntax.specs.Grammar.{Between, Elements, array, Value as Written}
use Rattle.edit_tree.specs.Assertions.{index, Place, at, leaf, Assertion, asserts, named, of_key}
use Rattle.edit_tree.specs.Tree.{kind_at, count_elements}
use Rattle.edit_document.specs.DocumentLayout.{shape_of_value, Placed}
use Rattle.edit_syntax.specs.Reading.{◌>>=◌}
use Rattle.edit_tree.specs.Nodes.{Shape, ModelNode, StandsAt, below}
use Rattle.edit_tree.specs.Walk.{State, last_of, element_added, member_defined, front_shape, fronts_followed, without_pending, is_dotted_within, pending_defined, value_added_at, state_after}
use Rattle.edit_tree.proofs.MoreAssertions.{first_kind, IsClear, clear_front}
use Rattle.edit_tree.proofs.MoreMembers.{is_headed}
use Rattle.edit_tree.proofs.Trees.{Grows, grows_then}
use Rattle.edit_document.proofs.AssertedModels.{Stands, nothing_below_model}
use Rattle.edit_document.proofs.MemberAssertions.{Makes, makes, fails, element_makes}
use Rattle.edit_tree.proofs.Walks.{walked_append, last_push}
use Rattle.edit_tree.proofs.WalkSteps.{settled_is, entered_is, enters_element}
use Rattle.edit_tree.proofs.WalkedTokens.{waits, waits_are, fore, rear}
use Rattle.edit_document.proofs.KeyPlaces.{Lands, lands, misses, landed, pair_lands}

-- the walk goes on with these assertions, or they clash
pub data Leads (before : List ModelNode) (made : List Assertion) (written : List Placed) (tables : List ℕ)
    (r : Option State) : Type 0 where
  leads : (now : List ModelNode) → r ≡ Some (without_pending now tables) → Stands made written now
      → Grows before now
      → Leads before made written tables r
  stops : r ≡ None → (IsClear made → ⊥) → Leads before made written tables r

pub leads_along : {before : List ModelNode} {made : List Assertion} {written : List Placed} {tables : List ℕ}
    {r q : Option State} → q ≡ r → Leads before made written tables r → Leads before made written tables q
leads_along e (leads now h s g) = leads now (e ∙ h) s g
leads_along e (stops h c) = stops (e ∙ h) c

pub leads_then : (bytes : List ℕ) (xs ys : List SyntaxToken) (st : State) (before : List ModelNode)
    (made more : List Assertion) (written added : List Placed) (tables tables2 : List ℕ)
    → Leads before made written tables (state_after bytes xs st)
    → ((now : List ModelNode) → Stands made written now → Grows before now
    → Leads now (made ++ more) (written ++ added) tables2 (state_after bytes ys (without_pending now tables)))
    → Leads before (made ++ more) (written ++ added) tables2 (state_after bytes (xs ++ ys) st)
leads_then bytes xs ys st before made more written added tables tables2 (leads now e s grows) then =
    go (then now s grows)
  where
    path : state_after bytes (xs ++ ys) st ≡ state_after bytes ys (without_pending now tables)
    path = walked_append bytes xs ys st ∙ ap (λ (o : Option State). o >>= state_after bytes ys) e

    go : Leads now (made ++ more) (written ++ added) tables2 (state_after bytes ys (without_pending now tables))
        → Leads before (made ++ more) (written ++ added) tables2 (state_after bytes (xs ++ ys) st)
    go (leads later f s2 g) = leads later (path ∙ f) s2 (grows_then before now later grows g)
    go (stops f c) = stops (path ∙ f) c
leads_then bytes xs ys st before made more written added tables tables2 (stops e clash) then =
    stops (walked_append bytes xs ys st ∙ ap (λ (o : Option State). o >>= state_after bytes ys) e)
    (λ clear. clash (clear_front made more clear))

-- ---- the waiting key settles

-- the waiting key takes a place with a number, or the assertions clash
pub data Enters (before : List ModelNode) (made : List Assertion) (written : List Placed) (tables : List ℕ)
    (place : Place) (r : Option (State × ℕ)) : Type 0 where
  enters : (now : List ModelNode) (j : ℕ) → r ≡ Some (without_pending now tables, j) → Stands made written now
      → StandsAt now j place → Grows before now → Enters before made written tables place r
  bars : r ≡ None → (IsClear made → ⊥) → Enters before made written tables place r

abbrev with_number : List ℕ → List ModelNode × ℕ → Option (State × ℕ)
with_number tables q = Some (without_pending q.0 tables, q.1)

settled_landed : (models : List ModelNode) (tables : List ℕ) (t : ℕ) (n : List ℕ) (ns : List (List ℕ))
    (front : DefinedBy) (shape : Shape) (taken : DefinedBy) (span : Option Span)
    → pending_defined (waits (without_pending models tables) (n ∷ ns)) t front shape taken span
    ≡ (landed models t (fore n ns) (front_shape (is_dotted_within (length tables) front)) front
    (rear n ns) shape taken span >>= λ q. with_number tables q)
settled_landed models tables t n ns front shape taken span =
    let st : State = record { models = models; tables = tables; fronts = fore n ns; name = Some (rear n ns) } in
    ap (λ (x : State). pending_defined x t front shape taken span) (waits_are models tables n ns) ∙
    settled_is st t front shape taken span (rear n ns) refl
    ∙ join (fronts_followed models t (fore n ns) (front_shape (is_dotted_within (length tables) front)) front)
  where
    join : (o : Option (List ModelNode × ℕ))
        → (o >>= λ r. member_defined r.0 r.1 (rear n ns) shape taken span >>= λ q. with_number tables q)
        ≡ ((o >>= λ r. member_defined r.0 r.1 (rear n ns) shape taken span) >>= λ q. with_number tables q)
    join None = refl
    join (Some r) = refl

pub settled_enters : (models : List ModelNode) (tables : List ℕ) (t : ℕ) (n : List ℕ) (ns : List (List ℕ))
    (front : DefinedBy) (shape : Shape) (taken : DefinedBy) (span : Option Span) (made : List Assertion)
    (written : List Placed) (place : Place)
    → Lands models made written place
    (landed models t (fore n ns) (front_shape (is_dotted_within (length tables) front)) front
    (rear n ns) shape taken span)
    → Enters models made written tables place
    (pending_defined (waits (without_pending models tables) (n ∷ ns)) t front shape taken span)
settled_enters models tables t n ns front shape taken span made written place (lands now j e s p g) =
    enters now j (settled_landed models tables t n ns front shape taken span ∙
    ap (λ (o : Option (List ModelNode × ℕ)). o >>= λ q. with_number tables q) e) s p g
settled_enters models tables t n ns front shape taken span made written place (misses e c) =
    bars (settled_landed models tables t n ns front shape taken span ∙
    ap (λ (o : Option (List ModelNode × ℕ)). o >>= λ q. with_number tables q) e) c

enters_along : {before : List ModelNode} {made : List Assertion} {written : List Placed} {tables : List ℕ}
    {place : Place} {r q : Option (State × ℕ)} → q ≡ r → Enters before made written tables place r
    → Enters before made written tables place q
enters_along e (enters now j h s p g) = enters now j (e ∙ h) s p g
enters_along e (bars h c) = bars (e ∙ h) c

-- a value's key enters the innermost table
pub pair_enters : (models : List ModelNode) (base : List ℕ) (t : ℕ) (p : Place) (n : List ℕ) (ns : List (List ℕ))
    (within : Bool) (by : Place) (v : Written) (span : Span) (made : List Assertion) (written : List Placed)
    → is_dotted_within (length (base ++ t ∷ [])) Dotted ≡ within → Stands made written models
    → StandsAt models t p
    → Enters models (made ++ of_key within by p (n ∷ ns) v) (written ++ (named p (n ∷ ns), span) ∷ [])
    (base ++ t ∷ []) (named p (n ∷ ns)) (value_added_at (waits (without_pending models (base ++ t ∷ [])) (n ∷ ns))
    (shape_of_value v) (Some span))
pair_enters models base t p n ns within by v span made written in_table st there =
    let tables = base ++ t ∷ [] in
    let state = waits (without_pending models (base ++ t ∷ [])) (n ∷ ns) in
    let top : last_of state.tables ≡ Some t = ap (λ (x : State). last_of x.tables)
    (waits_are models (base ++ t ∷ []) n ns) ∙ last_push base t in
    let lands_at = pair_lands models t p n ns within by v (Some span) made written st there in
    let lands_here : Lands models (made ++ of_key within by p (n ∷ ns) v)
    (written ++ (named p (n ∷ ns), span) ∷ []) (named p (n ∷ ns))
    (landed models t (fore n ns) (front_shape (is_dotted_within (length (base ++ t ∷ [])) Dotted)) Dotted
    (rear n ns) (shape_of_value v) Value (Some span)) =
    subst (λ (b : Bool). Lands models (made ++ of_key within by p (n ∷ ns) v)
    (written ++ (named p (n ∷ ns), span) ∷ []) (named p (n ∷ ns))
    (landed models t (fore n ns) (front_shape b) Dotted (rear n ns) (shape_of_value v) Value (Some span)))
    (sym in_table) lands_at in
    enters_along (entered_is state (shape_of_value v) (Some span) t (rear n ns) top
    (ap (λ (x : State). x.name) (waits_are models (base ++ t ∷ []) n ns)))
    (settled_enters models (base ++ t ∷ []) t n ns Dotted (shape_of_value v) Value (Some span)
    (made ++ of_key within by p (n ∷ ns) v) (written ++ (named p (n ∷ ns), span) ∷ [])
    (named p (n ∷ ns)) lands_here)

-- an element enters the innermost array
pub element_enters : (models : List ModelNode) (base : List ℕ) (t : ℕ) (p : Place) (i : ℕ) (g : List Between)
    (es : Elements) (v : Written) (span : Span) (made : List Assertion) (written : List Placed)
    → Stands made written models → (there : StandsAt models t p) → length there.0.elements ≡ i
    → first_kind made p ≡ Some (leaf (array g es)) → i < count_elements es
    → Enters models (made ++ asserts (at p (index i)) (at p (index i)) (leaf v) ∷ [])
    (written ++ (at p (index i), span) ∷ []) (base ++ t ∷ []) (at p (index i))
    (value_added_at (without_pending models (base ++ t ∷ [])) (shape_of_value v) (Some span))
element_enters models base t p i g es v span made written st there size first few =
    let a : Assertion = asserts (at p (index i)) (at p (index i)) (leaf v) in
    let first2 : first_kind made there.0.place ≡ Some (leaf (array g es)) = ap (first_kind made) there.2 ∙
    first in
    let place : at p (index i) ≡ at there.0.place (index (length there.0.elements)) =
    ap (λ (q : Place). at q (index i)) (sym there.2) ∙ ap (λ (n : ℕ). at there.0.place (index n))
    (sym size) in
    let few2 : length there.0.elements < count_elements es = omega arith in
    go (element_makes made written models t there.0 a (Some span) st there.1 place
    (λ k f e. absurd (let same : k ≡ leaf (array g es) =
    (let both : Some k ≡ Some (leaf (array g es)) = sym f ∙ first2 in cc) in
    let clash : true ≡ false = sym e ∙ ap is_headed same in cc))
    (record { kind = leaf (array g es); first = first2; lists = few2 }))
  where
    path : value_added_at (without_pending models (base ++ t ∷ [])) (shape_of_value v) (Some span)
        ≡ (element_added models t (shape_of_value v) Value (Some span) >>= λ q. with_number (base ++ t ∷ []) q)
    path = enters_element (without_pending models (base ++ t ∷ [])) (shape_of_value v) (Some span) t
        (last_push base t) refl

    go : Makes made written models (asserts (at p (index i)) (at p (index i)) (leaf v))
        ((at p (index i), span) ∷ []) (element_added models t (shape_of_value v) Value (Some span))
        → Enters models (made ++ asserts (at p (index i)) (at p (index i)) (leaf v) ∷ [])
        (written ++ (at p (index i), span) ∷ []) (base ++ t ∷ []) (at p (index i))
        (value_added_at (without_pending models (base ++ t ∷ [])) (shape_of_value v) (Some span))
    go (makes now j e s h grows) =
        enters now j (path ∙ ap (λ (o : Option (List ModelNode × ℕ)). o >>= λ q. with_number (base ++ t ∷ []) q) e)
        s h grows
    go (fails e c) = bars
        (path ∙ ap (λ (o : Option (List ModelNode × ℕ)). o >>= λ q. with_number (base ++ t ∷ []) q) e) c

-- nothing stands at an element before it
pub element_vacant : (models : List ModelNode) (t : ℕ) (p : Place) (i : ℕ) (made : List Assertion)
    (written : List Placed) → Stands made written models → (there : StandsAt models t p)
    → length there.0.elements ≡ i → kind_at made (at p (index i)) ≡ None
element_vacant models t p i made written st there size =
    let past : below there.0 (index i) ≡ None = slice_get_past there.0.elements i (omega arith) in
    ap (λ (q : Place). kind_at made (at q (index i))) (sym there.2) ∙
    nothing_below_model made written models t there.0 (index i) st there.1 past
