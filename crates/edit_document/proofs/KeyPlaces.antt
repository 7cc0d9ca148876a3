-- The places that a key leads to: each part before the last defines one, and the last one is the place named.
use Rattle.std.proofs.Common.{◌≡◌, ℕ, Bool, true, false, List, [], ◌∷◌, ◌++◌, map, Option, Some, None, refl, sym, ap, subst, ◌∙◌, ◌⊎◌, inl, inr, append_assoc}
use Rattle.std.proofs.lemmas.List.{append-nil}
use Rattle.edit_syntax.specs.declared.span.Span.{Span}
use Rattle.edit_tree.specs.declared.nodes.DefinedBy.{DefinedBy}
use Rattle.edit_tree.specs.declared.nodes.DefinedBy.TheVariants.{Dotted, Value, Super}
use Rattle.edit_syntax.specs.Grammar.{Value as Written}
use Rattle.edit_tree.specs.Assertions.{key, Place, at, Kind, dotted, leaf, super, array_kind, Assertion, asserts, named, of_key, elements_at, last_element_or_self, fronts, header_place}
use Rattle.edit_tree.specs.Tree.{kind_at}
use Rattle.edit_syntax.specs.Reading.{◌>>=◌}
use Rattle.edit_document.specs.DocumentLayout.{shape_of_value, Placed}
use Rattle.edit_tree.specs.Redefinition.{defined_by}
use Rattle.edit_tree.specs.Nodes.{Shape, section, ModelNode, StandsAt}
use Rattle.edit_tree.specs.Walk.{member_defined, front_shape, fronts_followed}
use Rattle.edit_tree.proofs.KeyFronts.{reached_none, reached_more}
use Rattle.edit_tree.proofs.MoreAssertions.{kind_stays, IsClear, clear_front}
use Rattle.edit_tree.proofs.MoreMembers.{is_element, elements_below, elements_stay}
use Rattle.edit_tree.proofs.Trees.{Grows, grows_then}
use Rattle.edit_document.proofs.AssertedModels.{noted, shape_of_kind, Stands}
use Rattle.edit_document.proofs.MemberAssertions.{Makes, makes, fails, makes_along, member_makes}
use Rattle.edit_document.proofs.HeaderFronts.{super_makes}
use Rattle.edit_tree.proofs.WalkedTokens.{fore, rear}

-- the model nodes represent these assertions, and a place has a number; or the assertions clash
pub data Lands (models : List ModelNode) (made : List Assertion) (written : List Placed) (place : Place)
    (r : Option (List ModelNode × ℕ)) : Type 0 where
  lands : (now : List ModelNode) (j : ℕ) → r ≡ Some (now, j) → Stands made written now → StandsAt now j place
      → Grows models now → Lands models made written place r
  misses : r ≡ None → (IsClear made → ⊥) → Lands models made written place r

pub lands_along : {models : List ModelNode} {made : List Assertion} {written : List Placed} {place : Place}
    {r q : Option (List ModelNode × ℕ)} → q ≡ r → Lands models made written place r
    → Lands models made written place q
lands_along e (lands now j h s p g) = lands now j (e ∙ h) s p g
lands_along e (misses h c) = misses (e ∙ h) c

lands_made : (models : List ModelNode) (made : List Assertion) (written more : List Placed) (a : Assertion)
    (r : Option (List ModelNode × ℕ)) → Makes made written models a more r
    → Lands models (made ++ a ∷ []) (written ++ more) a.place r
lands_made models made written more a r (makes now j h s p g) = lands now j h s p g
lands_made models made written more a r (fails h c) = misses h c

-- the last part of a key, from the table in which it stands
abbrev pub landed : List ModelNode → ℕ → List (List ℕ) → Shape → DefinedBy → List ℕ → Shape → DefinedBy → Option Span
    → Option (List ModelNode × ℕ)
landed models t names shape front name last taken span = fronts_followed models t names shape front >>= λ r.
    member_defined r.0 r.1 name last taken span

landed_none : (models : List ModelNode) (t : ℕ) (shape : Shape) (front : DefinedBy) (name : List ℕ) (last : Shape)
    (taken : DefinedBy) (span : Option Span) → landed models t [] shape front name last taken span
    ≡ member_defined models t name last taken span
landed_none models t shape front name last taken span =
    ap (λ (o : Option (List ModelNode × ℕ)). o >>= λ r. member_defined r.0 r.1 name last taken span)
    (reached_none models t shape front)

landed_more : (models : List ModelNode) (t : ℕ) (n : List ℕ) (names : List (List ℕ)) (shape : Shape) (front : DefinedBy)
    (name : List ℕ) (last : Shape) (taken : DefinedBy) (span : Option Span) (o : Option (List ModelNode × ℕ))
    → member_defined models t n shape front None ≡ o
    → landed models t (n ∷ names) shape front name last taken span
    ≡ (o >>= λ r. landed r.0 r.1 names shape front name last taken span)
landed_more models t n names shape front name last taken span o e =
    ap (λ (x : Option (List ModelNode × ℕ)). x >>= λ r. member_defined r.0 r.1 name last taken span)
    (reached_more models t n names shape front ∙
    ap (λ (x : Option (List ModelNode × ℕ)). x >>= λ q. fronts_followed q.0 q.1 names shape front) e) ∙ go o
  where
    go : (o : Option (List ModelNode × ℕ))
        → ((o >>= λ q. fronts_followed q.0 q.1 names shape front) >>= λ r. member_defined r.0 r.1 name last taken span)
        ≡ (o >>= λ r. landed r.0 r.1 names shape front name last taken span)
    go None = refl
    go (Some r) = refl

-- one part more before those that land
lands_more : (models : List ModelNode) (t : ℕ) (n : List ℕ) (names : List (List ℕ)) (shape : Shape) (front : DefinedBy)
    (name : List ℕ) (last : Shape) (taken : DefinedBy) (span : Option Span) (made rest : List Assertion)
    (written finally : List Placed) (place : Place) (a : Assertion)
    → Makes made written models a [] (member_defined models t n shape front None)
    → ((now : List ModelNode) (j : ℕ) → Stands (made ++ a ∷ []) written now → StandsAt now j a.place
    → Lands now ((made ++ a ∷ []) ++ rest) finally place
    (landed now j names shape front name last taken span))
    → Lands models (made ++ a ∷ rest) finally place
    (landed models t (n ∷ names) shape front name last taken span)
lands_more models t n names shape front name last taken span made rest written finally place a
    (makes now j e stands there grows) then =
    go (then now j (subst (λ (w : List Placed). Stands (made ++ a ∷ []) w now) (append-nil written) stands)
    there)
  where
    same : (made ++ a ∷ []) ++ rest ≡ made ++ a ∷ rest
    same = append_assoc made (a ∷ []) rest

    go : Lands now ((made ++ a ∷ []) ++ rest) finally place
        (landed now j names shape front name last taken span)
        → Lands models (made ++ a ∷ rest) finally place
        (landed models t (n ∷ names) shape front name last taken span)
    go (lands later k h s p g) =
        lands later k (landed_more models t n names shape front name last taken span (Some (now, j)) e ∙ h)
        (subst (λ (m : List Assertion). Stands m finally later) (append_assoc made (a ∷ []) rest) s) p
        (grows_then models now later grows g)
    go (misses h c) =
        misses (landed_more models t n names shape front name last taken span (Some (now, j)) e ∙ h)
        (λ clear. c (subst IsClear (sym (append_assoc made (a ∷ []) rest)) clear))
lands_more models t n names shape front name last taken span made rest written finally place a
    (fails e clash) then =
    misses (landed_more models t n names shape front name last taken span None e)
    (λ clear. clash (clear_front (made ++ a ∷ []) rest
    (subst IsClear (sym (append_assoc made (a ∷ []) rest)) clear)))

-- ---- the key of a pair

dotted_shape : (within : Bool) → front_shape within ≡ shape_of_kind (dotted within)
dotted_shape true = refl
dotted_shape false = refl

named_more : (p : Place) (n m : List ℕ) (ns : List (List ℕ))
    → named (at p (key n)) (m ∷ ns) ≡ named p (n ∷ m ∷ ns)
named_more p n m ns = append_assoc p (key n ∷ []) (map key (m ∷ ns))

pub pair_lands : (models : List ModelNode) (t : ℕ) (p : Place) (n : List ℕ) (ns : List (List ℕ)) (within : Bool)
    (by : Place) (v : Written) (span : Option Span) (made : List Assertion) (written : List Placed)
    → Stands made written models → StandsAt models t p
    → Lands models (made ++ of_key within by p (n ∷ ns) v) (written ++ noted (named p (n ∷ ns)) span)
    (named p (n ∷ ns)) (landed models t (fore n ns) (front_shape within) Dotted (rear n ns)
    (shape_of_value v) Value span)
pair_lands models t p n [] within by v span made written st there =
    let a : Assertion = asserts by (at p (key n)) (leaf v) in
    let place : a.place ≡ at there.0.place (key n) = ap (λ (q : Place). at q (key n)) (sym there.2) in
    lands_along (landed_none models t (front_shape within) Dotted n (shape_of_value v) Value span)
    (lands_made models made written (noted (at p (key n)) span) a
    (member_defined models t n (shape_of_value v) Value span)
    (member_makes made written models t there.0 n a span st there.1 place refl (λ e. absurd cc) (inr refl)))
pair_lands models t p n (m ∷ ns) within by v span made written st there =
    let a : Assertion = asserts by (at p (key n)) (dotted within) in
    let place : a.place ≡ at there.0.place (key n) = ap (λ (q : Place). at q (key n)) (sym there.2) in
    let first : Makes made written models a [] (member_defined models t n (front_shape within) Dotted None) =
    makes_along (ap (λ (s : Shape). member_defined models t n s Dotted None) (dotted_shape within))
    (member_makes made written models t there.0 n a None st there.1 place refl (λ e. absurd cc) (inl refl)) in
    subst (λ (q : Place). Lands models (made ++ of_key within by p (n ∷ m ∷ ns) v) (written ++ noted q span) q
    (landed models t (fore n (m ∷ ns)) (front_shape within) Dotted (rear n (m ∷ ns))
    (shape_of_value v) Value span)) (named_more p n m ns)
    (lands_more models t n (fore m ns) (front_shape within) Dotted (rear m ns)
    (shape_of_value v) Value span made (of_key within by (at p (key n)) (m ∷ ns) v) written
    (written ++ noted (named (at p (key n)) (m ∷ ns)) span) (named (at p (key n)) (m ∷ ns)) a first
    (λ now j stands here. pair_lands now j (at p (key n)) m ns within by v span
    (made ++ a ∷ []) written stands here))

-- ---- the key of a header

still : (made : List Assertion) (a : Assertion) (earlier : List Assertion) (q : Place)
    → (elements_at earlier q ≡ 0) ⊎ (kind_at made q ≡ Some array_kind) → (elements_at earlier q ≡ 0)
    ⊎ (kind_at (made ++ a ∷ []) q ≡ Some array_kind)
still made a earlier q (inl e) = inl e
still made a earlier q (inr e) = inr (kind_stays made a q array_kind e)

pub header_lands : (models : List ModelNode) (t : ℕ) (p : Place) (n : List ℕ) (ns : List (List ℕ))
    (earlier : List Assertion) (by by2 : Place) (k : Kind) (made : List Assertion) (written : List Placed)
    → Stands made written models → StandsAt models t p
    → ((q : Place) → elements_at earlier q ≡ elements_below made q)
    → ((q : Place) → (elements_at earlier q ≡ 0) ⊎ (kind_at made q ≡ Some array_kind)) → is_element k ≡ false
    → (defined_by k ≡ Super → ⊥)
    → Lands models (made ++
    (fronts earlier by p (n ∷ ns) ++ asserts by2 (header_place earlier p (n ∷ ns)) k ∷ [])) written
    (header_place earlier p (n ∷ ns)) (landed models t (fore n ns) section Super (rear n ns) (shape_of_kind k)
    (defined_by k) None)
header_lands models t p n [] earlier by by2 k made written st there even alone plain kind =
    let a : Assertion = asserts by2 (at p (key n)) k in
    let place : a.place ≡ at there.0.place (key n) = ap (λ (q : Place). at q (key n)) (sym there.2) in
    subst (λ (w : List Placed). Lands models (made ++ a ∷ []) w (at p (key n))
    (landed models t [] section Super n (shape_of_kind k) (defined_by k) None)) (append-nil written)
    (lands_along (landed_none models t section Super n (shape_of_kind k) (defined_by k) None)
    (lands_made models made written [] a (member_defined models t n (shape_of_kind k) (defined_by k) None)
    (member_makes made written models t there.0 n a None st there.1 place plain kind (inl refl))))
header_lands models t p n (m ∷ ns) earlier by by2 k made written st there even alone plain kind =
    let q = last_element_or_self earlier (at p (key n)) in
    let a : Assertion = asserts by (last_element_or_self earlier (at p (key n))) super in
    let first : Makes made written models a [] (member_defined models t n section Super None) =
    subst (λ (r : Place). Makes made written models (asserts by (last_element_or_self earlier (at r (key n))) super) []
    (member_defined models t n section Super None)) there.2
    (super_makes made earlier written models t there.0 n by st there.1 even alone) in
    let rest = fronts earlier by q (m ∷ ns) ++ asserts by2 (header_place earlier q (m ∷ ns)) k ∷ [] in
    lands_more models t n (fore m ns) section Super (rear m ns) (shape_of_kind k)
    (defined_by k) None made rest written written (header_place earlier q (m ∷ ns)) a first
    (λ now j stands here. header_lands now j q m ns earlier by by2 k (made ++ a ∷ []) written stands here
    (λ r. even r ∙ sym (elements_stay made a r refl)) (λ r. still made a earlier r (alone r)) plain kind)
