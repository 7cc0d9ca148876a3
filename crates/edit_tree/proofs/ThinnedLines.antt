-- The assertions of lines with replaced values are short and compatible.
use Rattle.std.proofs.Common.{◌≡◌, ℕ, suc, true, false, ◌&&◌, ◌-◌, nat_lt, if◌then◌else◌, cond, List, [], ◌∷◌, ◌++◌, refl, sym, ap, ◌∙◌, subst}
use Rattle.std.specs.List.{AllByRecursion}
use Rattle.edit_syntax.specs.Grammar.{Value, Statement, pair, header, element_header, empty_line, full_line, Lines, one_line, more_lines}
use Rattle.edit_tree.specs.Assertions.{Place, key, index, at, same_place, Kind, dotted, leaf, super, header_kind, array_kind, element_kind, Assertion, asserts, names, is_array_at, elements_at, last_element_or_self, fronts, header_place, of_statement, prefix_after, of_lines, are_compatible, AreCompatible, AreShort}
use Rattle.edit_tree.specs.Literals.{literal_of}
use Rattle.edit_tree.specs.Replaces.{Edits, replaced_statement, replaced_lines}
use Rattle.edit_tree.proofs.ThinnedForms.{Thin, none, keep, swap, lose, HasNoLeaf, thin_same, thin_append, thin_pair}

-- ---- later statements assert the same behind the thinned assertions

pub thin_count : (edits : Edits) (xs ys : List Assertion) (p : Place) → Thin edits xs ys
    → elements_at xs p ≡ elements_at ys p
thin_count edits xs ys p none = refl
thin_count edits xs ys p (keep x us vs l t) = ap (λ n. cond (is_array_at p x) (suc n) n)
    (thin_count edits us vs p t)
thin_count edits xs ys p (swap by q v w us vs e t) = thin_count edits us vs p t
thin_count edits xs ys p (lose x us vs b k t) =
    ap (λ c. cond (c && same_place x.place p) (suc (elements_at us p)) (elements_at us p)) k ∙
    thin_count edits us vs p t

-- two lists with the same numbers of elements
abbrev pub Counts : List Assertion → List Assertion → Type 0
Counts xs ys = (p : Place) → elements_at xs p ≡ elements_at ys p

same_resolved : (xs ys : List Assertion) (p : Place) → Counts xs ys
    → last_element_or_self xs p ≡ last_element_or_self ys p
same_resolved xs ys p t = ap (λ n. if nat_lt 0 n then at p (index (n - 1)) else p) (t p)

same_fronts : (xs ys : List Assertion) (by p : Place) (ns : List (List ℕ)) → Counts xs ys
    → fronts xs by p ns ≡ fronts ys by p ns
same_fronts xs ys by p [] t = refl
same_fronts xs ys by p (n ∷ []) t = refl
same_fronts xs ys by p (n ∷ m ∷ ns) t =
    ap (λ q. asserts by q super ∷ fronts xs by q (m ∷ ns)) (same_resolved xs ys (at p (key n)) t)
    ∙ ap (λ l. asserts by (last_element_or_self ys (at p (key n))) super ∷ l)
    (same_fronts xs ys by (last_element_or_self ys (at p (key n))) (m ∷ ns) t)

same_header : (xs ys : List Assertion) (p : Place) (ns : List (List ℕ)) → Counts xs ys
    → header_place xs p ns ≡ header_place ys p ns
same_header xs ys p [] t = refl
same_header xs ys p (n ∷ []) t = refl
same_header xs ys p (n ∷ m ∷ ns) t =
    ap (λ q. header_place xs q (m ∷ ns)) (same_resolved xs ys (at p (key n)) t) ∙
    same_header xs ys (last_element_or_self ys (at p (key n))) (m ∷ ns) t

pub same_prefix : (xs ys : List Assertion) (prefix : Place) (s : Statement) → Counts xs ys
    → prefix_after xs prefix s ≡ prefix_after ys prefix s
same_prefix xs ys prefix (pair k a b v) t = refl
same_prefix xs ys prefix (header a k b) t = same_header xs ys [] (names k) t
same_prefix xs ys prefix (element_header a k b) t =
    ap (λ q. at q (index (elements_at xs q))) (same_header xs ys [] (names k) t)
    ∙ ap (λ n. at (header_place ys [] (names k)) (index n)) (t (header_place ys [] (names k)))

pub same_statement : (xs ys : List Assertion) (prefix : Place) (s : Statement) → Counts xs ys
    → of_statement xs prefix s ≡ of_statement ys prefix s
same_statement xs ys prefix (pair k a b v) t = refl
same_statement xs ys prefix (header a k b) t =
    ap (λ q. fronts xs q [] (names k) ++ asserts q q header_kind ∷ []) (same_header xs ys [] (names k) t)
    ∙ ap (λ l. l ++ asserts (header_place ys [] (names k)) (header_place ys [] (names k)) header_kind ∷ [])
    (same_fronts xs ys (header_place ys [] (names k)) [] (names k) t)
same_statement xs ys prefix (element_header a k b) t =
    ap (λ q. let e = at q (index (elements_at xs q)) in
    fronts xs e [] (names k) ++ asserts e q array_kind ∷ asserts e e element_kind ∷ [])
    (same_header xs ys [] (names k) t)
    ∙ ap (λ n. let e = at (header_place ys [] (names k)) (index n) in
    fronts xs e [] (names k) ++ asserts e
    (header_place ys [] (names k)) array_kind ∷ asserts e e element_kind ∷ [])
    (t (header_place ys [] (names k)))
    ∙ (let e = at (header_place ys [] (names k)) (index (elements_at ys (header_place ys [] (names k)))) in
    ap (λ l. l ++ asserts e (header_place ys [] (names k)) array_kind ∷ asserts e e element_kind ∷ [])
    (same_fronts xs ys e [] (names k) t))

pub fronts_no_leaf : (earlier : List Assertion) (by p : Place) (ns : List (List ℕ))
    → HasNoLeaf (fronts earlier by p ns)
fronts_no_leaf earlier by p [] = tt
fronts_no_leaf earlier by p (n ∷ []) = tt
fronts_no_leaf earlier by p (n ∷ m ∷ ns) =
    (refl, fronts_no_leaf earlier by (last_element_or_self earlier (at p (key n))) (m ∷ ns))

pub no_leaf_append : (xs ys : List Assertion) → HasNoLeaf xs → HasNoLeaf ys → HasNoLeaf (xs ++ ys)
no_leaf_append [] ys h more = more
no_leaf_append (x ∷ xs) ys h more = (h.0, no_leaf_append xs ys h.1 more)

pub thin_statement : (edits : Edits) (xs ys : List Assertion) (prefix : Place) (s : Statement) → Counts xs ys
    → Thin edits (of_statement xs prefix s)
    (of_statement ys prefix (replaced_statement literal_of edits prefix s))
thin_statement edits xs ys prefix (pair k a b v) t = thin_pair edits prefix k v
thin_statement edits xs ys prefix (header a k b) t =
    subst (λ l. Thin edits (of_statement xs prefix (header a k b)) l)
    (same_statement xs ys prefix (header a k b) t)
    (thin_same edits _ (no_leaf_append (fronts xs _ [] (names k)) _ (fronts_no_leaf xs _ [] (names k))
    (refl, tt)))
thin_statement edits xs ys prefix (element_header a k b) t =
    subst (λ l. Thin edits (of_statement xs prefix (element_header a k b)) l)
    (same_statement xs ys prefix (element_header a k b) t)
    (thin_same edits _ (no_leaf_append (fronts xs _ [] (names k)) _ (fronts_no_leaf xs _ [] (names k))
    (refl, (refl, tt))))

same_after : (edits : Edits) (xs ys : List Assertion) (prefix : Place) (s : Statement) → Counts xs ys
    → prefix_after xs prefix s ≡ prefix_after ys prefix (replaced_statement literal_of edits prefix s)
same_after edits xs ys prefix (pair k a b v) t = refl
same_after edits xs ys prefix (header a k b) t = same_prefix xs ys prefix (header a k b) t
same_after edits xs ys prefix (element_header a k b) t = same_prefix xs ys prefix (element_header a k b) t

-- replaced lines, behind thinned assertions
pub thin_lines : (edits : Edits) (xs ys : List Assertion) (prefix : Place) (ls : Lines) → Thin edits xs ys
    → Thin edits (of_lines xs prefix ls) (of_lines ys prefix (replaced_lines literal_of edits xs prefix ls))
thin_lines edits xs ys prefix (one_line (empty_line a c)) t = t
thin_lines edits xs ys prefix (one_line (full_line a s b c)) t =
    thin_append edits xs ys _ _ t (thin_statement edits xs ys prefix s (λ p. thin_count edits xs ys p t))
thin_lines edits xs ys prefix (more_lines (empty_line a c) e ls) t = thin_lines edits xs ys prefix ls t
thin_lines edits xs ys prefix (more_lines (full_line a s b c) e ls) t =
    let counts : Counts xs ys = λ p. thin_count edits xs ys p t in
    let more = thin_append edits xs ys _ _ t (thin_statement edits xs ys prefix s counts) in
    let us = xs ++ of_statement xs prefix s in
    let vs = ys ++ of_statement ys prefix (replaced_statement literal_of edits prefix s) in
    let news = replaced_lines literal_of edits us (prefix_after xs prefix s) ls in
    subst (λ q. Thin edits (of_lines us (prefix_after xs prefix s) ls) (of_lines vs q news))
    (same_after edits xs ys prefix s counts)
    (thin_lines edits us vs (prefix_after xs prefix s) ls more)

-- ---- thinned assertions are short and do not clash

pub thin_short : (edits : Edits) (xs ys : List Assertion) → Thin edits xs ys → AreShort xs → AreShort ys
thin_short edits xs ys none h = tt
thin_short edits xs ys (keep x us vs l t) h = (h.0, thin_short edits us vs t h.1)
thin_short edits xs ys (swap by p v w us vs e t) h = (h.0, thin_short edits us vs t h.1)
thin_short edits xs ys (lose x us vs b k t) h = thin_short edits us vs t h.1

pub leaf_alone : (k : Kind) (v : Value) → are_compatible k (leaf v) ≡ false
leaf_alone (dotted w) v = refl
leaf_alone (leaf u) v = refl
leaf_alone super v = refl
leaf_alone header_kind v = refl
leaf_alone array_kind v = refl
leaf_alone element_kind v = refl

abbrev StandsWith : Place → Kind → List Assertion → Type 0
StandsWith p k xs = AllByRecursion (λ b. p ≡ b.place → are_compatible k b.kind ≡ true) xs

thin_with : (edits : Edits) (p : Place) (k : Kind) (xs ys : List Assertion) → Thin edits xs ys
    → StandsWith p k xs → StandsWith p k ys
thin_with edits p k xs ys none h = tt
thin_with edits p k xs ys (keep x us vs l t) h = (h.0, thin_with edits p k us vs t h.1)
thin_with edits p k xs ys (swap by q v w us vs e t) h =
    ((λ same. leaf_alone k w ∙ sym (leaf_alone k v) ∙ h.0 same), thin_with edits p k us vs t h.1)
thin_with edits p k xs ys (lose x us vs b l t) h = thin_with edits p k us vs t h.1

pub thin_no_clash : (edits : Edits) (xs ys : List Assertion) → Thin edits xs ys → AreCompatible xs
    → AreCompatible ys
thin_no_clash edits xs ys none h = tt
thin_no_clash edits xs ys (keep x us vs l t) h =
    (thin_with edits x.place x.kind us vs t h.0, thin_no_clash edits us vs t h.1)
thin_no_clash edits xs ys (swap by p v w us vs e t) h =
    (thin_with edits p (leaf v) us vs t h.0, thin_no_clash edits us vs t h.1)
thin_no_clash edits xs ys (lose x us vs b k t) h = thin_no_clash edits us vs t h.1
