-- A document with strings written at places is a document again, with the intended tree.
use Rattle.std.proofs.Common.{◌≡◌, ℕ, suc, true, false, ◌||◌, cond, List, [], ◌∷◌, ◌++◌, Option, None, Some, option_map, refl, sym, ap, ◌∙◌, true≢false}
use Rattle.edit_syntax.specs.Grammar.{Value, basic, literal, multi_basic, multi_literal, boolean, integer, float, datetime, array, inline, Elements, no_elements, last_element, element, Members, no_members, last_member, member, Statement, pair, header, element_header, empty_line, full_line, Lines, one_line, more_lines, Text, text, IsValue, AreElements, AreMembers, IsStatement, AreLines}
use Rattle.edit_tree.specs.Assertions.{Place, Step, at, index, names, named, same_place, leaf, Assertion, of_statement, assertions, prefix_after, AreCompatible, IsDocument}
use Rattle.edit_tree.specs.Tree.{View, string, view_at, view_of_kind, kind_at}
use Rattle.edit_tree.specs.Literals.{literal_of}
use Rattle.edit_tree.specs.Replaces.{Edits, Writer, new_text, written_or, put, replaced_inside, replaced_elements, replaced_members, replaced_statement, replaced_lines, replaced, is_below, is_below_any, tree_with_strings, tree_without_below}
use Rattle.edit_tree.proofs.LiteralLaws.{literal_is_value, literal_says}
use Rattle.edit_tree.proofs.ThinnedForms.{Thin, none}
use Rattle.edit_tree.proofs.ThinnedLines.{thin_lines, thin_short, thin_no_clash}
use Rattle.edit_tree.proofs.ThinnedViews.{thin_view, thin_literal}
use Rattle.edit_tree.proofs.NothingBelow.{opens, Rooted, done, next, rooted}
use Rattle.edit_tree.proofs.PlainValues.{shut_below}
use Rattle.edit_syntax.proofs.Cases.{by_test}
use Rattle.edit_tree.proofs.Parts.{has_kind}
use Rattle.edit_tree.proofs.SamePlace.{same_place_self}

-- ---- well formed

-- what is written is well formed
abbrev pub Forms : Writer → Type 0
Forms write = (said : List ℕ) → IsValue (write said)

formed_put : (write : Writer) → Forms write → (edits : Edits) (p : Place) (u : Value) → IsValue u
    → IsValue (put write edits p u)
formed_put write fine edits p u h = go (new_text edits p)
  where
    go : (o : Option (List ℕ)) → IsValue (written_or write o u)
    go None = h
    go (Some said) = fine said

mutual
  formed_inside : (write : Writer) → Forms write → (edits : Edits) (p : Place) (v : Value) → IsValue v
      → IsValue (replaced_inside write edits p v)
  formed_inside write fine edits p (basic ps) h = h
  formed_inside write fine edits p (literal t) h = h
  formed_inside write fine edits p (multi_basic ps) h = h
  formed_inside write fine edits p (multi_literal ps) h = h
  formed_inside write fine edits p (boolean b) h = h
  formed_inside write fine edits p (integer n) h = h
  formed_inside write fine edits p (float f) h = h
  formed_inside write fine edits p (datetime d) h = h
  formed_inside write fine edits p (array g es) h = (h.0, formed_elements write fine edits p 0 es h.1)
  formed_inside write fine edits p (inline g ms) h = (h.0, formed_members write fine edits p ms h.1)

  formed_elements : (write : Writer) → Forms write → (edits : Edits) (p : Place) (i : ℕ) (es : Elements)
      → AreElements es → AreElements (replaced_elements write edits p i es)
  formed_elements write fine edits p i no_elements h = h
  formed_elements write fine edits p i (last_element v g) h = (
    formed_put write fine edits (at p (index i)) _ (formed_inside write fine edits (at p (index i)) v h.0),
    h.1,
  )
  formed_elements write fine edits p i (element v g x es) h = (
    formed_put write fine edits (at p (index i)) _ (formed_inside write fine edits (at p (index i)) v h.0),
    h.1,
    h.2,
    formed_elements write fine edits p (suc i) es h.3,
  )

  formed_members : (write : Writer) → Forms write → (edits : Edits) (p : Place) (ms : Members) → AreMembers ms
      → AreMembers (replaced_members write edits p ms)
  formed_members write fine edits p no_members h = h
  formed_members write fine edits p (last_member k a b v c) h = (
    h.0,
    h.1,
    h.2,
    formed_put write fine edits (named p (names k)) _
        (formed_inside write fine edits (named p (names k)) v h.3),
    h.4,
  )
  formed_members write fine edits p (member k a b v c d ms) h = (
    h.0,
    h.1,
    h.2,
    formed_put write fine edits (named p (names k)) _
        (formed_inside write fine edits (named p (names k)) v h.3),
    h.4,
    h.5,
    formed_members write fine edits p ms h.6,
  )

formed_statement : (write : Writer) → Forms write → (edits : Edits) (prefix : Place) (s : Statement)
    → IsStatement s → IsStatement (replaced_statement write edits prefix s)
formed_statement write fine edits prefix (pair k a b v) h = (
  h.0,
  h.1,
  h.2,
  formed_put write fine edits (named prefix (names k)) _
      (formed_inside write fine edits (named prefix (names k)) v h.3),
)
formed_statement write fine edits prefix (header a k b) h = h
formed_statement write fine edits prefix (element_header a k b) h = h

pub formed_lines : (write : Writer) → Forms write → (edits : Edits) (earlier : List Assertion)
    (prefix : Place) (ls : Lines) → AreLines ls → AreLines (replaced_lines write edits earlier prefix ls)
formed_lines write fine edits earlier prefix (one_line (empty_line a c)) h = h
formed_lines write fine edits earlier prefix (one_line (full_line a s b c)) h =
    (h.0, formed_statement write fine edits prefix s h.1, h.2, h.3)
formed_lines write fine edits earlier prefix (more_lines (empty_line a c) e ls) h =
    (h.0, formed_lines write fine edits earlier prefix ls h.1)
formed_lines write fine edits earlier prefix (more_lines (full_line a s b c) e ls) h = (
  (h.0.0, formed_statement write fine edits prefix s h.0.1, h.0.2, h.0.3),
  formed_lines write fine edits (earlier ++ of_statement earlier prefix s)
      (prefix_after earlier prefix s) ls h.1,
)

-- ---- a document

pub thinned : (edits : Edits) (form : Text) → Thin edits (assertions form) (assertions (replaced edits form))
thinned edits form = thin_lines edits [] [] [] form.lines none

pub replaced_document : (edits : Edits) (old : List ℕ) (form : Text) → IsDocument old form
    → IsDocument (text (replaced edits form)) (replaced edits form)
replaced_document edits old form document = record {
  grammar = record {
    spelled = refl;
    well_formed = formed_lines literal_of literal_is_value edits [] [] form.lines
        document.grammar.well_formed;
  };
  short = thin_short edits _ _ (thinned edits form) document.short;
  no_clash = thin_no_clash edits _ _ (thinned edits form) document.no_clash;
}

-- ---- the tree

-- a value stands at the place
abbrev pub HasValue : Text → Place → Type 0
HasValue form p = (v : Value) × (kind_at (assertions form) p ≡ Some (leaf v))

-- a value stands at each edited place, and none of these places lies below another
abbrev pub AreApart : Edits → Text → Type 0
AreApart edits form = (p : Place) (said : List ℕ) → new_text edits p ≡ Some said → HasValue form p
    × (is_below_any edits p ≡ false)

written_there : (edits : Edits) (tree : Place → Option View) (q : Place) (said : List ℕ)
    → new_text edits q ≡ Some said → tree_with_strings edits tree q ≡ Some (string said)
written_there [] tree q said e = absurd cc
written_there (x ∷ edits) tree q said e =
    by_test (same_place x.0 q)
    (λ h. let is : Some x.1 ≡ Some said = sym (ap (λ c. cond c (Some x.1) (new_text edits q)) h) ∙ e in
    let same : x.1 ≡ said = cc in ap (λ c. cond c (Some (string x.1)) (tree_with_strings edits tree q)) h ∙
    ap (λ t. Some (string t)) same)
    (λ h. ap (λ c. cond c (Some (string x.1)) (tree_with_strings edits tree q)) h
    ∙ written_there edits tree q said (sym (ap (λ c. cond c (Some x.1) (new_text edits q)) h) ∙ e))

some_none : (l : List ℕ) → Some l ≡ None → ⊥
some_none l h = cc

written_elsewhere : (edits : Edits) (tree : Place → Option View) (q : Place) → new_text edits q ≡ None
    → tree_with_strings edits tree q ≡ tree q
written_elsewhere [] tree q e = refl
written_elsewhere (x ∷ edits) tree q e =
    by_test (same_place x.0 q)
    (λ h. absurd (some_none x.1 (sym (ap (λ c. cond c (Some x.1) (new_text edits q)) h) ∙ e)))
    (λ h. ap (λ c. cond c (Some (string x.1)) (tree_with_strings edits tree q)) h
    ∙ written_elsewhere edits tree q (sym (ap (λ c. cond c (Some x.1) (new_text edits q)) h) ∙ e))

pub no_root : (base xs : List Assertion) → Rooted base xs → kind_at xs [] ≡ None
no_root base xs (done b) = refl
no_root base xs (next b x zs p s e st r) = ap (λ c. cond c (Some x.kind) (kind_at zs []))
    (ap (λ q. same_place q []) e ∙ never p s) ∙ no_root (x ∷ b) zs r
  where
    never : (p : Place) (s : Step) → same_place (at p s) [] ≡ false
    never [] s = refl
    never (t ∷ ts) s = refl

-- nothing shows below a plain value
pub nothing_below : (form : Text) (p q : Place) (v : Value) → opens (leaf v) ≡ false
    → AreCompatible (assertions form) → kind_at (assertions form) p ≡ Some (leaf v) → is_below p q ≡ true
    → view_at form q ≡ None
nothing_below form [] q v shut clash e low = let no : None ≡ Some (leaf v) =
    sym (no_root [] (assertions form) (rooted form)) ∙ e in absurd (never v no)
  where
    never : (v : Value) → None ≡ Some (leaf v) → ⊥
    never v h = cc
nothing_below form (s ∷ ss) [] v shut clash e low = absurd (true≢false (sym low))
nothing_below form (s ∷ ss) (t ∷ ts) v shut clash e low =
    ap (λ o. option_map (view_of_kind (assertions form) (t ∷ ts)) o)
    (shut_below form s ss (t ∷ ts) v shut clash (has_kind (s ∷ ss) v (assertions form) e) low)

-- the literal shows the text
literal_view : (form : Text) (p : Place) (said : List ℕ)
    → kind_at (assertions form) p ≡ Some (leaf (literal_of said)) → view_at form p ≡ Some (string said)
literal_view form [] said e = let no : None ≡ Some (leaf (literal_of said)) =
    sym (no_root [] (assertions form) (rooted form)) ∙ e in absurd (never (literal_of said) no)
  where
    never : (v : Value) → None ≡ Some (leaf v) → ⊥
    never v h = cc
literal_view form (s ∷ ss) said e = ap (λ o. option_map (view_of_kind (assertions form) (s ∷ ss)) o) e ∙
    ap (λ w. Some (string w)) (literal_says said)

-- a place below an edited one has an edited one above it
pub edit_above : (edits : Edits) (q : Place) → is_below_any edits q ≡ true → (p : Place) × (said : List ℕ)
    × (new_text edits p ≡ Some said) × (is_below p q ≡ true)
edit_above [] q low = absurd (true≢false (sym low))
edit_above (e ∷ edits) q low =
    by_test (is_below e.0 q)
    (λ h. (e.0, e.1, ap (λ c. cond c (Some e.1) (new_text edits e.0)) (same_place_self e.0), h))
    (λ h. let r = edit_above edits q (sym (ap (λ c. c || is_below_any edits q) h) ∙ low) in
    by_test (same_place e.0 r.0)
    (λ s. (r.0, e.1, ap (λ c. cond c (Some e.1) (new_text edits r.0)) s, r.3))
    (λ s. (r.0, r.1, ap (λ c. cond c (Some e.1) (new_text edits r.0)) s ∙ r.2, r.3)))

pub replaced_view : (edits : Edits) (old : List ℕ) (form : Text) → IsDocument old form → AreApart edits form
    → (q : Place)
    → view_at (replaced edits form) q ≡ tree_with_strings edits (tree_without_below edits (view_at form)) q
replaced_view edits old form document apart q = go (new_text edits q) refl
  where
    literal_at : (p : Place) (said : List ℕ) → new_text edits p ≡ Some said
        → kind_at (assertions (replaced edits form)) p ≡ Some (leaf (literal_of said))
    literal_at p said e = let h = apart p said e in
        thin_literal edits p said (assertions form) (assertions (replaced edits form)) h.0.0 e h.1 h.0.1
        (thinned edits form)

    go : (o : Option (List ℕ)) → new_text edits q ≡ o → view_at (replaced edits form) q
        ≡ tree_with_strings edits (tree_without_below edits (view_at form)) q
    go (Some said) e = literal_view (replaced edits form) q said (literal_at q said e) ∙
        sym (written_there edits (tree_without_below edits (view_at form)) q said e)
    go None e =
        by_test (is_below_any edits q)
        (λ low. let r = edit_above edits q low in
        nothing_below (replaced edits form) r.0 q (literal_of r.1) refl
        (replaced_document edits old form document).no_clash (literal_at r.0 r.1 r.2) r.3
        ∙ sym (written_elsewhere edits (tree_without_below edits (view_at form)) q e ∙
        ap (λ c. cond c None (view_at form q)) low))
        (λ high. sym (thin_view edits q (assertions form) (assertions (replaced edits form))
        (record { same = e; above = high }) (thinned edits form))
        ∙ sym (written_elsewhere edits (tree_without_below edits (view_at form)) q e ∙
        ap (λ c. cond c None (view_at form q)) high))
