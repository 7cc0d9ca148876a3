-- The line of a requirement, from the range of its value in a document.
use Rattle.std.proofs.Common.{◌≡◌, ◌∙◌, ℕ, ◌+◌, ◌-◌, ◌≤◌, ◌++◌, Bool, true, false, List, [], ◌∷◌, None, Option, Some, ap, ap₂, arith, drop, length, length-append, min, take, option_map, refl, subst, sym, inl, inr, ⊎_elim, ◌⊎◌}
use Rattle.std.specs.Prelude.{◌==◌, IsUtf8, count_by, filter, nat_le, not, ◌&&◌, ◌||◌, if◌then◌else◌, option_and_then}
use Rattle.std.specs.List.{AllByRecursion, find, list_all}
use Rattle.std.specs.Str.{is_utf8}
use Rattle.std.proofs.lemmas.Bool.{and_parts, le-leb, leb-true}
use Rattle.std.proofs.lemmas.List.{drop_min, length-take, take-append-drop, take-take, take_min, take_rest}
use Rattle.std.proofs.lemmas.List.Elements.{filter-append}
use Rattle.std.proofs.lemmas.List.Sums.{count_by-le-length, length-filter}
use Rattle.std.proofs.lemmas.Str.{IsUtf8-from_is_utf8, is_utf8-from_IsUtf8}
use Rattle.edit_base.specs.Errors.{IsMemory}
use Rattle.edit_base.specs.declared.errors.Error.{Error}
use Rattle.edit_syntax.specs.FormOf.{form_of}
use Rattle.edit_syntax.specs.Grammar.{Text}
use Rattle.edit_syntax.proofs.Members.{Among, contained_among}
use Rattle.edit_tree.specs.Assertions.{Assertion, AreCompatible, AreShort, IsDocument, Place, are_compatible, assertions, same_place}
use Rattle.edit_tree.specs.Tree.{is_value_at}
use Rattle.edit_tree.specs.Written.{PlacedValue, start_of, values}
use Rattle.edit_tree.proofs.SamePlace.{same_place_is, same_place_self}
use Rattle.edit_tree.proofs.Shallow.{manifest_form}
use Rattle.edit_tree.proofs.UniqueValues.{listed_value, values_unique}
use Rattle.edit_document.specs.Ranges.{HasRange}
use Rattle.edit_document.proofs.FromReader.{form_spells}
use Rattle.edit_manifest.specs.Loaded.{IsBadManifest}
use Rattle.edit_shown.specs.RequirementLines.{are_short, document_form, have_no_clash, is_defined_well, line_number, requirement_line, requirement_start, value_start}

-- ---- tests and facts

-- a test that holds of each element
all_tests : {A : Type 0} (P : A → Type 0) (p : A → Bool) → ((x : A) → P x → p x ≡ true) → (xs : List A)
    → AllByRecursion P xs → list_all p xs ≡ true
all_tests P p tests [] all = refl
all_tests P p tests (x ∷ xs) all =
    ap (λ b. b && list_all p xs) (tests x all.0) ∙ all_tests P p tests xs all.1

-- a fact of each element
all_facts : {A : Type 0} (P : A → Type 0) (p : A → Bool) → ((x : A) → p x ≡ true → P x) → (xs : List A)
    → list_all p xs ≡ true → AllByRecursion P xs
all_facts P p facts [] all = tt
all_facts P p facts (x ∷ xs) all =
    let both = and_parts (p x) (list_all p xs) all in
    (facts x both.0, all_facts P p facts xs both.1)

short_test : (made : List Assertion) → AreShort made → are_short made ≡ true
short_test made short =
    all_tests (λ (a : Assertion). length a.place ≤ 80) (λ (a : Assertion). nat_le (length a.place) 80)
    (λ a h. le-leb (length a.place) 80 h) made short

short_fact : (made : List Assertion) → are_short made ≡ true → AreShort made
short_fact made short =
    all_facts (λ (a : Assertion). length a.place ≤ 80) (λ (a : Assertion). nat_le (length a.place) 80)
    (λ a h. leb-true (length a.place) 80 h) made short

-- two assertions are compatible where they have one place
pair_test : (a b : Assertion) → (a.place ≡ b.place → are_compatible a.kind b.kind ≡ true)
    → (not (same_place a.place b.place) || are_compatible a.kind b.kind) ≡ true
pair_test a b fits = go (same_place a.place b.place) refl
  where
    go : (same : Bool) → same_place a.place b.place ≡ same → (not same || are_compatible a.kind b.kind) ≡ true
    go true e = fits (same_place_is a.place b.place e)
    go false e = refl

pair_fact : (a b : Assertion) → (not (same_place a.place b.place) || are_compatible a.kind b.kind) ≡ true
    → a.place ≡ b.place → are_compatible a.kind b.kind ≡ true
pair_fact a b test e =
    sym (ap (λ same. not same || are_compatible a.kind b.kind)
    (ap (λ (p : Place). same_place p b.place) e ∙ same_place_self b.place)) ∙ test

clash_test : (made : List Assertion) → AreCompatible made → have_no_clash made ≡ true
clash_test [] all = refl
clash_test (a ∷ made) all =
    ap (λ b. b && have_no_clash made)
    (all_tests (λ (b : Assertion). a.place ≡ b.place → are_compatible a.kind b.kind ≡ true)
    (λ (b : Assertion). not (same_place a.place b.place) || are_compatible a.kind b.kind)
    (λ b. pair_test a b) made all.0)
    ∙ clash_test made all.1

clash_fact : (made : List Assertion) → have_no_clash made ≡ true → AreCompatible made
clash_fact [] all = tt
clash_fact (a ∷ made) all =
    let both = and_parts (list_all (λ (b : Assertion). not (same_place a.place b.place)
    || are_compatible a.kind b.kind) made) (have_no_clash made) all in (
      all_facts (λ (b : Assertion). a.place ≡ b.place → are_compatible a.kind b.kind ≡ true)
          (λ (b : Assertion). not (same_place a.place b.place) || are_compatible a.kind b.kind)
          (λ b. pair_fact a b) made both.0,
      clash_fact made both.1,
    )

-- ---- documents

-- the syntax tree of a document
form_of_document : (bytes : List ℕ) (form : Text) → IsUtf8 bytes → IsDocument bytes form
    → document_form bytes ≡ Some form
unfolding document_form
form_of_document bytes form utf8 document =
    ap (λ b. if b then option_and_then (λ (f : Text). if is_defined_well f then Some f else None)
    (form_of bytes) else None) (is_utf8-from_IsUtf8 bytes utf8)
    ∙ ap (option_and_then (λ (f : Text). if is_defined_well f then Some f else None))
    (manifest_form bytes form document)
    ∙ ap (λ b. if b && have_no_clash (assertions form) then Some form else None)
    (short_test (assertions form) document.short)
    ∙ ap (λ b. if b then Some form else None) (clash_test (assertions form) document.no_clash)

-- a text that is no document has none
pub no_form : (bytes : List ℕ) → (IsUtf8 bytes → (form : Text) → IsDocument bytes form → ⊥)
    → document_form bytes ≡ None
unfolding document_form
no_form bytes never = go (is_utf8 bytes) refl
  where
    well : (form : Text) → IsUtf8 bytes → form_of bytes ≡ Some form → (b : Bool) → is_defined_well form ≡ b
        → (if b then Some form else None) ≡ None
    well form utf8 read false e = refl
    well form utf8 read true e =
        let both = and_parts (are_short (assertions form)) (have_no_clash (assertions form)) e in
        absurd (never utf8 form (record {
          grammar = form_spells bytes form read;
          short = short_fact (assertions form) both.0;
          no_clash = clash_fact (assertions form) both.1;
        }))

    read : (o : Option Text) → IsUtf8 bytes → form_of bytes ≡ o
        → option_and_then (λ (f : Text). if is_defined_well f then Some f else None) o ≡ None
    read None utf8 e = refl
    read (Some form) utf8 e = well form utf8 e (is_defined_well form) refl

    go : (b : Bool) → is_utf8 bytes ≡ b
        → (if b then option_and_then (λ (f : Text). if is_defined_well f then Some f else None)
        (form_of bytes) else None) ≡ None
    go false e = refl
    go true e = read (form_of bytes) (IsUtf8-from_is_utf8 bytes e) refl

-- nor has one that cannot be read as a manifest, unless memory ran out
pub no_form_of : (bytes : List ℕ) (e : Error) → IsBadManifest bytes e → (IsMemory e → ⊥)
    → document_form bytes ≡ None
no_form_of bytes e (inl unread) other = no_form bytes (λ utf8 form document. unread.1 utf8)
no_form_of bytes e (inr (inl malformed)) other = no_form bytes (λ utf8 form document. malformed.2 form document)
no_form_of bytes e (inr (inr memory)) other = absurd (other memory.0)

-- ---- values

-- what is found is one of the elements, and passes
found_among : {A : Type 0} (p : A → Bool) (xs : List A) (y : A) → find p xs ≡ Some y
    → Among y xs × (p y ≡ true)
found_among p [] y e = absurd (let clash : None ≡ Some y = e in cc)
found_among p (x ∷ xs) y e = go (p x) refl e (found_among p xs y)
  where
    go : (b : Bool) → p x ≡ b → (if b then Some x else find p xs) ≡ Some y
        → (find p xs ≡ Some y → Among y xs × (p y ≡ true)) → Among y (x ∷ xs) × (p y ≡ true)
    go true passes is later = let same : x ≡ y = cc in (inl (sym same), subst (λ z. p z ≡ true) same passes)
    go false fails is later = let rest = later is in (inr rest.0, rest.1)

-- an element that passes is found, or one before it
finds_among : {A : Type 0} (p : A → Bool) (xs : List A) (x : A) → Among x xs → p x ≡ true
    → find p xs ≡ None → ⊥
finds_among p [] x m passes e = m
finds_among p (y ∷ ys) x m passes e = go (p y) refl e (λ more. finds_among p ys x more passes)
  where
    go : (b : Bool) → p y ≡ b → (if b then Some y else find p ys) ≡ None
        → (Among x ys → find p ys ≡ None → ⊥) → ⊥
    go true other is later = let clash : Some y ≡ None = is in cc
    go false other is later = ⊎_elim
        (λ same. let clash : true ≡ false = sym passes ∙ ap p same ∙ other in cc)
        (λ more. later more is) m

-- the value at a place, as a search finds it
abbrev found_at : Text → Place → Option PlacedValue
found_at form place = find (λ w. same_place w.place place) (values form)

-- a value that is written at a place is the one that a search finds there
found_is : (bytes : List ℕ) (form : Text) (place : Place) (w : PlacedValue) → IsDocument bytes form
    → Among w (values form) → w.place ≡ place → found_at form place ≡ Some w
found_is bytes form place w document m there = go (found_at form place) refl
  where
    passes : same_place w.place place ≡ true
    passes = ap (λ (q : Place). same_place q place) there ∙ same_place_self place

    go : (o : Option PlacedValue) → found_at form place ≡ o → found_at form place ≡ Some w
    go None e = absurd (finds_among (λ (v : PlacedValue). same_place v.place place) (values form) w m passes e)
    go (Some v) e =
        let is = found_among (λ (v : PlacedValue). same_place v.place place) (values form) v e in
        e ∙ ap Some (values_unique form v w document.no_clash is.0 m
        (same_place_is v.place place is.1 ∙ sym there))

-- where no value is written a search finds none
found_none : (form : Text) (place : Place) → is_value_at form place ≡ false → found_at form place ≡ None
found_none form place none = go (found_at form place) refl
  where
    go : (o : Option PlacedValue) → found_at form place ≡ o → found_at form place ≡ None
    go None e = e
    go (Some v) e =
        let is = found_among (λ (v : PlacedValue). same_place v.place place) (values form) v e in
        let written = ap (is_value_at form) (sym (same_place_is v.place place is.1))
        ∙ listed_value form v is.0 in
        absurd (let clash : true ≡ false = sym written ∙ none in cc)

-- the start of the range of a value
pub start_is : (bytes : List ℕ) (form : Text) (place : Place) (range : Option (ℕ × ℕ)) → IsDocument bytes form
    → HasRange form place range → option_map (λ r. r.0) range ≡ value_start form (length bytes) place
start_is bytes form place None document none =
    sym (ap (option_map (start_of (length bytes))) (found_none form place none))
start_is bytes form place (Some range) document written =
    ap Some (written.starts
    ∙ ap (λ (t : List ℕ). start_of (length t) written.placed_value) (sym document.grammar.spelled))
    ∙ sym (ap (option_map (start_of (length bytes)))
    (found_is bytes form place written.placed_value document
    (contained_among written.placed_value (values form) written.listed) written.there))

-- ---- lines

-- how many elements of two lists pass
count_append : {A : Type 0} (p : A → Bool) (xs ys : List A)
    → count_by p (xs ++ ys) ≡ count_by p xs + count_by p ys
count_append p xs ys =
    sym (length-filter p (xs ++ ys))
    ∙ ap length (filter-append p xs ys)
    ∙ length-append (filter p xs) (filter p ys)
    ∙ ap₂ (λ m n. m + n) (length-filter p xs) (length-filter p ys)

-- the line of a byte from that of one that is not behind it
line_on : (bytes : List ℕ) (line from at : ℕ) → from ≤ at → line ≡ line_number bytes from
    → line + count_by (λ b. b == 10) (drop from (take at bytes)) ≡ line_number bytes at
line_on bytes line from at before is =
    let parts : take at bytes ≡ take from bytes ++ drop from (take at bytes) =
    sym (take-append-drop from (take at bytes))
    ∙ ap (λ t. t ++ drop from (take at bytes)) (take-take from at bytes before) in
    let counts : count_by (λ b. b == 10) (take at bytes)
    ≡ count_by (λ b. b == 10) (take from bytes) + count_by (λ b. b == 10) (drop from (take at bytes)) =
    ap (count_by (λ b. b == 10)) parts
    ∙ count_append (λ b. b == 10) (take from bytes) (drop from (take at bytes)) in
    omega (arith, is, counts)

-- the same, where the bytes between the two are a slice of those before the second
pub line_after : (bytes front : List ℕ) (line from at start counted : ℕ) → from ≤ at
    → line ≡ line_number bytes from → front ≡ take at bytes → start ≡ min from (length front)
    → counted ≡ count_by (λ b. b == 10) (take (length front - start) (drop start front))
    → line + counted ≡ line_number bytes at
line_after bytes front line from at start counted before is whole begin count =
    ap (λ n. line + n) (count ∙ ap (count_by (λ b. b == 10)) (take_rest front start
    ∙ ap (λ n. drop n front) begin ∙ drop_min from front ∙ ap (drop from) whole))
    ∙ line_on bytes line from at before is

-- the front of a text up to a byte, which may be behind its end
pub front_is : (bytes : List ℕ) (end at : ℕ) → end ≡ min at (length bytes) → take end bytes ≡ take at bytes
front_is bytes end at is = ap (λ n. take n bytes) is ∙ take_min at bytes

-- a line is not past the number of bytes by more than one
pub line_fits : (bytes : List ℕ) (at : ℕ) → line_number bytes at ≤ length bytes + 1
line_fits bytes at =
    let some = count_by-le-length (λ (b : ℕ). b == 10) (take at bytes) in
    let whole = length-take at bytes in
    omega (arith, some, whole)

-- the line of a requirement that begins there
pub line_is : (bytes : List ℕ) (form : Text) (entry : Place) (start : Option ℕ) → IsUtf8 bytes
    → IsDocument bytes form → start ≡ requirement_start form (length bytes) entry
    → option_map (line_number bytes) start ≡ requirement_line bytes entry
unfolding requirement_line
line_is bytes form entry start utf8 document is =
    ap (option_map (line_number bytes)) is
    ∙ sym (ap (λ (o : Option Text). option_map (line_number bytes)
    (option_and_then (λ f. requirement_start f (length bytes) entry) o))
    (form_of_document bytes form utf8 document))

-- no line is known in a text that is no document
pub line_none : (bytes : List ℕ) (entry : Place) → document_form bytes ≡ None
    → requirement_line bytes entry ≡ None
unfolding requirement_line
line_none bytes entry none =
    ap (λ (o : Option Text). option_map (line_number bytes)
    (option_and_then (λ f. requirement_start f (length bytes) entry) o)) none
