-- The crates of rows with another range than the first row are those that are required in two ranges.
use Rattle.std.proofs.Common.{◌≡◌, ◌∷◌, [], ◌∙◌, Bool, true, false, ℕ, List, Option, Some, None, ap, refl, sym}
use Rattle.std.specs.Prelude.{◌&&◌, ◌||◌, ◌==◌, Contains, if◌then◌else◌, not, option_and_then}
use Rattle.std.specs.List.{cons_option, filter_map, list_any}
use Rattle.std.specs.Option.{option_eq, option_map_or}
use Rattle.std.specs.Str.{bytes_eq}
use Rattle.std.proofs.lemmas.List.Folds.{Any-from_list_any, list_any-from_Any}
use Rattle.std.proofs.lemmas.Slice.Eq.{bytes_eq-Decides}
use Rattle.edit_unify.specs.Apart.{apart_names, is_apart, is_apart_from}
use Rattle.edit_unify.specs.Firsts.{first_caret, is_of, is_other, other_name}
use Rattle.edit_unify.specs.Groups.{crate_of}
use Rattle.edit_unify.specs.Ranges.{Caret, is_same_range, range_of}
use Rattle.edit_unify.specs.Stands.{Required, is_same_crate}
use Rattle.edit_unify.proofs.FirstLemmas.{crate_is, first_is, first_there}
use Rattle.edit_unify.proofs.GroupLemmas.{left, right, same_range}
use Rattle.edit_unify.proofs.UnifyLemmas.{both, same_range_self}

range_from : (a b : Caret) → range_of a ≡ range_of b → is_same_range a b ≡ true
range_from a b is =
    ap (λ (r : Caret). (r.0 == (range_of b).0) && (option_eq (λ m n. m == n) r.1 (range_of b).1
    && option_eq (λ m n. m == n) r.2 (range_of b).2)) is
    ∙ same_range_self b

never : true ≡ false → ⊥
never is = cc is

not_is : (b : Bool) → not b ≡ true → b ≡ false
not_is true is = absurd (cc is)
not_is false is = refl

same_answer : (a b : Bool) → (a ≡ true → b ≡ true) → (b ≡ true → a ≡ true) → a ≡ b
same_answer true true f g = refl
same_answer true false f g = sym (f refl)
same_answer false true f g = g refl
same_answer false false f g = refl

-- a row that passes a test has this name
abbrev named : (Required → Bool) → List ℕ → Option Required → Bool
named p q x = option_map_or (bytes_eq q) (option_and_then (λ o. if p o then Some o.name else None) x) false

named_by : (p : Required → Bool) (q : List ℕ) (o : Required) (t : Bool) → p o ≡ t
    → option_map_or (bytes_eq q) (if t then Some o.name else None) false ≡ true
    → (p o ≡ true) × (bytes_eq q o.name ≡ true)
named_by p q o true passes is = (passes, is)
named_by p q o false passes is = absurd (cc is)

named_from : (p : Required → Bool) (q : List ℕ) (o : Required) → p o ≡ true → bytes_eq q o.name ≡ true
    → named p q (Some o) ≡ true
named_from p q o passes is =
    ap (λ (t : Bool). option_map_or (bytes_eq q) (if t then Some o.name else None) false) passes ∙ is

-- one of the rows passes a test and has this name
record HasNamed (p : Required → Bool) (q : List ℕ) (stands : List (Option Required)) : Type 0 where
  row : Required
  among : Contains stands (Some row)
  passes : p row ≡ true
  name_is : bytes_eq q row.name ≡ true

has_named_at : (p : Required → Bool) (q : List ℕ) (stands : List (Option Required)) (x : Option Required)
    → Contains stands x → named p q x ≡ true → HasNamed p q stands
has_named_at p q stands None has is = absurd (cc is)
has_named_at p q stands (Some o) has is = let r = named_by p q o (p o) refl is in record {
  row = o;
  among = has;
  passes = r.0;
  name_is = r.1;
}

any_from : {X : Type 0} (t : X → Bool) (xs : List X) (x : X) → Contains xs x → t x ≡ true
    → list_any t xs ≡ true
any_from t xs x has is = list_any-from_Any t xs (has.0, x, has.1, has.2, is)

named_step : (p : Required → Bool) (q : List ℕ) (o : Option (List ℕ)) (names : List (List ℕ)) (b : Bool)
    → list_any (bytes_eq q) names ≡ b
    → list_any (bytes_eq q) (cons_option o names) ≡ (option_map_or (bytes_eq q) o false || b)
named_step p q None names b is = is
named_step p q (Some name) names b is = ap (λ c. bytes_eq q name || c) is

-- a name is among those of the rows that pass a test
named_any : (p : Required → Bool) (q : List ℕ) (stands : List (Option Required))
    → list_any (bytes_eq q) (filter_map (option_and_then (λ o. if p o then Some o.name else None)) stands)
    ≡ list_any (named p q) stands
named_any p q [] = refl
named_any p q (x ∷ stands) =
    named_step p q (option_and_then (λ o. if p o then Some o.name else None) x)
    (filter_map (option_and_then (λ o. if p o then Some o.name else None)) stands)
    (list_any (named p q) stands) (named_any p q stands)

-- a test that passes a row passes one of the same name for each that another test passes
along : (p r : Required → Bool) (q : List ℕ) (stands : List (Option Required))
    → ((o : Required) → Contains stands (Some o) → p o ≡ true → HasNamed r o.name stands)
    → list_any (named p q) stands ≡ true → list_any (named r q) stands ≡ true
along p r q stands each is =
    let found = Any-from_list_any (named p q) stands is in
    let h = has_named_at p q stands found.1 (found.0, found.2, found.3) found.4 in
    let other = each h.row h.among h.passes in
    let name : h.row.name ≡ other.row.name = (bytes_eq-Decides h.row.name other.row.name).0 other.name_is in
    any_from (named r q) stands (Some other.row) other.among
    (named_from r q other.row other.passes (ap (bytes_eq q) (sym name) ∙ h.name_is))

-- a row that another one requires in another range
other_at : (o : Required) (stands : List (Option Required)) (x : Option Required) → Contains stands x
    → is_apart_from o x ≡ true
    → (b : Required) × Contains stands (Some b) × (is_same_crate o b ≡ true)
    × (is_same_range o.caret b.caret ≡ false)
other_at o stands None has is = absurd (cc is)
other_at o stands (Some b) has is =
    (b, has, left _ _ is, not_is (is_same_range o.caret b.caret) (right (is_same_crate o b) _ is))

same_name : (o : Required) → bytes_eq o.name o.name ≡ true
same_name o = (bytes_eq-Decides o.name o.name).1 refl

is_false : (t : Bool) → (t ≡ true → ⊥) → t ≡ false
is_false true refuted = absurd (refuted refl)
is_false false refuted = refl

apart_range : (caret : Caret) (o row : Required) → row.caret ≡ caret → is_same_range caret o.caret ≡ false
    → is_same_range o.caret row.caret ≡ false
apart_range caret o row row_is other =
    is_false (is_same_range o.caret row.caret) (λ same. never (sym (range_from caret o.caret
    (ap range_of (sym row_is) ∙ sym (same_range o.caret row.caret same))) ∙ other))

-- a row with another range than the first one is apart from that
apart_by : (stands : List (Option Required)) (o : Required) (first : Option Caret)
    → first_caret stands (crate_of o) ≡ first
    → option_map_or (λ caret. not (is_same_range caret o.caret)) first false ≡ true
    → is_apart o stands ≡ true
apart_by stands o None is other = absurd (cc other)
apart_by stands o (Some caret) is other =
    let r = first_is (crate_of o) stands caret is in
    any_from (is_apart_from o) stands (Some r.row) r.among
    (both _ _ r.of (ap not (apart_range caret o r.row r.caret_is (not_is _ other))))

own_crate : (o : Required) → is_of (crate_of o) o ≡ true
own_crate o = both _ _ (same_name o) ((bytes_eq-Decides o.address o.address).1 refl)

third_range : (a b c : Caret) → is_same_range a b ≡ true → is_same_range b c ≡ false
    → is_same_range a c ≡ false
third_range a b c same differ =
    is_false (is_same_range a c) (λ is. never (sym (range_from b c
    (sym (same_range a b same) ∙ same_range a c is)) ∙ differ))

other_passes : (stands : List (Option Required)) (o : Required) (caret : Caret)
    → first_caret stands (crate_of o) ≡ Some caret → is_same_range caret o.caret ≡ false
    → is_other (first_caret stands) o ≡ true
other_passes stands o caret first differ =
    ap (λ f. option_map_or (λ c. not (is_same_range c o.caret)) f false) first ∙ ap not differ

-- where a row is apart from another one, one of both has another range than the first
one_differs : (stands : List (Option Required)) (o b : Required) (caret : Caret) (t : Bool)
    → Contains stands (Some o) → Contains stands (Some b) → is_same_crate o b ≡ true
    → is_same_range o.caret b.caret ≡ false → first_caret stands (crate_of o) ≡ Some caret
    → is_same_range caret o.caret ≡ t → HasNamed (is_other (first_caret stands)) o.name stands
one_differs stands o b caret true has_o has_b same differ first is = record {
  row = b;
  among = has_b;
  passes = other_passes stands b caret (ap (first_caret stands) (sym (crate_is (crate_of o) b same)) ∙ first)
      (third_range caret o.caret b.caret is differ);
  name_is = left _ _ same;
}
one_differs stands o b caret false has_o has_b same differ first is = record {
  row = o;
  among = has_o;
  passes = other_passes stands o caret first is;
  name_is = same_name o;
}

first_differs : (stands : List (Option Required)) (o b : Required) (first : Option Caret)
    → Contains stands (Some o) → Contains stands (Some b) → is_same_crate o b ≡ true
    → is_same_range o.caret b.caret ≡ false → first_caret stands (crate_of o) ≡ first
    → HasNamed (is_other (first_caret stands)) o.name stands
first_differs stands o b None has_o has_b same differ is =
    absurd (first_there (crate_of o) o stands (own_crate o) has_o is)
first_differs stands o b (Some caret) has_o has_b same differ is =
    one_differs stands o b caret (is_same_range caret o.caret) has_o has_b same differ is refl

apart_differs : (stands : List (Option Required)) (o : Required) → Contains stands (Some o)
    → is_apart o stands ≡ true → HasNamed (is_other (first_caret stands)) o.name stands
apart_differs stands o has is =
    let found = Any-from_list_any (is_apart_from o) stands is in
    let b = other_at o stands found.1 (found.0, found.2, found.3) found.4 in
    first_differs stands o b.0 (first_caret stands (crate_of o)) has b.1 b.2 b.3 refl

differs_apart : (stands : List (Option Required)) (o : Required) → Contains stands (Some o)
    → is_other (first_caret stands) o ≡ true → HasNamed (λ x. is_apart x stands) o.name stands
differs_apart stands o has is = record {
  row = o;
  among = has;
  passes = apart_by stands o (first_caret stands (crate_of o)) refl is;
  name_is = same_name o;
}

-- a name is that of a row with another range than the first one, or of one that is apart from another one
pub other_names : (q : List ℕ) (stands : List (Option Required))
    → list_any (bytes_eq q) (filter_map (other_name (first_caret stands)) stands)
    ≡ list_any (bytes_eq q) (apart_names stands)
other_names q stands =
    let other = is_other (first_caret stands) in
    let apart = λ (x : Required). is_apart x stands in
    named_any other q stands
    ∙ same_answer (list_any (named other q) stands) (list_any (named apart q) stands)
    (along other apart q stands (differs_apart stands)) (along apart other q stands (apart_differs stands))
    ∙ sym (named_any apart q stands)
