-- A map of the first row of each crate, and the names of the rows that have another range than it.
use Rattle.std.proofs.Common.{◌≡◌, ◌∷◌, [], ◌∙◌, ⊎_elim, Bool, true, false, List, Option, Some, None, ap, option_map, refl, sym}
use Rattle.std.specs.Prelude.{◌&&◌, ◌==◌, Contains, if◌then◌else◌, not}
use Rattle.std.specs.BTreeMap.{BTreeMap, get, get_by, is_at}
use Rattle.std.specs.Cmp.{both_tied}
use Rattle.std.specs.List.{fold}
use Rattle.std.specs.Option.{option_eq}
use Rattle.std.specs.Ordering.{is_eq}
use Rattle.std.specs.declared.cmp.Ordering.{Ordering}
use Rattle.std.proofs.lemmas.List.Folds.{fold_stays}
use Rattle.std.proofs.lemmas.Map.Text.{is_eq-slice_cmp}
use Rattle.std.proofs.lemmas.Slice.Eq.{bytes_eq-Decides}
use Rattle.edit_unify.specs.Firsts.{caret_for, first_caret, first_or, is_of}
use Rattle.edit_unify.specs.Groups.{CrateAt, crate_cmp, crate_of, crate_view}
use Rattle.edit_unify.specs.Ranges.{Caret, is_same_range, numbers_of, range_of}
use Rattle.edit_unify.specs.Stands.{Required, stand_view}
use Rattle.edit_unify.specs.declared.groups.RegistryCrate.{RegistryCrate}
use Rattle.edit_unify.specs.declared.ranges.Numbers.{Numbers}
use Rattle.edit_unify.specs.declared.stands.Stand.{Stand}
use Rattle.edit_unify.proofs.ApartLemmas.{same_swap}
use Rattle.edit_unify.proofs.GroupLemmas.{left, right}
use Rattle.edit_unify.proofs.LeaderLemmas.{first_or_rest, has_first, has_more, none_in, none_is, some_is}

-- the order of the keys of a map
abbrev pub crates_cmp : RegistryCrate → RegistryCrate → Ordering
crates_cmp a b = crate_cmp (crate_view a) (crate_view b)

-- a key of a map for a crate
abbrev key_of : CrateAt → RegistryCrate
key_of krate = record {
  name = record { ref_ptr = (0, 0); now = krate.0 };
  address = record { ref_ptr = (0, 0); now = krate.1 };
}

-- a map takes the crate of a row for this one where the row requires it
key_tied : (krate : CrateAt) (row : Required) → is_eq (crate_cmp (crate_of row) krate) ≡ is_of krate row
key_tied krate row =
    sym (both_tied _ _ _ _ (sym (is_eq-slice_cmp row.name krate.0))
    (sym (is_eq-slice_cmp row.address krate.1)))
    ∙ (λ i. same_swap row.name krate.0 i && same_swap row.address krate.1 i)

-- a row of another crate
first_or_past : (krate : CrateAt) (row : Required) (first : Option Caret) → is_of krate row ≡ false
    → first_or krate first (Some row) ≡ first
first_or_past krate row None other = ap (λ (b : Bool). if b then Some row.caret else None) other
first_or_past krate row (Some caret) other = refl

-- a row of the crate, the first one
first_or_here : (krate : CrateAt) (row : Required) (first : Option Caret) → first ≡ None
    → is_of krate row ≡ true → first_or krate first (Some row) ≡ Some row.caret
first_or_here krate row first none is =
    ap (λ f. first_or krate f (Some row)) none ∙ ap (λ (b : Bool). if b then Some row.caret else None) is

pub crate_is : (krate : CrateAt) (row : Required) → is_of krate row ≡ true → krate ≡ crate_of row
crate_is krate row is =
    let name : krate.0 ≡ row.name = (bytes_eq-Decides krate.0 row.name).0 (left _ _ is) in
    let address : krate.1 ≡ row.address = (bytes_eq-Decides krate.1 row.address).0 (right _ _ is) in
    λ i. (name i, address i)

map_if : (t : Bool) (n : Numbers) (o : Option Numbers)
    → option_map numbers_of (if t then Some n else o)
    ≡ (if t then Some (numbers_of n) else option_map numbers_of o)
map_if true n o = refl
map_if false n o = refl

added_by : (krate : CrateAt) (row : Required) (old new : BTreeMap RegistryCrate Numbers) (t : Bool)
    → is_of krate row ≡ t → caret_for old (crate_of row) ≡ None
    → caret_for new krate ≡ (if t then Some row.caret else caret_for old krate)
    → caret_for new krate ≡ first_or krate (caret_for old krate) (Some row)
added_by krate row old new true is none has =
    has ∙ sym (first_or_here krate row (caret_for old krate)
    (ap (caret_for old) (crate_is krate row is) ∙ none) is)
added_by krate row old new false is none has = has ∙ sym (first_or_past krate row (caret_for old krate) is)

-- the first row of its crate is added to a map
pub first_added : (krate : CrateAt) (stand : Stand) (old new : BTreeMap RegistryCrate Numbers)
    (key : RegistryCrate) → crate_view key ≡ crate_of (stand_view stand)
    → get_by (crates_cmp key) old ≡ None
    → ((q : RegistryCrate) → get crates_cmp new q
    ≡ (if is_at (crates_cmp key) q then Some stand.numbers else get crates_cmp old q))
    → caret_for new krate ≡ first_or krate (caret_for old krate) (Some (stand_view stand))
first_added krate stand old new key of none put =
    let row = stand_view stand in
    added_by krate row old new (is_of krate row) refl
    (ap (caret_for old) (sym of) ∙ ap (option_map numbers_of) none)
    (ap (option_map numbers_of) (put (key_of krate))
    ∙ map_if (is_eq (crate_cmp (crate_view key) krate)) stand.numbers
    (get_by (λ k. crate_cmp krate (crate_view k)) old)
    ∙ ap (λ (t : Bool). if t then Some row.caret else caret_for old krate)
    (ap (λ k. is_eq (crate_cmp k krate)) of ∙ key_tied krate row))

-- ranges are compared by their numbers
pub other_range : (a b : Numbers) (x y : Caret) → numbers_of a ≡ range_of x → numbers_of b ≡ range_of y
    → not ((a.major == b.major) && (option_eq (λ m n. m == n) a.minor b.minor
    && option_eq (λ m n. m == n) a.patch b.patch)) ≡ not (is_same_range x y)
other_range a b x y a_is b_is = λ i.
    let p = a_is i in
    let q = b_is i in
    not ((p.0 == q.0) && (option_eq (λ m n. m == n) p.1 q.1 && option_eq (λ m n. m == n) p.2 q.2))

-- the first row of a crate is one of the rows
pub record IsFirst (krate : CrateAt) (stands : List (Option Required)) (caret : Caret) : Type 0 where
  pub row : Required
  pub among : Contains stands (Some row)
  pub of : is_of krate row ≡ true
  pub caret_is : row.caret ≡ caret

first_stays : (krate : CrateAt) (caret : Caret) (row : Option Required)
    → first_or krate (Some caret) row ≡ Some caret
first_stays krate caret None = refl
first_stays krate caret (Some row) = refl

later_first : (krate : CrateAt) (row : Option Required) (stands : List (Option Required)) (caret : Caret)
    → IsFirst krate stands caret → IsFirst krate (row ∷ stands) caret
later_first krate row stands caret r = record {
  row = r.row;
  among = has_more row (Some r.row) stands r.among;
  of = r.of;
  caret_is = r.caret_is;
}

first_by : (krate : CrateAt) (row : Required) (stands : List (Option Required)) (caret : Caret) (t : Bool)
    → is_of krate row ≡ t → (first_caret stands krate ≡ Some caret → IsFirst krate stands caret)
    → fold (first_or krate) (if t then Some row.caret else None) stands ≡ Some caret
    → IsFirst krate (Some row ∷ stands) caret
first_by krate row stands caret true of rest is = record {
  row = row;
  among = has_first (Some row) stands;
  of = of;
  caret_is = some_is row.caret caret
      (sym (fold_stays (first_or krate) (Some row.caret) (first_stays krate row.caret) stands) ∙ is);
}
first_by krate row stands caret false of rest is = later_first krate (Some row) stands caret (rest is)

pub first_is : (krate : CrateAt) (stands : List (Option Required)) (caret : Caret)
    → first_caret stands krate ≡ Some caret → IsFirst krate stands caret
first_is krate [] caret is = absurd (none_is caret is)
first_is krate (None ∷ stands) caret is = later_first krate None stands caret (first_is krate stands caret is)
first_is krate (Some row ∷ stands) caret is =
    first_by krate row stands caret (is_of krate row) refl (λ rest. first_is krate stands caret rest) is

never : true ≡ false → ⊥
never is = cc is

there_by : (krate : CrateAt) (row x : Required) (stands : List (Option Required)) (t : Bool)
    → is_of krate row ≡ t → is_of krate x ≡ true → Contains (Some row ∷ stands) (Some x)
    → (Contains stands (Some x) → first_caret stands krate ≡ None → ⊥)
    → fold (first_or krate) (if t then Some row.caret else None) stands ≡ None → ⊥
there_by krate row x stands true is of has rest none =
    none_is row.caret (sym none
    ∙ fold_stays (first_or krate) (Some row.caret) (first_stays krate row.caret) stands)
there_by krate row x stands false is of has rest none =
    ⊎_elim (λ e. never (sym of ∙ ap (is_of krate) (sym (some_is row x e)) ∙ is)) (λ later. rest later none)
    (first_or_rest (Some row) (Some x) stands has)

-- a crate that a row requires has a first row
pub first_there : (krate : CrateAt) (x : Required) (stands : List (Option Required)) → is_of krate x ≡ true
    → Contains stands (Some x) → first_caret stands krate ≡ None → ⊥
first_there krate x [] of has none = none_in (Some x) has
first_there krate x (None ∷ stands) of has none =
    ⊎_elim (λ e. none_is x e) (λ later. first_there krate x stands of later none)
    (first_or_rest None (Some x) stands has)
first_there krate x (Some row ∷ stands) of has none =
    there_by krate row x stands (is_of krate row) refl of has
    (λ later rest. first_there krate x stands of later rest) none
