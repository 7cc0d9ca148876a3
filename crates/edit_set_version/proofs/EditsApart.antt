-- The edits of a plan in a manifest are at distinct places, none inside another.
use Rattle.std.proofs.Common.{◌≡◌, ◌≢◌, ◌∙◌, ℕ, Bool, true, false, List, [], ◌∷◌, ◌++◌, Option, Some, None, map, refl, ap, ap₂, sym, subst, inl, inr}
use Rattle.std.specs.Prelude.{codes, option_and_then}
use Rattle.std.specs.List.{AllByRecursion, filter, filter_map, flat_map}
use Rattle.std.proofs.lemmas.Bool.{cases_Bool}
use Rattle.std.proofs.lemmas.List.{map-append}
use Rattle.semver.specs.Identifiers.{parts_text}
use Rattle.semver.specs.Parse.{Parts}
use Rattle.edit_syntax.specs.Grammar.{Text}
use Rattle.edit_document.specs.Items.{string_in}
use Rattle.edit_tree.specs.Assertions.{Place, at, key, same_bytes, same_place}
use Rattle.edit_tree.specs.Replaces.{AreDistinct, AreOutside, AreStrings, AreValues, Edits, is_below, is_below_any, is_string}
use Rattle.edit_tree.specs.Tree.{View, is_value_at, string, view_at}
use Rattle.edit_tree.proofs.ReplacedStrings.{strings_values}
use Rattle.edit_tree.proofs.SamePlace.{same_place_is, same_place_self}
use Rattle.edit_manifest.specs.Entries.{Entry, entries as recorded, entries_of, entry_at, literal_at}
use Rattle.edit_manifest.proofs.EntriesApart.{Differ, IsEntryOf, entries-apart, entries-of, same_literal}
use Rattle.edit_manifest.specs.Tables.{Tree, dependency_tables, place_of_keys, member_names}
use Rattle.edit_manifest.specs.Versions.{package_version, shared_version, version_member, workspace_version}
use Rattle.edit_set_version.specs.Apart.{AreApart}
use Rattle.edit_set_version.specs.Entries.{entries, entries_in, requirement, text_at}
use Rattle.edit_set_version.specs.SetVersioned.{Bump, Dependent, edits_by, next_at, dependent, dependents, own_edit, requirement_edit, raised_dependent_text, shared_edits, writes_own}
use Rattle.edit_set_version.proofs.Clear.{IsWritten, entry, entry_clear, member_below, member_clear, own, own_apart, shared_clear, whole, whole_apart}
use Rattle.edit_set_version.proofs.DependentLaw.{dependent_parts, required}
use Rattle.edit_set_version.proofs.OwnBump.{own_distinct, own_edits}
use Rattle.edit_set_version.proofs.TablePlaces.{IsEntry, IsTable, all_append, entries_shaped}
use Rattle.edit_set_version.proofs.WrittenPlaces.{all_every, all_filter_map, all_then, all_written, below_none, edit_at, edits_by_entry, entry_edits, new_at, option_cases, own_at, same_entry, shared_all}

-- ---- none inside another

-- what is written is not below what is written
outside : (e q : Place) → IsWritten e → IsWritten q → is_below e q ≡ false
outside e _ w own =
    member_below e (place_of_keys (codes "package" ∷ [])) (key (codes "version")) (member_clear e (codes "package") w)
outside e _ w whole =
    member_below e (place_of_keys (codes "workspace" ∷ codes "package" ∷ [])) (key (codes "version"))
    (shared_clear e w)
outside e _ w (entry table name shape) =
    member_below e (at table (key name)) (key (codes "version")) (entry_clear e table name w shape)

-- so it is with all that is written
pub edits_outside : (root : List ℕ) (next : Option Parts) (bs : List Bump) (file : List ℕ) (t : Tree)
    → AreOutside (edits_by root next bs file t)
edits_outside root next bs file t =
    all_then (λ e. IsWritten e.0) (λ e. is_below_any es e.0 ≡ false)
    (λ e w. below_none es e.0
    (all_then (λ f. IsWritten f.0) (λ f. is_below f.0 e.0 ≡ false) (λ f v. outside f.0 e.0 v w) es all)) es all
  where
    es : Edits
    es = edits_by root next bs file t

    all : AllByRecursion (λ e. IsWritten e.0) es
    all = all_written root next bs file t

-- ---- the entries differ

-- what holds of elements that two facts hold of holds of what is made of them
all_made : {A B : Type 0} (P Q : A → Type 0) (R : B → Type 0) (f : A → B)
    → ((x : A) → P x → Q x → R (f x)) → (xs : List A) → AllByRecursion P xs → AllByRecursion Q xs
    → AllByRecursion R (map f xs)
all_made P Q R f h [] a b = tt
all_made P Q R f h (x ∷ xs) a b = (h x a.0 b.0, all_made P Q R f h xs a.1 b.1)

-- elements that differ by one test are made into elements that differ by another
differ_made : {A B : Type 0} (P : A → Type 0) (same : A → A → Bool) (other : B → B → Bool) (f : A → B)
    → ((x y : A) → P x → P y → same x y ≡ false → other (f x) (f y) ≡ false) → (xs : List A)
    → AllByRecursion P xs → Differ same xs → Differ other (map f xs)
differ_made P same other f h [] all d = tt
differ_made P same other f h (x ∷ xs) all d = (
  all_made P (λ y. same x y ≡ false) (λ z. other (f x) z ≡ false) f (λ y p differs. h x y all.0 p differs) xs
      all.1 d.0,
  differ_made P same other f h xs all.1 d.1,
)

-- the places of the entries of a table
table_places : (t : Tree) (root : List ℕ) (table : Place) (names : List (List ℕ))
    → map (λ (e : Entry). e.place) (map (entry_at t root table) names) ≡ map (λ name. at table (key name)) names
table_places t root table [] = refl
table_places t root table (n ∷ ns) =
    ap (λ (qs : List Place). at table (key n) ∷ qs) (table_places t root table ns)

-- those of all tables
places_of : (t : Tree) (root : List ℕ) (tables : List Place)
    → map (λ (e : Entry). e.place) (flat_map (entries_of t root) tables) ≡ flat_map (entries_in t) tables
places_of t root [] = refl
places_of t root (table ∷ tables) =
    map-append (λ (e : Entry). e.place) (entries_of t root table) (flat_map (entries_of t root) tables)
    ∙ ap₂ (λ (ps qs : List Place). ps ++ qs) (table_places t root table (member_names (t table)))
    (places_of t root tables)

-- entries with different literals stand at different places
place_differs : (t : Tree) (root : List ℕ) (e f : Entry) → IsEntryOf t root e → IsEntryOf t root f
    → same_literal e f ≡ false → same_place e.place f.place ≡ false
place_differs t root e f is_e is_f other = elim (cases_Bool (same_place e.place f.place)) [
  | inl same ↦
      let there : e.literal ≡ f.literal
      = literal_of e is_e ∙ ap (literal_at t) (same_place_is e.place f.place same) ∙ sym (literal_of f is_f) in
      let back : false ≡ true
      = sym other ∙ (ap (same_place e.literal) (sym there) ∙ same_place_self e.literal) in
      cc back
  | inr differs ↦ differs
]
  where
    literal_of : (x : Entry) → IsEntryOf t root x → x.literal ≡ literal_at t x.place
    literal_of x is =
        ap (λ (y : Entry). y.literal) is.is ∙ sym (ap (λ (y : Entry). literal_at t y.place) is.is)

-- the entries of a manifest stand at different places
entries_differ : (form : Text) → Differ same_place (entries (view_at form))
entries_differ form =
    subst (Differ same_place) (places_of (view_at form) [] (dependency_tables (view_at form)))
    (differ_made (IsEntryOf (view_at form) []) same_literal same_place (λ e. e.place)
    (place_differs (view_at form) []) (recorded (view_at form) []) (entries-of (view_at form) [])
    (entries-apart form []))

-- ---- what is written of them differs

-- members of different entries
members_differ : (q p : Place) → same_place q p ≡ false
    → same_place (version_member q) (version_member p) ≡ false
members_differ q p other = elim (cases_Bool (same_place (version_member q) (version_member p))) [
  | inl same ↦
      let back : false ≡ true
      = sym other ∙ (ap (same_place q) (sym (same_entry q p same)) ∙ same_place_self q) in
      cc back
  | inr differs ↦ differs
]

-- where it stands
pub edit_place : (p : Place) (o : Option (List ℕ)) (y : Place × List ℕ) → edit_at p o ≡ Some y
    → version_member p ≡ y.0
edit_place p None y h = cc h
edit_place p (Some s) y h = cc h

-- the requirements of entries that differ
requirements_differ : (new : Place → Option (List ℕ)) (qs : List Place) → Differ same_place qs
    → AreDistinct (entry_edits new qs)
requirements_differ new [] d = tt
requirements_differ new (q ∷ qs) d = elim (option_cases (new q)) [
  | inl none ↦ rw none (requirements_differ new qs d.1)
  | inr some ↦ rw some.1 (
    all_filter_map (λ p. same_place q p ≡ false) (λ e. same_place (version_member q) e.0 ≡ false)
        (λ p. edit_at p (new p))
        (λ p other y is. subst (λ (z : Place). same_place (version_member q) z ≡ false)
        (edit_place p (new p) y is) (members_differ q p other)) qs d.0,
    requirements_differ new qs d.1,
  )
]

-- ---- all of it differs

-- two parts that differ
parts_distinct : (xs ys : Edits) → AreDistinct xs → AreDistinct ys
    → AllByRecursion (λ x. AllByRecursion (λ y. same_place x.0 y.0 ≡ false) ys) xs → AreDistinct (xs ++ ys)
parts_distinct [] ys a b c = b
parts_distinct (x ∷ xs) ys a b c =
    (all_append (λ y. same_place x.0 y.0 ≡ false) xs ys a.0 c.0, parts_distinct xs ys a.1 b c.1)

-- at most one is that of the workspace
shared_distinct : (is_root : Bool) (next : Option Parts) → AreDistinct (shared_edits is_root next)
shared_distinct true None = tt
shared_distinct true (Some v) = (tt, tt)
shared_distinct false next = tt

-- a place that is that of no entry's requirement
abbrev IsElsewhere : Place → Type 0
IsElsewhere place =
    (table : Place) (name : List ℕ) → IsTable table
    → same_place place (version_member (at table (key name))) ≡ false

-- differs from those that are written
requirements_elsewhere : (place : Place) (bs : List Bump) (file : List ℕ) (t : Tree) → IsElsewhere place
    → AllByRecursion (λ y. same_place place y.0 ≡ false) (filter_map requirement_edit (dependents bs file t))
requirements_elsewhere place bs file t apart =
    subst (AllByRecursion (λ y. same_place place y.0 ≡ false)) (sym (edits_by_entry bs file t (entries t)))
    (all_filter_map IsEntry (λ y. same_place place y.0 ≡ false) (λ p. edit_at p (new_at bs file t p))
    (λ p is y e. subst (λ (z : Place). same_place place z ≡ false)
    (sym (ap version_member is.is) ∙ edit_place p (new_at bs file t p) y e)
    (apart is.table is.name is.shape)) (entries t) (entries_shaped t))

-- what is written into a manifest stands at different places
pub edits_distinct : (root : List ℕ) (next : Option Parts) (bs : List Bump) (file : List ℕ) (form : Text)
    → AreApart bs → AreDistinct (edits_by root next bs file (view_at form))
edits_distinct root next bs file form apart =
    parts_distinct (shared_edits is_root next) (owns ++ reqs) (shared_distinct is_root next)
    (parts_distinct owns reqs (own_distinct file bs apart) reqs_distinct
    (all_filter_map (λ b. Unit {0}) (λ x. AllByRecursion (λ y. same_place x.0 y.0 ≡ false) reqs)
    (own_edit file)
    (λ b none x e. subst (λ (z : Place). AllByRecursion (λ y. same_place z y.0 ≡ false) reqs)
    (own_at file b x e) (requirements_elsewhere package_version bs file t own_apart))
    bs (all_every (λ b. Unit {0}) (λ b. tt) bs)))
    (shared_all (λ x. AllByRecursion (λ y. same_place x.0 y.0 ≡ false) (owns ++ reqs))
    (λ s. all_append (λ y. same_place shared_version y.0 ≡ false) owns reqs
    (all_filter_map (λ b. Unit {0}) (λ y. same_place shared_version y.0 ≡ false) (own_edit file)
    (λ b none y e. subst (λ (z : Place). same_place shared_version z ≡ false) (own_at file b y e) refl)
    bs (all_every (λ b. Unit {0}) (λ b. tt) bs))
    (requirements_elsewhere shared_version bs file t whole_apart)) is_root next)
  where
    t : Tree
    t = view_at form

    is_root : Bool
    is_root = same_bytes file root

    owns : Edits
    owns = filter_map (own_edit file) bs

    reqs : Edits
    reqs = filter_map requirement_edit (dependents bs file t)

    reqs_distinct : AreDistinct reqs
    reqs_distinct =
        subst AreDistinct (sym (edits_by_entry bs file t (entries t)))
        (requirements_differ (new_at bs file t) (entries t) (entries_differ form))
