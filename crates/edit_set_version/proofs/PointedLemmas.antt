-- The requirements on bumped crates are those of the path dependencies whose paths name one.
use Rattle.std.proofs.Common.{◌≡◌, ℕ, List, [], ◌∷◌, ◌++◌, map, Option, Some, None, refl, ap, ◌∙◌, sym}
use Rattle.std.specs.Prelude.{option_and_then, option_map, option_to_list}
use Rattle.std.specs.List.{cons_option, filter_map, flat_map}
use Rattle.std.proofs.lemmas.List.Elements.{filter_map-append}
use Rattle.semver.specs.Parse.{Parts}
use Rattle.edit_tree.specs.Assertions.{Place, at, key}
use Rattle.edit_manifest.specs.Tables.{Tree, dependency_tables, member_names}
use Rattle.edit_set_version.specs.Entries.{entries_in, path_member, requirement, text_at}
use Rattle.edit_set_version.specs.Folders.{resolve_folder}
use Rattle.edit_set_version.specs.PathDependency.{dependent_by_path, path_dependencies, path_dependency_at, path_dependencies_in, path_dependency_named, path_dependency_with}
use Rattle.edit_set_version.specs.SetVersioned.{Bump, Dependent, dependent, dependent_at, dependents, next_in}
use Rattle.edit_set_version.proofs.EntriesStay.{flat_same}

-- ---- lists of at most one element

pub cons_one : {B : Type 0} (o : Option B) (ys : List B) → option_to_list o ++ ys ≡ cons_option o ys
cons_one None ys = refl
cons_one (Some y) ys = refl

pub alone : {B : Type 0} (o : Option B) → cons_option o [] ≡ option_to_list o
alone None = refl
alone (Some y) = refl

one : {A B : Type 0} (f : A → Option B) (o : Option A)
    → filter_map f (option_to_list o) ≡ option_to_list (option_and_then f o)
one f None = refl
one f (Some x) = alone (f x)

-- what is left of parts in a row
flat : {A B C : Type 0} (g : B → Option C) (f : A → List B) (xs : List A)
    → filter_map g (flat_map f xs) ≡ flat_map (λ x. filter_map g (f x)) xs
flat g f [] = refl
flat {A} {B} {C} g f (x ∷ xs) =
    filter_map-append g (f x) (flat_map f xs)
    ∙ ap (λ (ys : List C). filter_map g (f x) ++ ys) (flat g f xs)

-- ---- an entry

-- the requirement with the next version
next_one : (place : Place) (text : List ℕ) (next : Option Parts)
    → option_map (λ (v : Parts). record { place = place; text = text; next = v }) next
    ≡ dependent_at place (Some text) next
next_one place text None = refl
next_one place text (Some v) = refl

-- with both texts, or without one of them
led_with : (bs : List Bump) (file : List ℕ) (place : Place) (text path : Option (List ℕ))
    → option_and_then (dependent_by_path bs file) (path_dependency_with place text path)
    ≡ dependent_at place text (option_and_then (next_in bs) (option_map (resolve_folder file) path))
led_with bs file place None None = refl
led_with bs file place None (Some path) = refl
led_with bs file place (Some text) None = refl
led_with bs file place (Some text) (Some path) = next_one place text (next_in bs (resolve_folder file path))

-- an entry of a table
named_led : (bs : List Bump) (file : List ℕ) (t : Tree) (table : Place) (name : List ℕ)
    → filter_map (dependent_by_path bs file) (path_dependency_named t table name)
    ≡ option_to_list (dependent bs file t (at table (key name)))
named_led bs file t table name =
    let place = at table (key name) in
    one (dependent_by_path bs file) (path_dependency_at t place)
    ∙ ap (λ (o : Option Dependent). option_to_list o)
    (led_with bs file place (requirement t place) (text_at t (path_member place)))

-- ---- tables

-- the members that give something, one by one
members_given : (f : Place → Option Dependent) (table : Place) (names : List (List ℕ))
    → flat_map (λ name. option_to_list (f (at table (key name)))) names
    ≡ filter_map f (map (λ name. at table (key name)) names)
members_given f table [] = refl
members_given f table (n ∷ ns) =
    ap (λ (ys : List Dependent). option_to_list (f (at table (key n))) ++ ys) (members_given f table ns)
    ∙ cons_one (f (at table (key n))) (filter_map f (map (λ name. at table (key name)) ns))

-- the entries of a table
table_led : (bs : List Bump) (file : List ℕ) (t : Tree) (table : Place)
    → filter_map (dependent_by_path bs file) (path_dependencies_in t table)
    ≡ filter_map (dependent bs file t) (entries_in t table)
table_led bs file t table =
    flat (dependent_by_path bs file) (path_dependency_named t table) (member_names (t table))
    ∙ flat_same (λ name. filter_map (dependent_by_path bs file) (path_dependency_named t table name))
    (λ name. option_to_list (dependent bs file t (at table (key name)))) (named_led bs file t table)
    (member_names (t table))
    ∙ members_given (dependent bs file t) table (member_names (t table))

-- those of a manifest
pub dependents_pointed : (bs : List Bump) (file : List ℕ) (t : Tree)
    → dependents bs file t ≡ filter_map (dependent_by_path bs file) (path_dependencies t)
dependents_pointed bs file t =
    flat (dependent bs file t) (entries_in t) (dependency_tables t)
    ∙ sym (flat_same (λ table. filter_map (dependent_by_path bs file) (path_dependencies_in t table))
    (λ table. filter_map (dependent bs file t) (entries_in t table)) (table_led bs file t)
    (dependency_tables t))
    ∙ sym (flat (dependent_by_path bs file) (path_dependencies_in t) (dependency_tables t))
