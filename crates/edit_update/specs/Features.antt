-- The elements of a manifest's features that refer to a removed dependency (Cargo reference, "Features",
-- "Optional dependencies" and "Dependency features").
use Rattle.std.specs.Prelude.{◌≡◌, ◌⊎◌, ℕ, zero, suc, Bool, true, false, not, ◌&&◌, ◌||◌, if◌then◌else◌, List, [], ◌∷◌, ◌++◌, Option, Some, is_some, codes, nat_eq, option_and_then, unwrap_or}
use Rattle.std.specs.List.{filter, flat_map, list_any, starts_with}
use Rattle.std.specs.Option.{option_map_or}
use Rattle.std.specs.Str.{bytes_eq}
use Rattle.edit_base.specs.declared.errors.Error.{Error}
use Rattle.edit_base.specs.declared.errors.Error.TheVariants.{EditRefused}
use Rattle.edit_base.specs.Errors.{IsMemory}
use Rattle.edit_tree.specs.Assertions.{Place, at, key, index}
use Rattle.edit_document.specs.Items.{string_in, truth_in}
use Rattle.edit_tree.specs.DocumentViews.{DocumentViews, tree_of}
use Rattle.edit_tree.specs.Tree.{View, static_array, table}
use Rattle.edit_update.specs.Removals.{HasFailedRemoval}
use Rattle.edit_manifest.specs.Tables.{Tree, dependency_tables, place_of_keys, member_names}

-- ---- dependency tables of the package

-- a table that is not an inline table
abbrev pub is_plain : Option View → Bool
is_plain (Some (table members)) = true
is_plain _ = false

-- the place is `workspace` or below it
abbrev pub is_in_workspace : Place → Bool
is_in_workspace (key name ∷ steps) = bytes_eq name (codes "workspace")
is_in_workspace _ = false

-- the dependency table belongs to the package itself: it is neither an inline table nor that of the
-- workspace
abbrev pub is_section : Tree → Place → Bool
is_section t place = not (is_in_workspace place) && is_plain (t place)

-- the dependency table belongs to the package itself and has this key
abbrev pub has_section_entry : Tree → List ℕ → Place → Bool
has_section_entry t name place = is_section t place && is_some (t (at place (key name)))

-- the dependency table belongs to the package itself and has an optional entry of this key: its `optional`
-- is true
abbrev pub has_optional_entry : Tree → List ℕ → Place → Bool
has_optional_entry t name place = is_section t place
    && unwrap_or (option_and_then truth_in (t (at (at place (key name)) (key (codes "optional"))))) false

-- some dependency table of the package has this key
abbrev pub has_any_entry : Tree → List ℕ → Bool
has_any_entry t name = list_any (has_section_entry t name) (dependency_tables t)

-- some dependency table of the package has an optional entry of this key
abbrev pub has_any_optional_entry : Tree → List ℕ → Bool
has_any_optional_entry t name = list_any (has_optional_entry t name) (dependency_tables t)

-- ---- elements of features

-- `features`
abbrev pub features : Place
features = place_of_keys (codes "features" ∷ [])

-- the places of the first `n` elements of an array, the last one first
abbrev pub elements_back : Place → ℕ → List Place
elements_back array zero = []
elements_back array (suc n) = at array (index n) ∷ elements_back array n

-- the places of the elements of an item, if it is an array written as a value
abbrev pub elements_of : Place → Option View → List Place
elements_of array (Some (static_array n)) = elements_back array n
elements_of array _ = []

-- An element refers to a removed dependency: it is the key, or, if no dependency table of the package has
-- the key, it begins with the key and a slash.
abbrev pub is_stale : Bool → List ℕ → List ℕ → Bool
is_stale held name text =
    bytes_eq text name || (not held && starts_with nat_eq text (name ++ codes "/"))

-- the item is a string that refers to the removed dependency
abbrev pub is_stale_item : Bool → List ℕ → Option View → Bool
is_stale_item held name view = option_map_or (is_stale held name) (option_and_then string_in view) false

-- the places of the elements of an array that refer to the removed dependency, the last one first
abbrev pub stale_in : Tree → Bool → List ℕ → Place → List Place
stale_in t held name array = filter (λ p. is_stale_item held name (t p)) (elements_of array (t array))

-- the places of such elements of all features, feature by feature, if `features` is a table that is not
-- inline
abbrev pub stale_in_features : Tree → Bool → List ℕ → List Place
stale_in_features t held name =
    if is_plain (t features)
    then flat_map (λ f. stale_in t held name (at features (key f))) (member_names (t features)) else []

-- The places of the elements to remove, in the order of removal: none if some dependency table of the
-- package has an optional entry of this key.
abbrev pub stale_strings : Tree → List ℕ → List Place
stale_strings t name =
    if has_any_optional_entry t name then [] else stale_in_features t (has_any_entry t name) name

-- the errors: lack of memory, or one of the elements cannot be removed
abbrev pub IsFeatureError : List ℕ → DocumentViews → Error → Type 0
IsFeatureError name d e =
    IsMemory e ⊎ ((e ≡ EditRefused) × HasFailedRemoval (stale_strings (tree_of d) name) d.bytes)
