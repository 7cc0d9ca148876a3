-- The edits of a plan in a manifest are at existing values.
use Rattle.std.proofs.Common.{◌≡◌, ◌≢◌, ◌∙◌, ℕ, Bool, true, false, List, [], ◌∷◌, ◌++◌, Option, Some, None, map, refl, ap, sym, subst, inl, inr}
use Rattle.std.specs.Prelude.{option_and_then}
use Rattle.std.specs.List.{AllByRecursion, filter, filter_map}
use Rattle.std.proofs.lemmas.Bool.{cases_Bool}
use Rattle.semver.specs.Identifiers.{parts_text}
use Rattle.semver.specs.Parse.{Parts}
use Rattle.edit_syntax.specs.Grammar.{Text}
use Rattle.edit_document.specs.Items.{string_in}
use Rattle.edit_tree.specs.Assertions.{Place, same_bytes}
use Rattle.edit_tree.specs.Replaces.{AreStrings, AreValues, Edits, is_string}
use Rattle.edit_tree.specs.Tree.{View, fractional, inline_table, is_value_at, moment, static_array, string, table, table_array, truth, view_at, whole}
use Rattle.edit_tree.proofs.ReplacedStrings.{strings_values}
use Rattle.edit_tree.proofs.SamePlace.{same_bytes_is}
use Rattle.edit_manifest.specs.Tables.{Tree}
use Rattle.edit_manifest.specs.Versions.{package_version, shared_version, version_member, workspace_version}
use Rattle.edit_version.specs.ReadVersion.{version_read}
use Rattle.edit_set_version.specs.Entries.{entries, requirement}
use Rattle.edit_set_version.specs.SetVersioned.{Bump, Dependent, edits_by, next_at, dependent, dependents, own_edit, requirement_edit, raised_dependent_text, shared_edits, writes_own}
use Rattle.edit_set_version.specs.Written.{CanShare}
use Rattle.edit_set_version.proofs.EditsApart.{edit_place}
use Rattle.edit_set_version.proofs.DependentLaw.{dependent_parts, required}
use Rattle.edit_set_version.proofs.OwnBump.{own_edits}
use Rattle.edit_set_version.proofs.TablePlaces.{all_append}
use Rattle.edit_set_version.proofs.WrittenPlaces.{all_every, all_filter_map, dependent_place}

-- ---- strings

-- a text that is found is that of a string
shows_string : (o : Option View) (s : List ℕ) → option_and_then string_in o ≡ Some s → is_string o ≡ true
shows_string None s h = cc h
shows_string (Some (string said)) s h = refl
shows_string (Some (truth b)) s h = cc h
shows_string (Some (whole n)) s h = cc h
shows_string (Some (fractional n)) s h = cc h
shows_string (Some (moment n)) s h = cc h
shows_string (Some (static_array n)) s h = cc h
shows_string (Some (table_array n)) s h = cc h
shows_string (Some (inline_table ms)) s h = cc h
shows_string (Some (table ms)) s h = cc h

-- so is that of a version
tells_string : (o : Option View) → option_and_then version_read (option_and_then string_in o) ≢ None
    → is_string o ≡ true
tells_string o some = go (option_and_then string_in o) refl
  where
    go : (found : Option (List ℕ)) → option_and_then string_in o ≡ found → is_string o ≡ true
    go None e = absurd (some (ap (option_and_then version_read) e))
    go (Some s) e = shows_string o s e

-- ---- the version of the workspace

-- where it can be written
at_root : (form : Text) (next : Option Parts) → CanShare [] next [] (view_at form)
    → AreStrings (shared_edits true next) (view_at form)
at_root form None can = tt
at_root form (Some v) can = (tells_string (view_at form shared_version) (can refl), tt)

can_at : (root file : List ℕ) (next : Option Parts) (t : Tree) → file ≡ root → CanShare root next file t
    → CanShare [] next [] t
can_at root file None t same can = tt
can_at root file (Some v) t same can = λ e. can same

shared_values : (root file : List ℕ) (next : Option Parts) (form : Text)
    → CanShare root next file (view_at form) → AreValues (shared_edits (same_bytes file root) next) form
shared_values root file next form can = elim (cases_Bool (same_bytes file root)) [
  | inl same ↦
      rw same (strings_values (shared_edits true next) form
      (at_root form next (can_at root file next (view_at form) (same_bytes_is file root same) can)))
  | inr other ↦ rw other tt
]

-- ---- the version of the package

own_values : (bs : List Bump) (form : Text) → (bs ≢ [] → is_value_at form package_version ≡ true)
    → AreValues (map (λ b. (package_version, parts_text b.next)) bs) form
own_values [] form h = tt
own_values (b ∷ bs) form h = let value = h (λ e. cc e) in (value, own_values bs form (λ some. value))

-- ---- requirements

-- a requirement on a bumped crate is a string
dependent_string : (bs : List Bump) (file : List ℕ) (t : Tree) (q : Place) (f : Dependent)
    → dependent bs file t q ≡ Some f → is_string (t (version_member f.place)) ≡ true
dependent_string bs file t q f e =
    let parts = dependent_parts q (requirement t q) (next_at bs file t q) f e in
    let there = required t q f.text parts.text in
    let at = dependent_place q (requirement t q) (next_at bs file t q) f e in
    subst (λ (p : Place). is_string (t (version_member p)) ≡ true) (sym at)
    (shows_string (t (version_member q)) f.text there.said)

requirement_strings : (bs : List Bump) (file : List ℕ) (t : Tree)
    → AreStrings (filter_map requirement_edit (dependents bs file t)) t
requirement_strings bs file t =
    all_filter_map (λ f. is_string (t (version_member f.place)) ≡ true) (λ y. is_string (t y.0) ≡ true)
    requirement_edit
    (λ f is y e. subst (λ (z : Place). is_string (t z) ≡ true) (edit_place f.place (raised_dependent_text f) y e) is)
    (dependents bs file t)
    (all_filter_map (λ q. Unit {0}) (λ f. is_string (t (version_member f.place)) ≡ true)
    (dependent bs file t) (λ q none f e. dependent_string bs file t q f e) (entries t)
    (all_every (λ q. Unit {0}) (λ q. tt) (entries t)))

-- ---- all of it

pub edits_values : (root : List ℕ) (next : Option Parts) (bs : List Bump) (file : List ℕ) (form : Text)
    → CanShare root next file (view_at form)
    → (filter (writes_own file) bs ≢ [] → is_value_at form package_version ≡ true)
    → AreValues (edits_by root next bs file (view_at form)) form
edits_values root next bs file form can literal =
    all_append IsValue (shared_edits (same_bytes file root) next) (owns ++ reqs)
    (shared_values root file next form can)
    (all_append IsValue owns reqs
    (subst (λ es. AreValues es form) (sym (own_edits file bs)) (own_values (filter (writes_own file) bs) form
    literal))
    (strings_values reqs form (requirement_strings bs file (view_at form))))
  where
    IsValue : Place × List ℕ → Type 0
    IsValue e = is_value_at form e.0 ≡ true

    owns : Edits
    owns = filter_map (own_edit file) bs

    reqs : Edits
    reqs = filter_map requirement_edit (dependents bs file (view_at form))

-- values stand there, over the tree that a form shows
pub values_shown : (root : List ℕ) (next : Option Parts) (bs : List Bump) (file : List ℕ) (t : Tree)
    (form : Text) → t ≡ view_at form → CanShare root next file t
    → (filter (writes_own file) bs ≢ [] → is_value_at form package_version ≡ true)
    → AreValues (edits_by root next bs file t) form
values_shown root next bs file t form same can literal =
    subst (λ (tree : Tree). AreValues (edits_by root next bs file tree) form) (sym same)
    (edits_values root next bs file form (subst (CanShare root next file) same can) literal)
