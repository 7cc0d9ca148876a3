-- The calls of `cargo update` that follow an upgrade, as lists of arguments (The Cargo Book, "cargo
-- update"). Which calls are made, and their order, is this project's own, after cargo-edit.
use Rattle.std.specs.Prelude.{ℕ, List, [], ◌∷◌, ◌++◌, Bool, false, ◌&&◌, if◌then◌else◌, Option, codes, is_none, map, nat_eq}
use Rattle.std.specs.List.{filter, flat_map, list_any, starts_with}
use Rattle.std.specs.Option.{option_map_or}
use Rattle.std.specs.Str.{bytes_eq}
use Rattle.semver.specs.Identifiers.{parts_text}
use Rattle.edit_base.specs.Paths.{joined}
use Rattle.edit_metadata.specs.Metadata.{PackageModel, WorkspaceModel}
use Rattle.edit_version.specs.Admits.{admits}
use Rattle.edit_upgrade.specs.ParsedOptions.{ParsedOptions, is_git_updated, is_due, is_recursive}
use Rattle.edit_upgrade.specs.Pins.{Pin, pin_at, pins_of}

-- the arguments of a call
abbrev pub Call : Type 0
Call = List (List ℕ)

-- a call for the manifest at a path, with the arguments that select what is updated
abbrev pub call : List ℕ → List (List ℕ) → Call
call manifest args =
    (codes "cargo" ∷ codes "update" ∷ codes "--manifest-path" ∷ manifest ∷ args) ++ codes "--offline" ∷ []

-- the arguments that name a package: `--package name@version`
abbrev pub package_args : PackageModel → List (List ℕ)
package_args p = codes "--package" ∷ (p.name ++ (codes "@" ++ parts_text p.version)) ∷ []

-- the arguments that name these packages
abbrev pub packages_args : List PackageModel → List (List ℕ)
packages_args packages = flat_map package_args packages

-- the call that sets a package to a version with `--precise`
abbrev pub precise_call : List ℕ → Pin → PackageModel → Call
precise_call manifest pin p =
    call manifest (codes "--precise" ∷ parts_text pin.version ∷ package_args p)

-- the packages of a name
abbrev pub packages_named : List ℕ → List PackageModel → List PackageModel
packages_named name packages = filter (λ p. bytes_eq name p.name) packages

-- a call for each of these packages whose version the pin's requirement admits
abbrev pub admitted_calls : List ℕ → Pin → List PackageModel → List Call
admitted_calls manifest pin packages =
    map (precise_call manifest pin) (filter (λ p. admits pin.comparators p.version) packages)

-- the calls for packages, none where there is no precise version
abbrev pub entry_calls : List ℕ → List PackageModel → Option Pin → List Call
entry_calls manifest packages pin = option_map_or (λ q. admitted_calls manifest q packages) pin []

-- the calls for names, in order, each for the packages of that name
abbrev pub precise_calls : List ℕ → List PackageModel → List (List ℕ × Option Pin) → List Call
precise_calls manifest packages pins =
    flat_map (λ e. entry_calls manifest (packages_named e.0 packages) e.1) pins

-- the name is one of these
abbrev pub is_among : List (List ℕ) → List ℕ → Bool
is_among names name = list_any (λ n. bytes_eq n name) names

-- the package comes from a git repository
abbrev pub is_from_git : PackageModel → Bool
is_from_git p = option_map_or (λ source. starts_with nat_eq source (codes "git+")) p.source false

-- the packages of these names that come from a git repository
abbrev pub from_git : List (List ℕ) → List PackageModel → List PackageModel
from_git names packages = filter (λ p. is_among names p.name && is_from_git p) packages

-- one call for the packages from git repositories, where these are updated
abbrev pub git_calls : List ℕ → ParsedOptions → List PackageModel → List Call
git_calls manifest a packages = if is_git_updated a
    then call manifest (packages_args (from_git a.git_crates packages)) ∷ [] else []

-- one `--aggressive` call for packages, none where there are no packages
abbrev pub aggressive_calls : List ℕ → List PackageModel → List Call
aggressive_calls manifest [] = []
aggressive_calls manifest (p ∷ ps) = call manifest (codes "--aggressive" ∷ packages_args (p ∷ ps)) ∷ []

-- the packages of modified names for which no precise version is given
abbrev pub unpinned_packages : List (List ℕ × Option Pin) → List (List ℕ) → List PackageModel
    → List PackageModel
unpinned_packages pins modified packages =
    filter (λ p. is_among modified p.name && is_none (pin_at pins p.name)) packages

-- the `--aggressive` call for the modified packages without a precise version, where dependencies are
-- updated as well
abbrev pub recursive_calls : List ℕ → ParsedOptions → List PackageModel → List Call
recursive_calls manifest a packages = if is_recursive a
    then aggressive_calls manifest (unpinned_packages (pins_of a.args) a.modified packages) else []

-- the calls for a manifest: with precise versions, for git dependencies, and for the other modified names
abbrev pub calls_for : List ℕ → ParsedOptions → List PackageModel → List Call
calls_for manifest a packages = precise_calls manifest packages (pins_of a.args)
    ++ (git_calls manifest a packages ++ recursive_calls manifest a packages)

-- the calls that follow an upgrade in a workspace: none where none are needed
abbrev pub update_calls : ParsedOptions → WorkspaceModel → List Call
update_calls a w = if is_due a then calls_for (joined w.root (codes "Cargo.toml")) a w.packages else []
