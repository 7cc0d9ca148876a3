-- Which of the versions that an index lists may be chosen (Cargo reference, "The Manifest Format",
-- rust-version, and "cargo yank").
use Rattle.std.specs.Prelude.{Bool, false, if◌then◌else◌, Option, Some, None, option_and_then, option_map, is_some, unwrap_or, [], List}
use Rattle.std.specs.List.{filter_map}
use Rattle.std.specs.declared.cmp.Ordering.{Ordering}
use Rattle.semver.specs.Parse.{Held, Parts}
use Rattle.edit_version.specs.Admits.{admits}
use Rattle.edit_version.specs.IndexEntry.{IndexEntry}
use Rattle.edit_version.specs.ReadVersion.{version_read}
use Rattle.edit_version.specs.RustVersions.{Numbers, is_above, rust_of}
use Rattle.edit_version.specs.Selection.{is_allowed}
use Rattle.edit_version.specs.VersionOrder.{full_order}

-- the version of an entry's text
abbrev pub version_in : IndexEntry → Option Parts
version_in e = version_read e.version

-- the Rust version that an entry requires, none where it names none or what is no Rust version
abbrev pub minimum_rust : IndexEntry → Option Numbers
minimum_rust e = option_and_then rust_of e.rust_version

-- whether the required Rust version is above the given one, where there are both
abbrev pub is_too_new : Option Numbers → Option Numbers → Bool
is_too_new (Some minimum) (Some given) = is_above minimum given
is_too_new minimum given = false

-- what is read of an entry that is not yanked and whose version is readable: its version, and the Rust
-- version that it requires
abbrev pub candidate_in : IndexEntry → Option (Parts × Option Numbers)
candidate_in e = if e.yanked then None else option_map (λ v. (v, minimum_rust e)) (version_in e)

-- the version, where its Rust version is not too new
abbrev pub if_fits : Option Numbers → Option (Parts × Option Numbers) → Option Parts
if_fits rust None = None
if_fits rust (Some c) = if is_too_new c.1 rust then None else Some c.0

-- the version of an entry that is admissible for a Rust version: it is readable, not yanked and not too new
abbrev pub admissible : Option Numbers → IndexEntry → Option Parts
admissible rust e = if_fits rust (candidate_in e)

-- the versions of the admissible entries, in their order
abbrev pub admissible_in : Option Numbers → List IndexEntry → List Parts
admissible_in rust entries = filter_map (admissible rust) entries

-- the version, where it passes the test
abbrev pub if_passes : (Parts → Bool) → Option Parts → Option Parts
if_passes test None = None
if_passes test (Some v) = if test v then Some v else None

-- the version of an entry that is admissible and whose version passes a test
abbrev pub qualifying_in : Option Numbers → (Parts → Bool) → IndexEntry → Option Parts
qualifying_in rust test e = if_passes test (admissible rust e)

-- whether an entry is so
abbrev pub is_qualifying : Option Numbers → (Parts → Bool) → IndexEntry → Bool
is_qualifying rust test e = is_some (qualifying_in rust test e)

-- the order of entries by their versions, an unreadable one standing as 0.0.0 (own)
abbrev pub entry_order : IndexEntry → IndexEntry → Ordering
entry_order a b = full_order (version_or_zero a) (version_or_zero b)
  where
    version_or_zero : IndexEntry → Parts
    version_or_zero e = unwrap_or (version_in e) (0, 0, 0, [], [])

-- the versions that are wanted: those that comparators admit where there are some, else those without
-- pre-release or all (own)
abbrev pub is_selectable : Bool → Option (List Held) → Parts → Bool
is_selectable pre None v = is_allowed pre v
is_selectable pre (Some comparators) v = admits comparators v
