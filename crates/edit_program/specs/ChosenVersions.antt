-- The versions that an upgrade chose for crates whose versions are bounded.
use Rattle.std.specs.Prelude.{◌||◌, ◌∷◌, [], ℕ, List, Bool, Option, Some, None, if◌then◌else◌, flat_map, is_some, option_map, string_bytes}
use Rattle.edit_policy.specs.Holds.{has_hold}
use Rattle.edit_report.specs.declared.row.Change.{Change}
use Rattle.edit_report.specs.declared.row.Change.TheVariants as change
use Rattle.edit_report.specs.declared.row.Row.{Row}
use Rattle.edit_upgrade.specs.OptionLevels.{level_in}
use Rattle.edit_program.specs.declared.upgrade_run.chosen_versions.ChosenVersion.{ChosenVersion}
use Rattle.edit_program.specs.declared.upgrade_run.lock_planning.LockPlan.{LockPlan}

-- the versions of a crate are bounded: by the time of their publication, by a hold, or by a level (own)
abbrev pub is_bounded : LockPlan → List ℕ → Bool
is_bounded p name =
    is_some p.published_before || (has_hold p.crates.items name || is_some (level_in p.options name))

-- the version that a change of this kind raises a requirement to, of the compatible and the latest version;
-- none where nothing changes, and where an argument gives the requirement (own)
abbrev pub version_by : Option Change → Option (List ℕ) → Option (List ℕ) → Option (List ℕ)
version_by (Some change.Latest) compatible latest = latest
version_by (Some change.Compatible) compatible latest = compatible
version_by (Some change.Unified) compatible latest = compatible
version_by (Some change.Explicit) compatible latest = None
version_by None compatible latest = None

-- the version that the requirement of a row was raised to (own)
abbrev pub chosen_text : Row → Option (List ℕ)
chosen_text r = version_by r.change (option_map string_bytes r.compatible) (option_map string_bytes r.latest)

-- the name and the version, where there is one, and the versions of the crate are bounded (own)
abbrev pub chosen_as : Bool → List ℕ → Option (List ℕ) → List (List ℕ × List ℕ)
chosen_as bounded name None = []
chosen_as bounded name (Some version) = if bounded then (name, version) ∷ [] else []

-- the crate of a row with the version that its requirement was raised to, if its versions are bounded (own)
abbrev pub chosen_of : LockPlan → Row → List (List ℕ × List ℕ)
chosen_of p r = chosen_as (is_bounded p (string_bytes r.name)) (string_bytes r.name) (chosen_text r)

-- those of all rows, in their order (own)
abbrev pub chosen_rows : LockPlan → List Row → List (List ℕ × List ℕ)
chosen_rows p rows = flat_map (chosen_of p) rows

-- those of the rows of the plan (own)
abbrev pub chosen_in : LockPlan → List (List ℕ × List ℕ)
chosen_in p = chosen_rows p p.plan.rows.items

-- a crate and its version, as two texts (own)
abbrev pub pair_of : ChosenVersion → List ℕ × List ℕ
pair_of c = (c.name.now, c.version.now)
