-- Theorems about every plan: what a change does to a requirement, which version it reaches, and that
-- planning again changes nothing.
use Rattle.std.specs.Prelude.{◌≡◌, ◌↔◌, ◌⊎◌, ℕ, List, [], ◌∷◌, All, Option, Some, None, Ok, IsOk, IsSome, IsTrue, length, map}
use Rattle.std.specs.Ordering.{is_ge}
use Rattle.semver.specs.Parse.{Parts, req_of, version_parts}
use Rattle.edit_version.specs.Laws.{Admits, precedence}
use Rattle.edit_version.specs.Levels.{is_within}
use Rattle.edit_version.specs.declared.levels.Level.{Level}
use Rattle.edit_sources.specs.declared.config.Config.{Config}
use Rattle.edit_version.specs.Floors.{HasFloor}
use Rattle.edit_metadata.specs.Inputs.{path_of}
use Rattle.edit_upgrade.specs.Inputs.{Setting, outputs_at}
use Rattle.edit_upgrade.specs.Lines.{line_of}
use Rattle.edit_upgrade.specs.Outputs.{HasOutputs}
use Rattle.edit_upgrade.specs.Rows.{Line}
use Rattle.edit_upgrade.specs.Upgraded.{HasRows, IsNeededBy}
use Rattle.edit_upgrade.specs.EntrySelection.{HasOnlyNames}
use Rattle.edit_upgrade.specs.OptionLevels.{level_in}
use Rattle.edit_report.specs.declared.row.Change.TheVariants as change
use Rattle.edit_metadata.specs.declared.input.Input.{Input}
use Rattle.edit_report.specs.declared.output.Output.{Output}
use Rattle.edit_upgrade.specs.declared.decision.options.Options.{Options}
use Rattle.edit_upgrade.specs.declared.upgrade.UpgradePlan.{UpgradePlan}

-- there is a requirement, and `semver` can parse it
abbrev pub IsRead : Option (List ℕ) → Type 0
IsRead None = ⊥
IsRead (Some text) = IsOk (req_of text)

-- there is a requirement, and it admits the version
abbrev pub IsAdmittedBy : Option (List ℕ) → Parts → Type 0
IsAdmittedBy None v = ⊥
IsAdmittedBy (Some text) v = Admits text v

-- there is a text, and it is that of this version
abbrev pub IsTextOfVersion : Option (List ℕ) → Parts → Type 0
IsTextOfVersion None v = ⊥
IsTextOfVersion (Some text) v = version_parts text ≡ Ok v

-- where the change is Compatible, the new requirement parses, and the old one admits every version that it
-- admits (own)
abbrev pub Narrows : Line → Type 0
Narrows line = line.change ≡ Some change.Compatible → IsRead line.new
    × ((v : Parts) → IsAdmittedBy line.new v → IsAdmittedBy line.old v)

-- where the change is Compatible, the new requirement admits the compatible version; where it is Latest, it
-- admits the latest one, if that has no pre-release (own)
pub record Reaches (line : Line) : Type 0 where
  pub compatible : line.change ≡ Some change.Compatible → (v : Parts) × IsTextOfVersion line.compatible v
      × IsAdmittedBy line.new v
  pub latest : line.change ≡ Some change.Latest → (v : Parts) × IsTextOfVersion line.latest v
      × (length v.3 ≡ 0 → IsAdmittedBy line.new v)

-- where there is a compatible version, there is a latest one, and it is not less (SemVer 2.0.0, item 11)
abbrev pub LatestIsNotLess : Line → Type 0
LatestIsNotLess line = IsSome line.compatible
    → (u : Parts) × (v : Parts) × IsTextOfVersion line.compatible u × IsTextOfVersion line.latest v
    × IsTrue (is_ge (precedence v u))

-- there is a requirement, and this is its floor
abbrev pub IsFloorOfText : Option (List ℕ) → Parts → Type 0
IsFloorOfText None f = ⊥
IsFloorOfText (Some text) f = HasFloor text f

-- where the change is Latest or Compatible and the old requirement has a floor, the new one has a floor
-- that is not lower
abbrev pub KeepsFloor : Line → Type 0
KeepsFloor line = (line.change ≡ Some change.Latest) ⊎ (line.change ≡ Some change.Compatible)
    → (f : Parts) → IsFloorOfText line.old f
    → (g : Parts) × IsFloorOfText line.new g × IsTrue (is_ge (precedence g f))

-- with `never_lower`, no row has a lower floor after its change
abbrev pub NeverLowers : Options → UpgradePlan → Type 0
NeverLowers o p = IsTrue o.never_lower → All KeepsFloor (map line_of p.rows.items)

-- there is a requirement, and the version is within this level of it
abbrev pub IsWithinOf : Option Level → Option (List ℕ) → Parts → Type 0
IsWithinOf level None v = ⊥
IsWithinOf level (Some text) v = IsTrue (is_within level text v)

-- where the change is Compatible, the compatible version is within this level of the old requirement, and
-- where it is Latest, the latest one is; what is then within the level of the new requirement is within it of
-- the old one, so that no later change leaves it either
pub record StaysWithin (level : Option Level) (line : Line) : Type 0 where
  pub compatible : line.change ≡ Some change.Compatible → (v : Parts) × IsTextOfVersion line.compatible v
      × IsWithinOf level line.old v
  pub latest : line.change ≡ Some change.Latest → (v : Parts) × IsTextOfVersion line.latest v
      × IsWithinOf level line.old v
  pub later : (line.change ≡ Some change.Latest) ⊎ (line.change ≡ Some change.Compatible)
      → (w : Parts) → IsWithinOf level line.new w → IsWithinOf level line.old w

-- the row stays within the level that the options set for its crate
abbrev pub StaysInLevel : Options → Line → Type 0
StaysInLevel o line = StaysWithin (level_in o line.name) line

-- no row leaves the level that the options set for its crate
abbrev pub KeepsLevel : Options → UpgradePlan → Type 0
KeepsLevel o p = All (StaysInLevel o) (map line_of p.rows.items)

-- a row without a change
abbrev pub HasNoChange : Line → Type 0
HasNoChange line = line.change ≡ None

-- the bytes of a manifest after a plan: those of its output, or its own where there is none (own)
abbrev pub bytes_after : List ℕ → List Output → List ℕ
bytes_after bytes [] = bytes
bytes_after bytes (output ∷ more) = output.bytes.items

-- a fixed point of planning in this setting: the bytes have rows, and whatever rows they have, none of them
-- has a change and there is no output (own)
pub record IsFixedPoint (s : Setting) (bytes : List ℕ) : Type 0 where
  pub lines : List Line
  pub rows : HasRows s bytes lines
  pub unchanged : (again : List Line) → HasRows s bytes again → All HasNoChange again
  pub unwritten : (path : List ℕ) (again : List Line) (outputs : List Output) → HasRows s bytes again
      → HasOutputs path bytes again outputs → outputs ≡ []

-- two manifests need lookups of the same names at the same addresses (own)
abbrev pub NeedSame : List Config → List ℕ → List ℕ → Type 0
NeedSame configs bytes other = (address name : List ℕ) → IsNeededBy configs other address name
    ↔ IsNeededBy configs bytes address name

-- the bytes of an input after the plan
abbrev pub left_of : Input → UpgradePlan → List ℕ
left_of input p = bytes_after input.bytes.items (outputs_at (path_of input) p)

-- unless `--package` gives a requirement, planning the bytes of an input after the plan again over the same
-- lookups changes nothing
abbrev pub IsSettled : Setting → Input → UpgradePlan → Type 0
IsSettled s input p = HasOnlyNames s.options → IsFixedPoint s (left_of input p)

-- the bytes of an input after the plan need the same lookups
abbrev pub NeedsAsBefore : Setting → Input → UpgradePlan → Type 0
NeedsAsBefore s input p = NeedSame s.configs input.bytes.items (left_of input p)
