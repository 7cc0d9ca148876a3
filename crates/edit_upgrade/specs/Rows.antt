-- The rows of a manifest, and the edits that they make.
use Rattle.std.specs.Prelude.{◌≡◌, ℕ, List, [], ◌∷◌, Bool, true, false, Option, Some, None, is_some, option_map}
use Rattle.std.specs.List.{AllZip}
use Rattle.edit_tree.specs.Assertions.{Place}
use Rattle.semver.specs.Parse.{Parts}
use Rattle.url.specs.Parts as url
use Rattle.url.specs.Parts.{serialize}
use Rattle.edit_version.specs.Levels.{versions_within}
use Rattle.edit_version.specs.Requirement.{plain_text}
use Rattle.edit_version.specs.Selection.{IsCompatible, IsLatest}
use Rattle.edit_sources.specs.Configured.{HasAddress}
use Rattle.edit_sources.specs.declared.config.Config.{Config}
use Rattle.edit_upgrade.specs.Decision.{Case, Choice, decision, newer, or_else, some_if}
use Rattle.edit_upgrade.specs.Records.{RowEntry, Source, at_folder, at_registry, at_repository}
use Rattle.edit_upgrade.specs.EntrySelection.{is_excluded, requirement_for}
use Rattle.edit_upgrade.specs.OptionLevels.{level_in}
use Rattle.edit_report.specs.declared.row.Change.{Change}
use Rattle.edit_upgrade.specs.declared.decision.options.Options.{Options}
use Rattle.edit_report.specs.declared.row.Reason.{Reason}
use Rattle.edit_report.specs.declared.row.Reason.TheVariants as reason

-- what rows depend on: the index of their input, the options, the configurations, and the admitted versions
-- by address and name (own)
pub record Basis : Type 0 where
  pub input : ℕ
  pub options : Options
  pub configs : List Config
  pub versions : List ℕ → List ℕ → List Parts

-- a row, by its texts
pub record Line : Type 0 where
  pub input : ℕ
  pub name : List ℕ
  pub place : Place
  pub rename : Option (List ℕ)
  pub old : Option (List ℕ)
  pub compatible : Option (List ℕ)
  pub latest : Option (List ℕ)
  pub new : Option (List ℕ)
  pub reason : Option Reason
  pub change : Option Change

-- the case of an entry with this requirement: whether it is excluded, and which requirement `--package`
-- gives, depend on its name
abbrev pub case_for : Options → RowEntry → List ℕ → Option Parts → Option Parts → Case
case_for o e old near far = record {
  excluded = is_excluded o e.name;
  renamed = is_some e.rename;
  never_lower = o.never_lower;
  selected = requirement_for o e.name;
  old = old;
  compatible = near;
  latest = far;
}

-- the row of an entry: its latest version is the newer one where there is one, else the compatible one
abbrev pub line_for : ℕ → RowEntry → List ℕ → Option Parts → Option Parts → Choice → Line
line_for i e old near far choice = record {
  input = i;
  name = e.name;
  place = e.place;
  rename = e.rename;
  old = Some old;
  compatible = option_map plain_text near;
  latest = option_map plain_text (or_else (newer far near) near);
  new = Some choice.new;
  reason = choice.reason;
  change = choice.change;
}

-- the row is the decision over the greatest of the versions
pub record IsDecided (input : ℕ) (options : Options) (versions : List Parts) (e : RowEntry) (old : List ℕ)
    (line : Line) : Type 0 where
  pub near : Option Parts
  pub far : Option Parts
  pub compatible : IsCompatible old versions near
  pub latest : IsLatest old versions far
  pub is : line ≡ line_for input e old near far (decision options (case_for options e old near far))

-- why an entry without a requirement is unchanged: it is excluded, or a git or path dependency
abbrev pub dash_reason : Bool → Source → Reason
dash_reason true source = reason.Excluded
dash_reason false at_folder = reason.PathSource
dash_reason false at_repository = reason.GitSource
dash_reason false (at_registry named) = reason.GitSource

-- the row of an entry without a requirement: no versions, only a reason
abbrev pub dashes : ℕ → Options → RowEntry → Line
dashes i o e = record {
  input = i;
  name = e.name;
  place = e.place;
  rename = e.rename;
  old = None;
  compatible = None;
  latest = None;
  new = None;
  reason = Some (dash_reason (is_excluded o e.name) e.source);
  change = None;
}

-- the row of an entry with this requirement or none, over those of these versions that are within the level
-- of the requirement that the options set for its crate
abbrev pub IsRowOver : ℕ → Options → List Parts → RowEntry → Option (List ℕ) → Line → Type 0
IsRowOver i o versions e None line = line ≡ dashes i o e
IsRowOver i o versions e (Some old) line =
    IsDecided i o (versions_within (level_in o e.name) old versions) e old line

-- the lookup that an entry needs: at its registry's address, for its name
pub record Needs (configs : List Config) (e : RowEntry) (address : url.Parts) (name : List ℕ) : Type 0 where
  pub named : Option (List ℕ)
  pub source : e.source ≡ at_registry named
  pub has : HasAddress configs named address
  pub crate_name : e.name ≡ name

-- a git or path dependency
abbrev pub is_elsewhere : Source → Bool
is_elsewhere (at_registry named) = false
is_elsewhere at_repository = true
is_elsewhere at_folder = true

-- the versions admitted for an entry: those of its name at its registry's address; none for a git or path
-- dependency
pub data AreVersionsFor (s : Basis) (e : RowEntry) (versions : List Parts) : Type 0 where
  at_address : (address : url.Parts) → Needs s.configs e address e.name
      → versions ≡ s.versions (serialize address) e.name → AreVersionsFor s e versions
  elsewhere : is_elsewhere e.source ≡ true → versions ≡ [] → AreVersionsFor s e versions

-- the row of an entry, over the versions admitted for it
pub record IsRowBy (s : Basis) (e : RowEntry) (line : Line) : Type 0 where
  pub versions : List Parts
  pub offered : AreVersionsFor s e versions
  pub decided : IsRowOver s.input s.options versions e e.old line

-- one row for each entry, in order
abbrev pub AreDecided : Basis → List RowEntry → List Line → Type 0
AreDecided s es lines = AllZip (IsRowBy s) es lines

-- the edit of a row at a place: its new text, where it has a change
abbrev pub write_at : Place → Line → Option (Place × List ℕ)
write_at literal line = write_of line.change line.new
  where
    write_of : Option Change → Option (List ℕ) → Option (Place × List ℕ)
    write_of (Some kind) (Some text) = Some (literal, text)
    write_of kind text = None

-- the edit of a row at the version literal of its entry; none for an entry without a requirement
abbrev pub write_on : RowEntry → Line → Option (Place × List ℕ)
write_on e line = some_if (is_some e.old) (write_at e.literal line)

-- the edits, with one more in front where there is one
abbrev pub with_write : Option (Place × List ℕ) → List (Place × List ℕ) → List (Place × List ℕ)
with_write None ws = ws
with_write (Some w) ws = w ∷ ws

-- the new texts of the rows with a change, each at the version literal of its entry
abbrev pub writes : List RowEntry → List Line → List (Place × List ℕ)
writes [] lines = []
writes (e ∷ es) [] = []
writes (e ∷ es) (line ∷ lines) = with_write (write_on e line) (writes es lines)
