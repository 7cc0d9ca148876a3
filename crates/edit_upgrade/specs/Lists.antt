-- The parts of a plan beside its rows: warnings, and lists of names.
use Rattle.std.specs.Prelude.{◌≡◌, map, ℕ, List, ◌++◌, codes, Bool, true, false, Option, Some, None, String, is_some, option_and_then, option_map, string_bytes, string_cmp}
use Rattle.std.specs.List.{AllZip, filter_map, list_any}
use Rattle.std.specs.List.Sorted.{IsStrictlySortedBy}
use Rattle.std.specs.Str.{bytes_eq}
use Rattle.std.specs.declared.alloc.Global.{Global}
use Rattle.edit_record.specs.EntryRecords.{EntryRecord}
use Rattle.edit_manifest.specs.Entries.{Entry}
use Rattle.edit_upgrade.specs.Decision.{Case, Outcome, row_of, unread, some_if}
use Rattle.edit_upgrade.specs.Lines.{line_of}
use Rattle.edit_upgrade.specs.Records.{Source, source_of, version_of}
use Rattle.edit_upgrade.specs.Rows.{Line}
use Rattle.edit_upgrade.specs.EntrySelection.{is_excluded, requirement_for}
use Rattle.edit_report.specs.declared.row.Reason.{Reason}
use Rattle.edit_report.specs.declared.row.Reason.TheVariants as reason
use Rattle.edit_upgrade.specs.declared.decision.options.Options.{Options}
use Rattle.edit_upgrade.specs.declared.upgrade.Warning.{Warning}
use Rattle.edit_upgrade.specs.declared.upgrade.UpgradePlan.{UpgradePlan}

-- the row was left unchanged because its entry is pinned
abbrev pub is_held_pinned : Option Reason → Bool
is_held_pinned (Some reason.Pinned) = true
is_held_pinned other = false

-- the row was left unchanged because its requirement does not admit the latest version
abbrev pub is_held_incompatible : Option Reason → Bool
is_held_incompatible (Some reason.Incompatible) = true
is_held_incompatible other = false

-- the name of a row, where it has a change
abbrev pub changed_name : Line → Option (List ℕ)
changed_name line = option_map (λ kind. line.name) line.change

-- the names of the rows with a change, in the order of the rows
abbrev pub changed_names : List Line → List (List ℕ)
changed_names lines = filter_map changed_name lines

-- a warning: the index of its input, whether only `--verbose` shows it, and its text
pub record WarningView : Type 0 where
  pub input : ℕ
  pub verbose : Bool
  pub text : List ℕ

-- a warning of the program, by its text
abbrev pub warning_view : Warning → WarningView
warning_view w = record { input = w.input; verbose = w.verbose; text = string_bytes w.text }

-- a warning on an input
abbrev pub warning_record : ℕ → Bool → List ℕ → WarningView
warning_record i verbose text = record { input = i; verbose = verbose; text = text }

-- the warning about an entry that is ignored, with the message of its error
abbrev pub ignored_text : List ℕ → List ℕ → List ℕ
ignored_text name text = codes "ignoring " ++ (name ++ (codes ", unsupported entry: " ++ text))

-- the warning about an entry that inherits all its keys from its workspace
abbrev pub workspace_text : List ℕ → List ℕ
workspace_text name = codes "ignoring " ++ (name ++ codes ", source is workspace")

-- the warning about an entry whose requirement cannot be parsed and is left unchanged
abbrev pub unreadable_text : List ℕ → List ℕ → List ℕ
unreadable_text name old =
    codes "keeping " ++ (name ++ (codes ", unreadable requirement `" ++ (old ++ codes "`")))

-- the entry is left unchanged because its requirement cannot be parsed
abbrev pub is_unparsed : Outcome → Bool
is_unparsed unread = true
is_unparsed row = false

-- the case of an entry with this requirement where the index gives no version
abbrev pub case_without_versions : Options → EntryRecord → List ℕ → Case
case_without_versions o r old = record {
  excluded = is_excluded o r.name;
  renamed = is_some r.rename;
  never_lower = o.never_lower;
  selected = requirement_for o r.name;
  old = old;
  compatible = None;
  latest = None;
}

-- the requirement of an entry, where it cannot be parsed and is left unchanged: the entry is not excluded,
-- and no `--package` argument replaces the requirement
abbrev pub unparsed_requirement : Options → EntryRecord → List ℕ → Option (List ℕ)
unparsed_requirement o r old = some_if (is_unparsed (row_of o (case_without_versions o r old))) (Some old)

-- the warning about an entry: that it inherits its source from its workspace, shown with `--verbose` only,
-- or that its requirement cannot be parsed and is left unchanged
abbrev pub warning_by : Options → ℕ → List ℕ → EntryRecord → Option Source → Option WarningView
warning_by o i key r None = Some (warning_record i true (workspace_text key))
warning_by o i key r (Some source) =
    option_map (λ old. warning_record i false (unreadable_text key old))
    (option_and_then (unparsed_requirement o r) (version_of r))

-- the warning about an entry: where it could not be read, one with the reason
abbrev pub IsWarningBy : Options → ℕ → List ℕ → Option EntryRecord → Option WarningView → Type 0
IsWarningBy o i key None result = (text : List ℕ)
    × (result ≡ Some (warning_record i false (ignored_text key text)))
IsWarningBy o i key (Some r) result = result ≡ warning_by o i key r (source_of r)

-- the warning about an entry of a dependency table
abbrev pub IsWarningOn : Options → ℕ → Entry → Option WarningView → Type 0
IsWarningOn o i e result = IsWarningBy o i e.name e.said result

-- the warnings about entries, at most one for each, in order
pub record AreWarnings (o : Options) (i : ℕ) (es : List Entry) (ts : List WarningView) : Type 0 where
  pub each : List (Option WarningView)
  pub on : AllZip (IsWarningOn o i) es each
  pub all : ts ≡ filter_map (λ result. result) each

-- the row is that of a git dependency without a requirement
abbrev pub is_git : Option Reason → Bool
is_git (Some reason.GitSource) = true
is_git other = false

-- the name of a row, where it is that of a git dependency without a requirement
abbrev pub git_name : Line → Option (List ℕ)
git_name line = some_if (is_git line.reason) (Some line.name)

-- the names of the rows of git dependencies without a requirement, in order
abbrev pub git_names : List Line → List (List ℕ)
git_names lines = filter_map git_name lines

-- these names, sorted by bytes, without duplicates
pub record AreNames (names : List (List ℕ)) (result : List (String Global)) : Type 0 where
  pub ordered : IsStrictlySortedBy string_cmp result
  pub each : (name : List ℕ) → list_any (bytes_eq name) (map string_bytes result)
      ≡ list_any (bytes_eq name) names

-- the lists of a plan agree with its rows: the names of the rows that change, and of git dependencies
-- without a requirement; whether an entry was left unchanged for being pinned, or for not admitting the
-- latest version (own)
pub record HasRowLists (p : UpgradePlan) : Type 0 where
  pub modified : AreNames (changed_names (map line_of p.rows.items)) p.modified.items
  pub git_crates : AreNames (git_names (map line_of p.rows.items)) p.git_crates.items
  pub pinned : p.pinned_present ≡ list_any (λ r. is_held_pinned r.reason) p.rows.items
  pub incompatible : p.incompatible_present ≡ list_any (λ r. is_held_incompatible r.reason) p.rows.items
