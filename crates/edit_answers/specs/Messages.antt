-- The messages about entries that could not be fetched (own).
use Rattle.std.specs.Prelude.{◌≡◌, ℕ, List, [], ◌∷◌, ◌++◌, Option, Some, None, Bool, codes, length, option_map, string_bytes}
use Rattle.std.specs.Fmt.{decimal}
use Rattle.std.specs.List.{flat_map}
use Rattle.edit_lookups.specs.ControlEscapes.{escape_controls}
use Rattle.edit_lookups.specs.UserinfoAddresses.{strip_userinfo}
use Rattle.edit_lookups.specs.declared.lookups.Lookup.{Lookup}
use Rattle.edit_answers.specs.Groups.{AreGroups, GroupText, failed_lookups}
use Rattle.edit_answers.specs.declared.groups.Consequence.{Consequence}
use Rattle.edit_answers.specs.declared.groups.Consequence.TheVariants.{Cached, Left, Missing}
use Rattle.edit_answers.specs.declared.meaning.Outcome.{Outcome}
use Rattle.edit_answers.specs.declared.messages.Report.{Report}

-- the address of a registry in messages
abbrev pub message_address : List ℕ → List ℕ
message_address address = escape_controls (strip_userinfo address)

-- names joined by commas
abbrev pub names_text : List (List ℕ) → List ℕ
names_text [] = []
names_text (name ∷ rest) = escape_controls name ++ flat_map (λ n. codes ", " ++ escape_controls n) rest

-- how many index entries of a registry could not be fetched, and why
unfoldable pub unfetched_text : List ℕ → List ℕ → List ℕ → List ℕ
unfetched_text count shown reason =
    count ++ (codes " index entries of " ++ (shown ++ (codes " could not be fetched ("
    ++ (reason ++ codes ")"))))

-- the first part of the warning about a group whose cached entries are used
unfoldable pub cached_text : GroupText → List ℕ
cached_text g = unfetched_text (decimal (length g.names)) (message_address g.address) g.reason

-- the warning about a group whose cached entries are used
abbrev pub cached_line : GroupText → List ℕ
cached_line g =
    codes "warning: " ++ (cached_text g ++ (codes ": the cached ones are used ("
    ++ (names_text g.names ++ codes ")\n")))

-- the first part of the warning about a group whose crates are not upgraded
abbrev pub skipped_text : GroupText → List ℕ
skipped_text g =
    codes "no index entries of " ++ (message_address g.address ++ (codes " are cached for "
    ++ (names_text g.names ++ (codes " (" ++ (g.reason ++ codes ")")))))

-- the warning about a group whose crates are not upgraded
abbrev pub skipped_line : GroupText → List ℕ
skipped_line g = codes "warning: " ++ (skipped_text g ++ codes ": these crates stay as they are\n")

-- the line of the error for a group that the upgrade cannot proceed without
abbrev pub missing_line : GroupText → List ℕ
missing_line g =
    codes "\n  " ++ (message_address g.address ++ (codes ": " ++ (names_text g.names
    ++ (codes " (" ++ (g.reason ++ codes ")")))))

-- the line for a group of lookups with this consequence
abbrev pub line_of : Consequence → GroupText → List ℕ
line_of Cached g = cached_line g
line_of Left g = skipped_line g
line_of Missing g = missing_line g

-- the first line of the error for missing entries
abbrev pub error_head : List ℕ
error_head =
    codes "index entries could not be fetched, and are not in the cache; "
    ++ codes "leave the crates out by `--exclude`, or as they are by `--offline`:"

-- the error about the groups that the upgrade cannot proceed without; none if there are none
abbrev pub error_text : List GroupText → Option (List ℕ)
error_text [] = None
error_text (g ∷ rest) = Some (error_head ++ flat_map (line_of Missing) (g ∷ rest))

-- the report of a run whose file of lookups is malformed
pub record IsUnreadable (r : Report) : Type 0 where
  pub warnings : string_bytes r.warnings ≡ []
  pub error : option_map string_bytes r.error ≡ Some (codes "the lookups of this run are malformed")

-- the report of lookups with these results
pub record IsReport (is_offline : Bool) (pairs : List (Lookup × Outcome)) (r : Report)
    : Type 0 where
  pub cached : List GroupText
  pub left : List GroupText
  pub missing : List GroupText
  pub are_cached : AreGroups (failed_lookups Cached is_offline pairs) cached
  pub are_left : AreGroups (failed_lookups Left is_offline pairs) left
  pub are_missing : AreGroups (failed_lookups Missing is_offline pairs) missing
  pub warnings : string_bytes r.warnings ≡ flat_map (line_of Cached) cached ++ flat_map (line_of Left) left
  pub error : option_map string_bytes r.error ≡ error_text missing
