-- Index lines of versions that were published at or before a bound (Cargo reference, "Registries", pubtime).
use Rattle.std.specs.Prelude.{◌≡◌, ℕ, ℤ, pos, ◌-ℤ◌, ◌*ℤ◌, List, [], Option, Some, None, option_and_then, option_map, Bool, false, not, codes, map, int_le, ◌&&◌, if◌then◌else◌}
use Rattle.std.specs.List.{join_with_byte}
use Rattle.std.specs.Option.{is_some, option_map_or}
use Rattle.std.specs.Result.{result_ok}
use Rattle.std.specs.Str.{is_utf8}
use Rattle.jiff.specs.Words.{parse_timestamp}
use Rattle.serde_json.specs.Data.{Data}
use Rattle.serde_json.specs.Read.{read}
use Rattle.serde_json.specs.Find.{get, as_str}
use Rattle.edit_store.specs.Store.{Files, StoreView}
use Rattle.edit_sources.specs.IndexLines.{IsIndexLine, lines_of, rust_version_of, yanked_of}
use Rattle.edit_version.specs.IndexEntry.{IndexEntry}
use Rattle.edit_sources.specs.declared.published.PublishedBefore.{PublishedBefore}

-- the nanoseconds from the Unix epoch to the instant of a text, if it has one: that of RFC 3339, section 5.6,
-- and of what `jiff` accepts beyond it (RFC 9557)
abbrev pub instant_of : List ℕ → Option ℤ
instant_of text = result_ok (parse_timestamp text)

-- the instant that lies a number of days, of 24 hours each, before another one (own)
abbrev pub days_before : ℕ → ℤ → ℤ
days_before days now = now -ℤ pos days *ℤ pos 86_400_000_000_000

-- the time at which a version was published, if it is known: that of the string `pubtime` (Cargo reference,
-- "Registries", pubtime)
abbrev pub publish_time : Data → Option ℤ
publish_time d = option_and_then instant_of (option_and_then as_str (get (codes "pubtime") d))

-- whether a time is known, and at or before the bound (own)
abbrev pub is_by : PublishedBefore → Option ℤ → Bool
is_by bound None = false
is_by bound (Some time) = int_le time bound.nanosecond

-- whether a JSON value has the members of an entry (Cargo reference, "Registries", name, vers)
abbrev pub has_entry : Data → Bool
has_entry d =
    is_some (option_and_then as_str (get (codes "name") d))
    && is_some (option_and_then as_str (get (codes "vers") d))
    && is_some (yanked_of (get (codes "yanked") d))
    && is_some (rust_version_of (get (codes "rust_version") d))

-- whether a line is a valid line of an index (own)
abbrev pub is_index_line : List ℕ → Bool
is_index_line line = is_utf8 line && option_map_or has_entry (read line) false

-- whether a line says that its version was published at or before the bound (own)
abbrev pub is_published : PublishedBefore → List ℕ → Bool
is_published bound line = option_map_or (λ d. is_by bound (publish_time d)) (read line) false

-- whether a line is valid and does not say that its version was published by the bound (own)
abbrev pub is_withheld : PublishedBefore → List ℕ → Bool
is_withheld bound line = is_index_line line && not (is_published bound line)

-- a valid line of an index, its entry, and the time at which its version was published (own)
pub record IsDatedLine (line : List ℕ) (e : IndexEntry) (time : Option ℤ) : Type 0 where
  pub entry : IsIndexLine line e
  pub published : time ≡ publish_time entry.value

-- the line, or an empty one in its place if it is withheld (own)
abbrev pub published_line : PublishedBefore → List ℕ → List ℕ
published_line bound line = if is_withheld bound line then [] else line

-- the text of an index in which each line of a version that was not published by the bound is empty (own)
abbrev pub published_text : PublishedBefore → List ℕ → List ℕ
published_text bound text = join_with_byte 10 (map (published_line bound) (lines_of text))

-- the text of an index with the lines of versions that were published by the bound, if there is one (own)
abbrev pub text_by : Option PublishedBefore → List ℕ → List ℕ
text_by None text = text
text_by (Some bound) text = published_text bound text

-- the contents of files, with the lines of versions that were published by the bound, if there is one (own)
abbrev pub published_files : Option PublishedBefore → Files → Files
published_files None files = files
published_files (Some bound) files = λ path. option_map (published_text bound) (files path)

-- a store whose files have these contents (own)
abbrev pub published_view : Option PublishedBefore → StoreView → StoreView
published_view bound store = record store { file_at = published_files bound store.file_at }
