-- What is held back of a crate's versions for their age (Cargo reference, "Registries", pubtime).
use Rattle.std.specs.Prelude.{ℕ, ℤ, List, [], ◌∷◌, Option, Some, None, option_and_then, option_map, Bool, true, false, not, ◌&&◌, ◌||◌, codes, filter, if◌then◌else◌, unwrap_or}
use Rattle.std.specs.List.{list_any}
use Rattle.std.specs.Option.{option_map_or}
use Rattle.std.specs.Str.{bytes_eq, is_utf8}
use Rattle.serde_json.specs.Data.{Data}
use Rattle.serde_json.specs.Find.{get, as_str}
use Rattle.serde_json.specs.Read.{read}
use Rattle.edit_sources.specs.IndexLines.{lines_of, yanked_of}
use Rattle.edit_sources.specs.Published.{has_entry, is_by, publish_time}
use Rattle.edit_sources.specs.declared.index.IndexKrate.{IndexKrate}
use Rattle.edit_sources.specs.declared.published.PublishedBefore.{PublishedBefore}
use Rattle.edit_sources.specs.declared.withheld.Withheld.{Withheld}

-- nothing is held back, and no time is known (own)
abbrev pub nothing : Withheld
nothing = record { younger = false; undated = false; dated = false }

-- what either of two has (own)
abbrev pub either : Withheld → Withheld → Withheld
either one other = record {
  younger = one.younger || other.younger;
  undated = one.undated || other.undated;
  dated = one.dated || other.dated;
}

-- a version that is not yanked is held back if its time is unknown, or known and after the bound (own)
abbrev pub of_version : PublishedBefore → Bool → Option ℤ → Withheld
of_version bound yanked None = record { younger = false; undated = not yanked; dated = false }
of_version bound yanked (Some time) = record {
  younger = not yanked && not (is_by bound (Some time));
  undated = false;
  dated = true;
}

-- whether a JSON value is that of a yanked version (Cargo reference, "Registries", yanked)
abbrev pub is_yanked : Data → Bool
is_yanked d = unwrap_or (yanked_of (get (codes "yanked") d)) false

-- what is held back of the version in a JSON value, if that has the members of an entry (own)
abbrev pub of_value : PublishedBefore → Data → Withheld
of_value bound d = if has_entry d then of_version bound (is_yanked d) (publish_time d) else nothing

-- what is held back of the version in a line, if that is valid (own)
abbrev pub of_line : PublishedBefore → List ℕ → Withheld
of_line bound line = if is_utf8 line then option_map_or (of_value bound) (read line) nothing else nothing

-- what is held back of the versions in lines: what one of the lines has (own)
abbrev pub of_lines : PublishedBefore → List (List ℕ) → Withheld
of_lines bound lines = record {
  younger = list_any (λ line. (of_line bound line).younger) lines;
  undated = list_any (λ line. (of_line bound line).undated) lines;
  dated = list_any (λ line. (of_line bound line).dated) lines;
}

-- what is held back of the versions in a text; nothing without a bound (own)
abbrev pub of_text : Option PublishedBefore → List ℕ → Withheld
of_text None text = nothing
of_text (Some bound) text = of_lines bound (lines_of text)

-- what is held back of a crate; none where the index has no crate of that name (own)
abbrev pub withheld_of : Option IndexKrate → Option Withheld
withheld_of krate = option_map (λ k. k.withheld) krate

-- ---- the crates of a text with lines of several

-- the crate's name in a JSON value, if that has the members of an entry (Cargo reference, "Registries", name)
abbrev pub value_name : Data → Option (List ℕ)
value_name d = if has_entry d then option_and_then as_str (get (codes "name") d) else None

-- the crate's name in a line, if that is valid (own)
abbrev pub line_name : List ℕ → Option (List ℕ)
line_name line = if is_utf8 line then option_and_then value_name (read line) else None

-- whether a line is a valid one of this crate (own)
abbrev pub is_of_crate : List ℕ → List ℕ → Bool
is_of_crate name line = option_map_or (λ own. bytes_eq own name) (line_name line) false

-- what is held back of the versions in lines; none where there are no lines (own)
abbrev pub of_some_lines : PublishedBefore → List (List ℕ) → Option Withheld
of_some_lines bound [] = None
of_some_lines bound (line ∷ lines) = Some (of_lines bound (line ∷ lines))

-- what is held back of a crate by its lines among these; none where it has no line (own)
abbrev pub of_crate : PublishedBefore → List (List ℕ) → List ℕ → Option Withheld
of_crate bound lines name = of_some_lines bound (filter (is_of_crate name) lines)

-- what is held back of a crate by its lines in a text; none where it has no line, and without a bound (own)
abbrev pub of_crate_in : Option PublishedBefore → List ℕ → List ℕ → Option Withheld
of_crate_in None text name = None
of_crate_in (Some bound) text name = of_crate bound (lines_of text) name

-- whether a JSON value is that of a version of this crate (own)
abbrev pub is_value_of_crate : List ℕ → Data → Bool
is_value_of_crate name d = option_map_or (λ own. bytes_eq own name) (value_name d) false

-- what a JSON value adds to what is held back of a crate (own)
abbrev pub value_of_crate : PublishedBefore → List ℕ → Data → Option Withheld
value_of_crate bound name d = if is_value_of_crate name d then Some (of_value bound d) else None

-- what a line adds to what is held back of a crate (own)
abbrev pub line_of_crate : PublishedBefore → List ℕ → List ℕ → Option Withheld
line_of_crate bound name line = if is_of_crate name line then Some (of_line bound line) else None

-- what two have together, each of which may have none (own)
abbrev pub joined : Option Withheld → Option Withheld → Option Withheld
joined None other = other
joined (Some one) None = Some one
joined (Some one) (Some other) = Some (either one other)
