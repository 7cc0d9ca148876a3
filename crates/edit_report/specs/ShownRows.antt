-- Which rows a report shows.
use Rattle.std.specs.Prelude.{List, Bool, true, false, not, ◌&&◌, ◌||◌, Option, Some, None, String, ℤ, pos, int_le, option_and_then, string_bytes}
use Rattle.std.specs.Option.{is_none, option_eq}
use Rattle.std.specs.Result.{result_ok}
use Rattle.std.specs.String.{string_eq}
use Rattle.std.specs.declared.alloc.Global.{Global}
use Rattle.semver.specs.Parse.{Held, Parts, version_parts}
use Rattle.edit_report.specs.declared.row.Reason.{Reason}
use Rattle.edit_report.specs.declared.row.Reason.TheVariants as reason
use Rattle.edit_report.specs.declared.row.Row.{Row}
use Rattle.edit_version.specs.Admits.{admits}
use Rattle.edit_version.specs.Requirement.{requirement_read}

-- an entry was left unchanged for a reason that an option can lift (own)
abbrev pub is_held_back : Option Reason → Bool
is_held_back (Some reason.Compatible) = true
is_held_back (Some reason.Incompatible) = true
is_held_back (Some reason.Pinned) = true
is_held_back _ = false

-- a parsed requirement does not admit a parsed version; false where one of them cannot be parsed (own)
abbrev pub misses : Option (List Held) → Option Parts → Bool
misses (Some cs) (Some v) = not (admits cs v)
misses _ _ = false

-- the old requirement can be parsed and does not admit the latest version (own)
abbrev pub is_outgrown : Row → Bool
is_outgrown r = misses
    (option_and_then (λ old. requirement_read (string_bytes old)) r.old)
    (option_and_then (λ latest. result_ok (version_parts (string_bytes latest))) r.latest)

-- a report of this verbosity shows the row: each at 2 and up; one whose requirement changes; at 1 also one
-- that was held back or whose old requirement does not match the latest version (own)
abbrev pub is_shown : ℤ → Row → Bool
is_shown verbosity r =
    int_le (pos 2) verbosity
    || not (option_eq string_eq r.old r.new)
    || (int_le (pos 1) verbosity && (is_held_back r.reason || is_outgrown r))

-- nothing newer was found for a requirement that cannot be parsed, and no version is compatible with it (own)
abbrev pub is_unread : Option Reason → Option (String Global) → Option (String Global) → Bool
is_unread (Some reason.Latest) None (Some old) = is_none (requirement_read (string_bytes old))
is_unread why compatible old = false

-- the row's entry is left unchanged because its requirement cannot be parsed (own)
abbrev pub is_unreadable : Row → Bool
is_unreadable r = is_unread r.reason r.compatible r.old
