-- The value of `path` in an entry; the rules are this project's own, after those of cargo-edit.
use Rattle.std.specs.Prelude.{ℕ, Bool, not, ◌||◌, ◌==◌, if◌then◌else◌, List, [], ◌∷◌, ◌++◌, map, length, filter, replicate, codes}
use Rattle.std.specs.List.{join_by}
use Rattle.edit_base.specs.Paths.{parts_of}
use Rattle.edit_tree.specs.Assertions.{same_bytes}

-- a segment of a path that is neither empty nor `.`; `..` counts as a name (own)
abbrev pub is_name_segment : List ℕ → Bool
is_name_segment part = not (same_bytes part [] || same_bytes part (codes "."))

-- the segments of a path that are neither empty nor `.` (own)
abbrev pub names_of : List ℕ → List (List ℕ)
names_of path = filter is_name_segment (parts_of path)

-- the relative path between two lists of segments: `..` for each segment after the longest common prefix,
-- then down (own)
abbrev pub steps_between : List (List ℕ) → List (List ℕ) → List (List ℕ)
steps_between (d ∷ down) (u ∷ up) =
    if same_bytes d u then steps_between down up else replicate (length (u ∷ up)) (codes "..") ++ d ∷ down
steps_between down up = replicate (length up) (codes "..") ++ down

-- a path relative to a folder: the only text for which `IsRelative` holds (own)
abbrev pub relative_of : List ℕ → List ℕ → List ℕ
relative_of to from = join_by (λ step. step) (codes "/") (steps_between (names_of to) (names_of from))

-- a slash for a backslash (own)
abbrev pub slash_for : ℕ → ℕ
slash_for b = if b == 92 then 47 else b

-- a text with each backslash replaced by a slash (own)
abbrev pub replace_backslashes : List ℕ → List ℕ
replace_backslashes text = map slash_for text

-- the value of `path`: relative to the root, with slashes only (own)
abbrev pub path_field : List ℕ → List ℕ → List ℕ
path_field root path = replace_backslashes (relative_of path root)
