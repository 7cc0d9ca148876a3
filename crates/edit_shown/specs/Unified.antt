-- The unified diff of two texts of a file (POSIX, "diff", Diff -u or -U Output Format).
use Rattle.std.specs.Prelude.{ℕ, List, [], ◌++◌, codes, if◌then◌else◌}
use Rattle.std.specs.Str.{bytes_eq}
use Rattle.edit_shown.specs.Hunks.{parts_text}
use Rattle.edit_shown.specs.Lines.{lines_of}
use Rattle.edit_shown.specs.Names.{name_text}
use Rattle.edit_shown.specs.LineKinds.{DiffLine, lines_in, compare_lines, line_kinds}

-- the two lines that name a file (own)
abbrev pub names_text : List ℕ → List ℕ
names_text path =
    codes "--- " ++ (name_text (codes "a/") path ++ (codes "+++ " ++ name_text (codes "b/") path))

-- the hunks of a diff of compared lines (own)
abbrev pub parts_of : List DiffLine → List ℕ
parts_of lines = parts_text (line_kinds lines) (lines_in lines)

-- the unified diff of two texts of a file; empty where they are equal (own)
abbrev pub diff_text : List ℕ → List ℕ → List ℕ → List ℕ
diff_text path old new =
    if bytes_eq old new then []
    else names_text path ++ parts_of (compare_lines (lines_of old) (lines_of new))
