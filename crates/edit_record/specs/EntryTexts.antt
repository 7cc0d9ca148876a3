-- The displayed forms of a dependency and its source; they are this project's own, after those of
-- cargo-edit.
use Rattle.std.specs.Prelude.{ℕ, List, [], ◌++◌, Option, Some, None, codes}
use Rattle.edit_record.specs.EntryRecords.{Repository, Origin, from_registry, from_path, from_git, from_workspace, EntryRecord, key_of}

-- the query of a Git source: its branch, else its tag, else its revision (own)
abbrev pub part_text : Option (List ℕ) → Option (List ℕ) → Option (List ℕ) → List ℕ
part_text (Some branch) tag rev = codes "?branch=" ++ branch
part_text None (Some tag) rev = codes "?tag=" ++ tag
part_text None None (Some rev) = codes "?rev=" ++ rev
part_text None None None = []

-- the URL of a Git source with its query (own)
abbrev pub repository_text : Repository → List ℕ
repository_text g = g.address ++ part_text g.branch g.tag g.rev

-- a source: its version requirement, path or URL, or `workspace` (own)
abbrev pub origin_text : Origin → List ℕ
origin_text (from_registry version) = version
origin_text (from_path path version) = path
origin_text (from_git g) = repository_text g
origin_text from_workspace = codes "workspace"

-- a dependency with a source as name and source, any other as its key (own)
abbrev pub record_text : EntryRecord → List ℕ
record_text r = text_from r.origin
  where
    text_from : Option Origin → List ℕ
    text_from (Some origin) = r.name ++ (codes "@" ++ origin_text origin)
    text_from None = key_of r
