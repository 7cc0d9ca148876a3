-- Round trip: the new entry of a dependency is read as a dependency with the same new entry; the law is this
-- project's own.
use Rattle.std.specs.Prelude.{◌≡◌, ◌≢◌, ◌≤◌, ℕ, false, List, [], ◌++◌, length, All, Option, None, option_to_list, option_and_then, IsSome, IfSome, IsOkAnd, ⊤}
use Rattle.edit_tree.specs.IntendedTrees.{item_view}
use Rattle.edit_tree.specs.NewItems.{NewItem}
use Rattle.edit_record.specs.EntryRecords.{EntryRecord, Origin, from_registry, from_path, from_git, from_workspace, origin_version}
use Rattle.edit_record.specs.NewEntries.{item_of}
use Rattle.edit_record.specs.ReadEntries.{record_of}
use Rattle.edit_version.specs.Laws.{holds_plus}

-- a source that survives the round trip: no backslash in a path; at most one of a branch, a tag and a
-- revision; no registry with the workspace (own)
abbrev pub IsPlainSource : Option (List ℕ) → Origin → Type 0
IsPlainSource registry (from_registry version) = ⊤
IsPlainSource registry (from_path path version) = All (λ b. b ≢ 92) path
IsPlainSource registry (from_git g) =
    length (option_to_list g.branch ++ (option_to_list g.tag ++ option_to_list g.rev)) ≤ 1
IsPlainSource registry from_workspace = registry ≡ None

-- a dependency that survives the round trip: its source does, and its version requirement has no `+` (own)
pub record IsPlain (r : EntryRecord) : Type 0 where
  pub sourced : IsSome r.origin
  pub plain : IfSome r.origin (IsPlainSource r.registry)
  pub no_plus : IfSome (option_and_then origin_version r.origin) (λ version. holds_plus version ≡ false)

-- a new entry, read under this key, gives a dependency with the same new entry (own)
abbrev pub HasRoundTrip : List ℕ → List ℕ → NewItem → Type 0
HasRoundTrip root dep item =
    IsOkAnd (record_of (item_view false item) [] root dep) (λ again. item_of root again ≡ item)
