-- The result of reading an inline table with the keys of a source and the options of a dependency.
use Rattle.std.proofs.Common.{◌≡◌, ◌≤◌, ℕ, false, List, ◌++◌, length, refl, ◌∙◌, Option, Some, None, arith}
use Rattle.std.specs.Prelude.{Result, Ok, option_map, option_to_list, codes}
use Rattle.edit_base.specs.Paths.{joined}
use Rattle.edit_tree.specs.NewItems.{a_string}
use Rattle.edit_version.specs.Requirement.{cut}
use Rattle.edit_tree.specs.Assertions.{same_bytes}
use Rattle.edit_record.specs.EntryRecords.{Repository, Origin, from_registry, from_path, from_git, from_workspace, EntryRecord, EntryError, key_of}
use Rattle.edit_record.specs.NewEntries.{Member, origin_members, option_members, repository_members, path_members, written_registry, written_name}
use Rattle.edit_record.specs.ReadEntries.{names_by, origin_at, table_record}
use Rattle.edit_record.specs.HasRoundTrip.{IsPlainSource}
use Rattle.edit_record.specs.RelativePaths.{path_field}
use Rattle.edit_record.proofs.NewMembers.{held, held-past, past-where, other-where, options-lack, held-registry, held-package, held-default, held-features, held-optional, shown, text-held, truth-held, list-held}

-- ---- the options

-- none of these keys is that of an option
pub record IsApart (front : List Member) : Type 0 where
  registry : held (codes "registry") front ≡ None
  package_name : held (codes "package") front ≡ None
  spelling : held (codes "default_features") front ≡ None
  default_features : held (codes "default-features") front ≡ None
  features : held (codes "features") front ≡ None
  optional : held (codes "optional") front ≡ None

-- the result of reading the options after the source, and of reading the source before them
abbrev pub read_again : EntryRecord → Origin → EntryRecord
read_again r origin = record {
  name = (names_by (written_name r) (key_of r)).0;
  optional = r.optional;
  features = r.features;
  default_features = r.default_features;
  inherited_features = None;
  origin = Some origin;
  registry = written_registry r;
  rename = (names_by (written_name r) (key_of r)).1;
}

pub table-again : (root : List ℕ) (front : List Member) (r : EntryRecord) (origin : Origin) → IsApart front
    → origin_at (shown (front ++ option_members r)) root (key_of r) ≡ Ok origin
    → table_record (shown (front ++ option_members r)) root (key_of r) ≡ Ok (read_again r origin)
table-again root front r origin apart at =
    let ms : List Member = front ++ option_members r in
    let dep : List ℕ = key_of r in
    let name = text-held ms dep (codes "package") (written_name r)
    (held-past (codes "package") front (option_members r) apart.package_name ∙ held-package r) in
    let registry = text-held ms dep (codes "registry") (written_registry r)
    (held-past (codes "registry") front (option_members r) apart.registry ∙ held-registry r) in
    let spelling : held (codes "default_features") ms ≡ None =
    held-past (codes "default_features") front (option_members r) apart.spelling
    ∙ options-lack r (codes "default_features") refl refl refl refl refl in
    let features = list-held ms dep r.features
    (held-past (codes "features") front (option_members r) apart.features ∙ held-features r) in
    let optional = truth-held ms (codes "optional") r.optional
    (held-past (codes "optional") front (option_members r) apart.optional ∙ held-optional r) in
    let defaults = truth-held ms (codes "default-features") r.default_features
    (held-past (codes "default-features") front (option_members r) apart.default_features
    ∙ held-default r) in
    rw (name, at, registry, spelling, features, optional, defaults) refl

-- ---- sources

-- no option has the key of a source
no_git : (r : EntryRecord) → held (codes "git") (option_members r) ≡ None
no_git r = options-lack r (codes "git") refl refl refl refl refl

no_path : (r : EntryRecord) → held (codes "path") (option_members r) ≡ None
no_path r = options-lack r (codes "path") refl refl refl refl refl

no_version : (r : EntryRecord) → held (codes "version") (option_members r) ≡ None
no_version r = options-lack r (codes "version") refl refl refl refl refl

no_branch : (r : EntryRecord) → held (codes "branch") (option_members r) ≡ None
no_branch r = options-lack r (codes "branch") refl refl refl refl refl

no_tag : (r : EntryRecord) → held (codes "tag") (option_members r) ≡ None
no_tag r = options-lack r (codes "tag") refl refl refl refl refl

no_rev : (r : EntryRecord) → held (codes "rev") (option_members r) ≡ None
no_rev r = options-lack r (codes "rev") refl refl refl refl refl

-- a Git source
abbrev git_at : List ℕ → Option (List ℕ) → Option (List ℕ) → Option (List ℕ) → Option (List ℕ) → Repository
git_at address branch tag rev version = record {
  address = address;
  branch = branch;
  tag = tag;
  rev = rev;
  version = version;
}

-- the result of reading a source that was written
abbrev pub origin_again : List ℕ → Origin → Origin
origin_again root (from_registry version) = from_registry (cut version)
origin_again root (from_path path version) =
    from_path (joined root (path_field root path)) (option_map cut version)
origin_again root (from_git g) = from_git (record g { version = option_map cut g.version })
origin_again root from_workspace = from_workspace

-- the source of a table with these keys and the options of a dependency
abbrev origin_in : List ℕ → EntryRecord → List ℕ → List Member → Result Origin EntryError
origin_in root r dep front = origin_at (shown (front ++ option_members r)) root dep

git-read : (root : List ℕ) (r : EntryRecord) (dep address : List ℕ)
    (branch tag rev version : Option (List ℕ))
    → length (option_to_list branch ++ (option_to_list tag ++ option_to_list rev)) ≤ 1
    → origin_in root r dep (repository_members (git_at address branch tag rev version))
    ≡ Ok (from_git (git_at address branch tag rev (option_map cut version)))
git-read root r dep a None None None None h = rw (no_branch r, no_tag r, no_rev r, no_version r) refl
git-read root r dep a None None None (Some v) h = rw (no_branch r, no_tag r, no_rev r) refl
git-read root r dep a (Some b) None None None h = rw (no_tag r, no_rev r, no_version r) refl
git-read root r dep a (Some b) None None (Some v) h = rw (no_tag r, no_rev r) refl
git-read root r dep a None (Some t) None None h = rw (no_branch r, no_rev r, no_version r) refl
git-read root r dep a None (Some t) None (Some v) h = rw (no_branch r, no_rev r) refl
git-read root r dep a None None (Some c) None h = rw (no_branch r, no_tag r, no_version r) refl
git-read root r dep a None None (Some c) (Some v) h = rw (no_branch r, no_tag r) refl
git-read root r dep a (Some b) (Some t) rev version h = absurd (omega arith)
git-read root r dep a (Some b) None (Some c) version h = absurd (omega arith)
git-read root r dep a None (Some t) (Some c) version h = absurd (omega arith)

path-read : (root : List ℕ) (r : EntryRecord) (dep path : List ℕ) (version : Option (List ℕ))
    → origin_in root r dep (path_members root path version)
    ≡ Ok (from_path (joined root (path_field root path)) (option_map cut version))
path-read root r dep path None = rw (no_git r, no_version r) refl
path-read root r dep path (Some v) = rw (no_git r) refl

pub origin-read : (root : List ℕ) (r : EntryRecord) (dep : List ℕ) (registry : Option (List ℕ))
    (origin : Origin)
    → IsPlainSource registry origin
    → origin_in root r dep (origin_members root (Some origin)) ≡ Ok (origin_again root origin)
origin-read root r dep registry (from_registry version) h = rw (no_git r, no_path r) refl
origin-read root r dep registry (from_path path version) h = path-read root r dep path version
origin-read root r dep registry (from_git g) h =
    git-read root r dep g.address g.branch g.tag g.rev g.version h
origin-read root r dep registry from_workspace h = rw (no_git r, no_path r, no_version r) refl

-- a Git source has only these keys
repository-lack : (g : Repository) (name : List ℕ) → same_bytes (codes "git") name ≡ false
    → same_bytes (codes "branch") name ≡ false → same_bytes (codes "tag") name ≡ false
    → same_bytes (codes "rev") name ≡ false → same_bytes (codes "version") name ≡ false
    → held name (repository_members g) ≡ None
repository-lack g name a b c d e =
    rw a
    (past-where name (codes "branch") (option_map a_string g.branch) _ b
    ∙ past-where name (codes "tag") (option_map a_string g.tag) _ c
    ∙ past-where name (codes "rev") (option_map a_string g.rev) _ d
    ∙ other-where name (codes "version") (option_map a_string g.version) e)

-- no source has the key of an option
path-apart : (root path : List ℕ) (version : Option (List ℕ)) → IsApart (path_members root path version)
path-apart root path None = record {
  registry = refl;
  package_name = refl;
  spelling = refl;
  default_features = refl;
  features = refl;
  optional = refl;
}
path-apart root path (Some v) = record {
  registry = refl;
  package_name = refl;
  spelling = refl;
  default_features = refl;
  features = refl;
  optional = refl;
}

pub members-apart : (root : List ℕ) (origin : Origin) → IsApart (origin_members root (Some origin))
members-apart root (from_registry version) = record {
  registry = refl;
  package_name = refl;
  spelling = refl;
  default_features = refl;
  features = refl;
  optional = refl;
}
members-apart root (from_path path version) = path-apart root path version
members-apart root (from_git g) = record {
  registry = repository-lack g (codes "registry") refl refl refl refl refl;
  package_name = repository-lack g (codes "package") refl refl refl refl refl;
  spelling = repository-lack g (codes "default_features") refl refl refl refl refl;
  default_features = repository-lack g (codes "default-features") refl refl refl refl refl;
  features = repository-lack g (codes "features") refl refl refl refl refl;
  optional = repository-lack g (codes "optional") refl refl refl refl refl;
}
members-apart root from_workspace = record {
  registry = refl;
  package_name = refl;
  spelling = refl;
  default_features = refl;
  features = refl;
  optional = refl;
}
