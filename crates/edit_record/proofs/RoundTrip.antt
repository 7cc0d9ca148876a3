-- Round trip: the new entry of a plain dependency is read as a dependency with the same new entry.
use Rattle.std.proofs.Common.{◌≡◌, ℕ, Bool, true, false, List, [], ◌∷◌, ◌++◌, refl, ap, sym, subst, ◌∙◌, Option, Some, None, append-nil}
use Rattle.std.specs.Prelude.{Result, Ok, option_map, is_some, if◌then◌else◌, option_and_then, unwrap_or, IsSome, IfSome, IsOkAnd, codes}
use Rattle.edit_tree.specs.NewItems.{NewItem, a_string, a_value}
use Rattle.edit_tree.specs.IntendedTrees.{item_view}
use Rattle.edit_version.specs.Requirement.{cut}
use Rattle.edit_tree.specs.Assertions.{Place}
use Rattle.edit_record.specs.EntryRecords.{Origin, from_registry, from_path, from_git, from_workspace, EntryRecord, EntryError, origin_version, key_of}
use Rattle.edit_record.specs.NewEntries.{origin_members, option_members, written_registry, is_short, full_item, item_by, item_of}
use Rattle.edit_record.specs.ReadEntries.{Tree, below, entry_record, names_by, table_record, record_of}
use Rattle.edit_record.specs.HasRoundTrip.{IsPlainSource, IsPlain, HasRoundTrip}
use Rattle.edit_record.proofs.RelativeAgain.{path-again}
use Rattle.edit_version.specs.Laws.{holds_plus}
use Rattle.edit_version.proofs.NoPlus.{cut-none}
use Rattle.edit_record.proofs.MembersRead.{read_again, table-again, origin_again, origin-read, members-apart}
use Rattle.edit_record.proofs.NewMembers.{shown}

-- a requirement without `+` is read unchanged
version-whole : (version : Option (List ℕ)) → IfSome version (λ v. holds_plus v ≡ false)
    → option_map cut version ≡ version
version-whole None h = refl
version-whole (Some v) h = ap Some (cut-none v h)

-- the source that is read back has the same keys
members-again : (root : List ℕ) (registry : Option (List ℕ)) (origin : Origin)
    → IsPlainSource registry origin
    → IfSome (origin_version origin) (λ v. holds_plus v ≡ false)
    → origin_members root (Some (origin_again root origin)) ≡ origin_members root (Some origin)
members-again root registry (from_registry version) h whole =
    ap (λ v. (codes "version", a_string v) ∷ []) (cut-none version whole)
members-again root registry (from_path path version) h whole =
    rw (version-whole version whole, path-again path root h) refl
members-again root registry (from_git g) h whole = rw (version-whole g.version whole) refl
members-again root registry from_workspace h whole = refl

-- the name and the key are those of the dependency
names-again : (dep : List ℕ) (other : Option (List ℕ))
    → names_by (option_map (λ key. dep) other) (unwrap_or other dep) ≡ (dep, other)
names-again dep None = refl
names-again dep (Some key) = refl

-- the requirement is there if it was
version-again : (root : List ℕ) (origin : Origin)
    → is_some (origin_version (origin_again root origin)) ≡ is_some (origin_version origin)
version-again root (from_registry version) = refl
version-again root (from_path path None) = refl
version-again root (from_path path (Some v)) = refl
version-again root (from_git g) = some-map g.version
  where
    some-map : (version : Option (List ℕ)) → is_some (option_map cut version) ≡ is_some version
    some-map None = refl
    some-map (Some v) = refl
version-again root from_workspace = refl

-- what is written twice is written once
if-twice : {X : Type 0} (b : Bool) (o : Option X)
    → (if b then (if b then o else None) else None) ≡ (if b then o else None)
if-twice true o = refl
if-twice false o = refl

-- the options that are read back have the same keys
options-again : (root : List ℕ) (r : EntryRecord) (origin : Origin) → r.origin ≡ Some origin
    → option_members (read_again r (origin_again root origin)) ≡ option_members r
options-again root r origin is =
    rw (
      is,
      version-again root origin,
      names-again r.name r.rename,
      if-twice (is_some (origin_version origin)) r.registry,
    ) refl

-- the inline table that is read back is the same
full-again : (root : List ℕ) (r : EntryRecord) (origin : Origin) → r.origin ≡ Some origin
    → IsPlainSource r.registry origin → IfSome (origin_version origin) (λ v. holds_plus v ≡ false)
    → full_item root (read_again r (origin_again root origin)) ≡ full_item root r
full-again root r origin is plain whole =
    rw (options-again root r origin is, members-again root r.registry origin plain whole, is) refl

-- the result of reading the inline table
table-read : (root : List ℕ) (r : EntryRecord) (origin : Origin) → r.origin ≡ Some origin
    → IsPlainSource r.registry origin
    → record_of (item_view false (full_item root r)) [] root (key_of r)
    ≡ Ok (read_again r (origin_again root origin))
table-read root r origin is plain =
    ap (λ o. table_record (shown (origin_members root o ++ option_members r)) root (key_of r)) is
    ∙ table-again root (origin_members root (Some origin)) r (origin_again root origin)
    (members-apart root origin) (origin-read root r (key_of r) r.registry origin plain)

-- an answer that is known
known : {A : Type 0} (P : A → Type 0) (result : Result A EntryError) (x : A) → result ≡ Ok x → P x
    → IsOkAnd result P
known P result x is p = subst (λ t. IsOkAnd t P) (sym is) p

-- an inline table is read back if the result of reading it is written as the same inline table
table-reads : (root : List ℕ) (r : EntryRecord) (origin : Origin) → r.origin ≡ Some origin
    → IsPlainSource r.registry origin → IfSome (origin_version origin) (λ v. holds_plus v ≡ false)
    → item_of root (read_again r (origin_again root origin))
    ≡ full_item root (read_again r (origin_again root origin))
    → HasRoundTrip root (key_of r) (full_item root r)
table-reads root r origin is plain whole full =
    known (λ again. item_of root again ≡ full_item root r) _ (read_again r (origin_again root origin))
    (table-read root r origin is plain) (full ∙ full-again root r origin is plain whole)

-- the registry is written with a registry source, and is absent with the workspace
registry-remains : (r : EntryRecord) (origin : Origin) → r.origin ≡ Some origin
    → is_some (origin_version origin) ≡ true → written_registry r ≡ r.registry
registry-remains r origin is some = rw (is, some) refl

no-registry : (r : EntryRecord) → r.registry ≡ None → written_registry r ≡ r.registry
no-registry r none = both-none (is_some (option_and_then origin_version r.origin)) r.registry none
  where
    both-none : (b : Bool) (o : Option (List ℕ)) → o ≡ None → (if b then o else None) ≡ o
    both-none true o e = refl
    both-none false o e = sym e

-- the result of reading is short if the dependency is
short-again : (r : EntryRecord) (origin : Origin) → written_registry r ≡ r.registry
    → is_short (read_again r origin) ≡ is_short r
short-again r origin of_registry = rw (of_registry, names-again r.name r.rename) refl

-- a dependency with a registry source
registry-reads : (root version : List ℕ) (r : EntryRecord) (short : Bool)
    → r.origin ≡ Some (from_registry version)
    → holds_plus version ≡ false → is_short r ≡ short
    → HasRoundTrip root (key_of r) (item_by root r (Some (from_registry version)) short)
registry-reads root version r true is whole e = ap (λ v. a_value (a_string v)) (cut-none version whole)
registry-reads root version r false is whole e =
    let of_registry = registry-remains r (from_registry version) is refl in
    let short = short-again r (from_registry (cut version)) of_registry in
    table-reads root r (from_registry version) is tt whole (rw (short, e) refl)

-- a dependency with a workspace source
workspace-reads : (root : List ℕ) (r : EntryRecord) (short : Bool) → r.origin ≡ Some from_workspace
    → r.registry ≡ None → is_short r ≡ short
    → HasRoundTrip root (key_of r) (item_by root r (Some from_workspace) short)
workspace-reads root r true is none e = refl
workspace-reads root r false is none e =
    let short = short-again r from_workspace (no-registry r none) in
    table-reads root r from_workspace is none tt (rw (short, e) refl)

-- a dependency with any source
source-reads : (root : List ℕ) (r : EntryRecord) (origin : Origin) → r.origin ≡ Some origin
    → IsPlainSource r.registry origin → IfSome (origin_version origin) (λ v. holds_plus v ≡ false)
    → HasRoundTrip root (key_of r) (item_by root r (Some origin) (is_short r))
source-reads root r (from_registry version) is plain whole =
    registry-reads root version r (is_short r) is whole refl
source-reads root r (from_path path version) is plain whole =
    table-reads root r (from_path path version) is plain whole refl
source-reads root r (from_git g) is plain whole = table-reads root r (from_git g) is plain whole refl
source-reads root r from_workspace is plain whole = workspace-reads root r (is_short r) is plain refl

-- the law
pub reads-again : (root : List ℕ) (r : EntryRecord) → IsPlain r
    → HasRoundTrip root (key_of r) (item_of root r)
reads-again root r plain = by r.origin refl plain.sourced plain.plain plain.no_plus
  where
    by : (o : Option Origin) → r.origin ≡ o → IsSome o → IfSome o (IsPlainSource r.registry)
        → IfSome (option_and_then origin_version o) (λ version. holds_plus version ≡ false)
        → HasRoundTrip root (key_of r) (item_by root r o (is_short r))
    by None is some plain whole = absurd cc
    by (Some origin) is some plain whole = source-reads root r origin is plain whole

-- an entry is read back wherever it is in a tree
pub reads-there : (t : Tree) (place : Place) (root dep : List ℕ) (item : NewItem)
    → ((q : Place) → t (place ++ q) ≡ item_view false item q) → HasRoundTrip root dep item
    → IsOkAnd (record_of t place root dep) (λ again. item_of root again ≡ item)
reads-there t place root dep item there again =
    let whole : below t place ≡ item_view false item = λ i q. there q i in
    let here : t place ≡ item_view false item [] = ap t (sym (append-nil place)) ∙ there [] in
    subst (λ result. IsOkAnd result (λ r. item_of root r ≡ item))
    (sym (λ i. entry_record (whole i) root dep (here i))) again
