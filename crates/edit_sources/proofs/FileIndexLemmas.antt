-- Indexes in a single file, by the groups of their entries.
use Rattle.std.proofs.Common.{◌≡◌, ◌∙◌, ◌⊎◌, ℕ, List, [], ◌∷◌, Bool, true, false, Option, Ok, Err, cond, map, refl, ap, subst, sym}
use Rattle.std.specs.Prelude.{string_bytes}
use Rattle.std.specs.BTreeMap.{get_by_text}
use Rattle.std.specs.List.{filter}
use Rattle.std.specs.Str.{bytes_eq}
use Rattle.edit_version.specs.IndexEntry.{IndexEntry, entry_of}
use Rattle.edit_version.specs.declared.fetch.IndexVersion.{IndexVersion}
use Rattle.edit_sources.specs.FileIndex.{GroupsByName, HoldsLines, file_view, if_known, items_at, named, withheld_at}
use Rattle.edit_sources.specs.Index.{Outcome, SameOutcomes, bad_name}
use Rattle.edit_sources.specs.Names.{is_crate_name}
use Rattle.edit_sources.specs.IndexLines.{HaveEntriesInOrder, lines_of}
use Rattle.edit_sources.specs.declared.file_index.FileIndex.{FileIndex}

-- the results of a lookup where the index has this answer
abbrev Results : List ℕ → Outcome → Option (List IndexEntry) → Type 0
Results name outcome answer =
    ((is_crate_name name ≡ false) × (outcome ≡ Err (bad_name name)))
    ⊎ ((is_crate_name name ≡ true) × (outcome ≡ Ok answer))

map-cond : (b : Bool) (x : IndexVersion) (xs : List IndexVersion) (es : List IndexEntry)
    → map entry_of xs ≡ es → map entry_of (cond b (x ∷ xs) xs) ≡ cond b (entry_of x ∷ es) es
map-cond true x xs es h = ap (λ t. entry_of x ∷ t) h
map-cond false x xs es h = h

-- the entries of a filtered list are the filtered entries
map-filter : (q : List ℕ) (xs : List IndexVersion)
    → map entry_of (filter (λ v. bytes_eq q (string_bytes v.name)) xs)
    ≡ filter (λ e. bytes_eq q e.name) (map entry_of xs)
map-filter q [] = refl
map-filter q (x ∷ xs) = map-cond (bytes_eq q (string_bytes x.name)) x
    (filter (λ v. bytes_eq q (string_bytes v.name)) xs) (filter (λ e. bytes_eq q e.name) (map entry_of xs))
    (map-filter q xs)

-- an index whose groups are those of the entries of lines holds the lines
pub grouped_lines : (index : FileIndex) (versions : List IndexVersion) (bytes : List ℕ)
    → HaveEntriesInOrder (lines_of bytes) (map entry_of versions) → GroupsByName index.groups versions
    → HoldsLines index bytes
grouped_lines index versions bytes say grouped = record {
  entries = map entry_of versions;
  say = say;
  groups = λ q. ap (λ xs. map entry_of xs) (grouped q) ∙ map-filter q versions;
}

-- the results of lookups depend on the entries of each crate and what is held back of it
pub same_entries : (old new : FileIndex) → new.withheld ≡ old.withheld
    → ((name : List ℕ) → items_at new.groups name ≡ items_at old.groups name)
    → SameOutcomes (file_view old).gives (file_view new).gives
same_entries old new withheld same address name outcome =
    let known : if_known (withheld_at new name) (named new name)
    ≡ if_known (withheld_at old name) (named old name) =
    ap (λ w. if_known (get_by_text w name) (named new name)) withheld ∙
    ap (λ es. if_known (withheld_at old name) (map entry_of es)) (same name) in (
      subst (λ k. Results name outcome k) known,
      subst (λ k. Results name outcome k) (sym known),
    )
