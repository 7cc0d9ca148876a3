-- The names that `--package` arguments select and that no entry has.
use Rattle.std.specs.Prelude.{◌≡◌, ◌&&◌, ◌||◌, ℕ, List, [], Bool, Option, filter, map, not, option_map, string_bytes}
use Rattle.std.specs.List.{AllZip, filter_map, list_any}
use Rattle.std.specs.Str.{bytes_eq}
use Rattle.edit_syntax.specs.Grammar.{Text}
use Rattle.edit_tree.specs.Assertions.{IsDocument}
use Rattle.edit_tree.specs.Tree.{view_at}
use Rattle.edit_manifest.specs.Entries.{Entry, entries}
use Rattle.edit_metadata.specs.declared.input.Input.{Input}
use Rattle.edit_record.specs.EachOnce.{each_once}
use Rattle.edit_version.specs.CrateSpecs.{spec_name}
use Rattle.edit_upgrade.specs.EntrySelection.{is_named, package_args_of}
use Rattle.edit_upgrade.specs.declared.decision.options.Options.{Options}
use Rattle.edit_upgrade.specs.declared.upgrade.UpgradePlan.{UpgradePlan}

-- the crate's name of an entry, where the entry can be read
abbrev pub name_of : Entry → Option (List ℕ)
name_of e = option_map (λ r. r.name) e.said

-- the crates' names of the entries that can be read, in order
abbrev pub names_in : List Entry → List (List ℕ)
names_in es = filter_map name_of es

-- the bytes are a manifest, and these are the names of its entries
pub record HasEntryNames (bytes : List ℕ) (names : List (List ℕ)) : Type 0 where
  pub form : Text
  pub manifest : IsDocument bytes form
  pub are : names ≡ names_in (entries (view_at form) [])

-- the name is among those of one of the inputs
abbrev pub is_among : List (List (List ℕ)) → List ℕ → Bool
is_among names name = list_any (list_any (bytes_eq name)) names

-- the missing names: those of the package arguments, each once in their order, that no entry of an input has
pub record AreMissing (o : Options) (inputs : List Input) (missing : List (List ℕ)) : Type 0 where
  pub names : List (List (List ℕ))
  pub have : AllZip (λ input own. HasEntryNames input.bytes.items own) inputs names
  pub are : missing ≡ filter (λ name. not (is_among names name)) (each_once (map spec_name
      (package_args_of o)))

-- the plan lists the missing names
abbrev pub ListsMissing : Options → List Input → UpgradePlan → Type 0
ListsMissing o inputs p = AreMissing o inputs (map string_bytes p.missing.items)

-- the names that are known of these inputs: those that package arguments select, of their entries (own)
pub record AreKnown (o : Options) (inputs : List Input) (known : List ℕ → Bool) : Type 0 where
  pub names : List (List (List ℕ))
  pub have : AllZip (λ input own. HasEntryNames input.bytes.items own) inputs names
  pub are : (name : List ℕ) → known name ≡ (is_named (package_args_of o) name && is_among names name)

-- the names that are known then, with those of one manifest more (own)
pub record AddsNames (o : Options) (bytes : List ℕ) (old new : List ℕ → Bool) : Type 0 where
  pub names : List (List ℕ)
  pub have : HasEntryNames bytes names
  pub are : (name : List ℕ) → new name
      ≡ (old name || (is_named (package_args_of o) name && list_any (bytes_eq name) names))
