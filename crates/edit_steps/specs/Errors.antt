-- The errors that each step of reading may return over any store, besides out of memory and failures of a
-- device (own).
use Rattle.std.specs.Prelude.{◌≡◌, ◌⊎◌, ℕ, List, Option, Some, None}
use Rattle.edit_base.specs.declared.errors.Error.{Error}
use Rattle.edit_base.specs.declared.errors.Error.TheVariants.{IndexLine, Metadata, NoManifest, NoPath}
use Rattle.edit_manifest.specs.Loaded.{IsReadError}
use Rattle.edit_manifest.specs.Located.{NamesStart}
use Rattle.edit_metadata.specs.Folders.{NamesFolder}
use Rattle.edit_sources.specs.Configured.{IsConfigErrorAt}
use Rattle.edit_steps.specs.RequestView.{RequestView}

-- a file is named, and it does not exist
abbrev pub IsNamedError : Option (List ℕ) → Error → Type 0
IsNamedError None e = ⊥
IsNamedError (Some named) e = e ≡ NoPath

-- one of the configuration files that are named does not exist
abbrev pub IsPairError : RequestView → Error → Type 0
IsPairError asking e = IsNamedError asking.config e ⊎ IsNamedError asking.default_config e

-- a configuration file is malformed; the error names a file
abbrev pub IsConfigError : Error → Type 0
IsConfigError e = (path : List ℕ) × IsConfigErrorAt path e

-- an index file is named, and it does not exist, or one of its lines is malformed
abbrev pub IsIndexError : Option (List ℕ) → Error → Type 0
IsIndexError None e = ⊥
IsIndexError (Some named) e = (e ≡ NoPath) ⊎ ((line : ℕ) × (e ≡ IndexLine line))

-- the metadata's file does not exist or is malformed, or two members share a folder
abbrev pub IsMetadataError : Error → Type 0
IsMetadataError e = (e ≡ NoPath) ⊎ ((e ≡ Metadata) ⊎ ((folder : List ℕ) × NamesFolder folder e))

-- there is an error of the metadata, or a manifest that they name does not exist
abbrev pub IsWorkspaceError : Error → Type 0
IsWorkspaceError e = IsMetadataError e ⊎ (e ≡ NoManifest)

-- no manifest is found, or its file does not exist, is not UTF-8 or is no TOML document
abbrev pub IsManifestError : List ℕ → Option (List ℕ) → Error → Type 0
IsManifestError current named e = NamesStart current named e ⊎ IsReadError e

-- there is an error of the workspace where its metadata are named, else of the manifest
abbrev pub IsTargetError : List ℕ → Option (List ℕ) → Option (List ℕ) → Error → Type 0
IsTargetError current None named e = IsManifestError current named e
IsTargetError current (Some metadata) named e = IsWorkspaceError e

-- there is an error of the manifests or of a configuration file
abbrev pub IsSourceError : List ℕ → RequestView → Error → Type 0
IsSourceError current asking e =
    IsTargetError current asking.metadata asking.manifest e ⊎ (IsPairError asking e ⊎ IsConfigError e)
