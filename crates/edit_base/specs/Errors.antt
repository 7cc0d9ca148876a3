-- The errors by their numbers.
use Rattle.std.specs.Prelude.{◌≡◌, ℕ}
use Rattle.edit_base.specs.declared.errors.Error.{Error}
use Rattle.edit_base.specs.declared.errors.Error.TheVariants.{NotToml, NotUtf8, Device, NotAbsolute, NoManifest, NoPath, ManifestNotFound, NoTable, NoDependency, MissingVersion, VersionNotString, InvalidDependency, NoVersionPlace, InvalidRequirement, Unsupported, ReleaseLevel, PrereleaseScheme, NumberAtEnd, InvalidMetadata, InvalidName, InvalidType, WorkspaceFalse, UnknownSource, OldDefaultFeatures, UnknownEntry, BadRustVersion, Scheme, IndexPath, BadCrateName, IndexLine, Config, RegistryNotFound, SourceNotFound, MissingRegistry, InvalidUrl, Metadata, FolderTwice, VirtualManifest, PackagesMissing, CannotExclude, Downgrade, Locked, DependenciesMissing, Merged, Output, Memory, CommandLine, Io, EditRefused, Policy}

-- the number of an error
abbrev pub number_of : Error → ℕ
number_of (NotToml _) = 1
number_of NotUtf8 = 2
number_of (Device _) = 3
number_of (NotAbsolute _) = 4
number_of NoManifest = 5
number_of NoPath = 6
number_of (ManifestNotFound _) = 7
number_of (NoTable _) = 8
number_of (NoDependency _ _) = 9
number_of MissingVersion = 10
number_of VersionNotString = 11
number_of InvalidDependency = 12
number_of NoVersionPlace = 13
number_of (InvalidRequirement _) = 14
number_of (Unsupported _) = 15
number_of (ReleaseLevel _ _) = 16
number_of PrereleaseScheme = 17
number_of (NumberAtEnd _ _ _) = 18
number_of (InvalidMetadata _) = 19
number_of (InvalidName _ _) = 20
number_of (InvalidType _ _ _ _) = 21
number_of (WorkspaceFalse _) = 22
number_of (UnknownSource _) = 23
number_of (OldDefaultFeatures _) = 24
number_of (UnknownEntry _) = 25
number_of BadRustVersion = 26
number_of (Scheme _) = 27
number_of (IndexPath _) = 28
number_of (BadCrateName _) = 29
number_of (IndexLine _) = 30
number_of (Config _) = 31
number_of (RegistryNotFound _) = 32
number_of (SourceNotFound _) = 33
number_of MissingRegistry = 34
number_of InvalidUrl = 35
number_of Metadata = 36
number_of (FolderTwice _) = 37
number_of VirtualManifest = 38
number_of (PackagesMissing _) = 39
number_of (CannotExclude _ _) = 40
number_of (Downgrade _ _) = 41
number_of Locked = 42
number_of (DependenciesMissing _) = 43
number_of (Merged _) = 44
number_of Output = 45
number_of Memory = 46
number_of (CommandLine _) = 47
number_of (Io _) = 48
number_of EditRefused = 49
number_of Policy = 50

-- memory ran out
abbrev pub IsMemory : Error → Type 0
IsMemory e = number_of e ≡ 46
