-- The files that an upgrade reads, and its plan over them.
use Rattle.std.specs.Prelude.{ℕ, List, [], Bool, Option, Some, None, if◌then◌else◌, option_map, string_bytes, unwrap_or}
use Rattle.std.specs.Global.{Vec}
use Rattle.edit_base.specs.declared.errors.Error.{Error}
use Rattle.edit_lock.specs.LockFile.{Package}
use Rattle.edit_lock.specs.Views.{lock_view}
use Rattle.edit_restricted_index.specs.RestrictedIndex.{restricted_view}
use Rattle.edit_restricted_index.specs.Restrictions.{VersionTest, restriction_test}
use Rattle.edit_sources.specs.DirIndex.{dir_view}
use Rattle.edit_metadata.specs.declared.input.Input.{Input}
use Rattle.edit_sources.specs.Configured.{given}
use Rattle.edit_sources.specs.FileIndex.{file_view}
use Rattle.edit_sources.specs.Index.{IndexView}
use Rattle.edit_sources.specs.LocalIndex.{local_view}
use Rattle.edit_sources.specs.Published.{published_view}
use Rattle.edit_sources.specs.declared.config.Config.{Config}
use Rattle.edit_sources.specs.declared.published.PublishedBefore.{PublishedBefore}
use Rattle.edit_store.specs.Store.{StoreView}
use Rattle.edit_upgrade.specs.Caches.{CacheView}
use Rattle.edit_upgrade.specs.Causes.{IsCause}
use Rattle.edit_upgrade.specs.Lookups.{AddsNeeded, CachedAnswers}
use Rattle.edit_upgrade.specs.Plans.{IsPlan}
use Rattle.edit_upgrade.specs.Upgraded.{IsNeeded}
use Rattle.edit_upgrade.specs.OptionCauses.{IsPlanError}
use Rattle.edit_upgrade.specs.declared.decision.options.Options.{Options}
use Rattle.edit_upgrade.specs.declared.upgrade.UpgradePlan.{UpgradePlan}
use Rattle.edit_steps.specs.RequestView.{RequestView, rust_request}
use Rattle.edit_steps.specs.declared.upgrade_read.index.IndexSource.{IndexSource}
use Rattle.edit_steps.specs.declared.upgrade_read.index.IndexSource.TheVariants as source
use Rattle.edit_program.specs.declared.upgrade_run.following.Readings.{Readings}
use Rattle.edit_program.specs.declared.upgrade_run.upgrade_args.UpgradeArgs.{UpgradeArgs}

-- the manifests and configurations to read, from the arguments
abbrev pub to_request : UpgradeArgs → RequestView
to_request args = record {
  manifest = given args.manifest_path;
  metadata = given args.metadata_json;
  config = given args.config;
  default_config = given args.default_config;
  rust = rust_request args.rust;
}

-- the index of an upgrade: the lines of the index file, the index folder, or the index in files; the last
-- two use the same files, with a bound the lines of versions that were published by then
abbrev pub index_view : Option PublishedBefore → IndexSource → StoreView → IndexView
index_view bound source.Files local = local_view (published_view bound local)
index_view bound (source.Lines index) local = file_view index
index_view bound (source.Folder folder) local = dir_view (string_bytes folder) (published_view bound local)

-- the packages to which an upgrade is restricted: with `--to-lockfile` those of the lock file
abbrev pub restriction : Bool → Option (List Package) → Option (List Package)
restriction to_lockfile lock = if to_lockfile then Some (unwrap_or lock []) else None

-- the versions to which the index of an upgrade is restricted: with `--to-lockfile` those of the lock file,
-- and those that the holds of the policy admit
abbrev pub upgrade_test : Readings → Option VersionTest
upgrade_test r =
    restriction_test (restriction r.args.to_lockfile (option_map lock_view r.lock)) r.policy.crates.items

-- the index of an upgrade, restricted to these versions, and to those that were published by the bound
abbrev pub upgrade_index : Readings → StoreView → IndexView
upgrade_index r local =
    restricted_view (upgrade_test r) (index_view r.args.published_before r.index local)

-- an empty cache
abbrev pub empty_answers : CachedAnswers
empty_answers address name = None

-- the view of a cache: an index, and cached answers
abbrev pub cache_over : IndexView → CachedAnswers → CacheView
cache_over view cached = record { gives = view.gives; faults = view.faults; cached = cached }

-- the plan for inputs with their configurations over an index, with an empty cache
pub record IsPlanned (o : Options) (inputs : List Input) (configs : List (Vec Config)) (view : IndexView)
    (plan : UpgradePlan) : Type 0 where
  pub cached : CachedAnswers
  pub is : IsPlan o inputs configs (cache_over view empty_answers) (cache_over view cached) plan

-- the error of a plan at the first input that is no manifest, or that has an entry whose registry has no
-- address or whose lookup fails; each answer that is cached by then is needed, and the index gives it
pub record IsPlanStopped (inputs : List Input) (configs : List (Vec Config)) (view : IndexView) (e : Error)
    : Type 0 where
  pub cached : CachedAnswers
  pub adds : AddsNeeded (IsNeeded inputs configs) view.gives empty_answers cached
  pub faults : ℕ
  pub cause : IsCause inputs configs view.gives empty_answers cached view.faults faults e

-- the cause of an error of a plan: its options, or an input
abbrev pub IsPlanCause : Options → List Input → List (Vec Config) → IndexView → Error → Type 0
IsPlanCause o inputs configs view e = IsPlanError o (IsPlanStopped inputs configs view) e
