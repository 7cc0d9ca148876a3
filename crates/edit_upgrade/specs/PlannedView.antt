-- The rows of a manifest and what they rest on, as the program has them.
use Rattle.std.specs.Prelude.{◌≡◌, ℕ, List, All, length, map, option_map}
use Rattle.edit_syntax.specs.Grammar.{Text}
use Rattle.edit_tree.specs.Assertions.{IsDocument}
use Rattle.edit_tree.specs.DocumentViews.{DocumentViews, ShowsTree}
use Rattle.edit_tree.specs.Tree.{view_at}
use Rattle.edit_metadata.specs.declared.input.Input.{Input}
use Rattle.edit_sources.specs.Index.{Outcomes}
use Rattle.edit_sources.specs.declared.config.Config.{Config}
use Rattle.edit_version.specs.RustVersions.{numbers_of}
use Rattle.edit_upgrade.specs.Causes.{IsPassed}
use Rattle.edit_upgrade.specs.Found.{row_entry_view}
use Rattle.edit_upgrade.specs.LookupSteps.{AreSteps}
use Rattle.edit_upgrade.specs.Lookups.{CachedAnswers, cached_basis}
use Rattle.edit_upgrade.specs.PairSets.{holds_pair}
use Rattle.edit_upgrade.specs.Records.{RowEntry, row_entries}
use Rattle.edit_upgrade.specs.Rows.{AreDecided, Line}
use Rattle.edit_upgrade.specs.declared.decision.options.Options.{Options}
use Rattle.edit_upgrade.specs.declared.walk.LookupLog.{LookupLog}
use Rattle.edit_upgrade.specs.declared.planned.Planned.{Planned}

-- the document has these bytes, and shows the tree of their form; the entries are those that are seen in it,
-- and each has a row (own)
pub record IsPlannedView (bytes : List ℕ) (d : DocumentViews) (p : Planned) : Type 0 where
  pub form : Text
  pub manifest : IsDocument bytes form
  pub tree : ShowsTree d form
  pub same : d.bytes ≡ bytes
  pub entries : map row_entry_view p.entries.items ≡ row_entries (view_at form)
  pub long : length p.rows.items ≡ length p.entries.items

-- the bytes are a manifest, and these are its seen entries (own)
pub record AreRowEntries (bytes : List ℕ) (es : List RowEntry) : Type 0 where
  pub form : Text
  pub manifest : IsDocument bytes form
  pub are : es ≡ row_entries (view_at form)

-- the bytes are a manifest; a step was made for each of its seen entries, which leaves it a cached
-- answer; these are their rows over the cached answers (own)
pub record IsWalked (i : ℕ) (o : Options) (input : Input) (configs : List Config) (gives : Outcomes)
    (old new : CachedAnswers) (before after : LookupLog) (lines : List Line) : Type 0 where
  pub form : Text
  pub manifest : IsDocument input.bytes.items form
  pub steps : AreSteps configs gives (row_entries (view_at form)) old new before.looks.items after.looks.items
      (holds_pair before.pairs) (holds_pair after.pairs)
  pub passed : All (IsPassed configs new) (row_entries (view_at form))
  pub decided : AreDecided (cached_basis i o (option_map numbers_of input.rust_version) configs new)
      (row_entries (view_at form)) lines
