-- The rows and lookups of a manifest, from those of its entries.
use Rattle.std.proofs.Common.{◌≡◌, [], List, ℕ, None, Result, Ok, Err, map, ap, ◌∙◌, sym, subst, inl, inr, ◌⊎◌, length}
use Rattle.std.specs.Prelude.{◌&&◌, ◌||◌, All, Bool, IfErr, IsErrAnd, option_map}
use Rattle.std.specs.List.{list_any}
use Rattle.std.specs.Str.{bytes_eq}
use Rattle.std.proofs.lemmas.List.{length-map}
use Rattle.std.proofs.lemmas.Slice.Zip.{AllZip-long}
use Rattle.edit_base.specs.Errors.{IsMemory}
use Rattle.edit_syntax.specs.Grammar.{Text}
use Rattle.edit_tree.specs.Assertions.{IsDocument}
use Rattle.edit_tree.specs.DocumentViews.{DocumentViews, ShowsTree, tree_of}
use Rattle.edit_tree.specs.Tree.{view_at}
use Rattle.edit_base.specs.declared.errors.Error.{Error}
use Rattle.edit_tree.proofs.Shallow.{one_form}
use Rattle.edit_manifest.specs.Tables.{Tree}
use Rattle.edit_manifest.specs.Entries as found
use Rattle.edit_manifest.specs.Entries.{entries}
use Rattle.edit_sources.specs.Index.{Outcomes}
use Rattle.edit_sources.specs.declared.config.Config.{Config}
use Rattle.edit_upgrade.specs.Caches.{CacheView}
use Rattle.edit_upgrade.specs.Causes.{IsPassed}
use Rattle.edit_upgrade.specs.Failures.{FailsAt, FailsAtEntry}
use Rattle.edit_upgrade.specs.Found.{row_entry_view}
use Rattle.edit_upgrade.specs.Lines.{line_of}
use Rattle.edit_upgrade.specs.Lists.{AreWarnings, WarningView}
use Rattle.edit_upgrade.specs.LookupSteps.{AreSteps, Leaves}
use Rattle.edit_upgrade.specs.Lookups.{CachedAnswers, cached_basis}
use Rattle.edit_upgrade.specs.Missing.{AddsNames, names_in}
use Rattle.edit_upgrade.specs.PairSets.{holds_pair}
use Rattle.edit_upgrade.specs.PlannedView.{AreRowEntries, IsPlannedView, IsWalked}
use Rattle.edit_upgrade.specs.Records.{RowEntry, row_entries}
use Rattle.edit_upgrade.specs.Rows.{AreDecided, Basis, IsRowBy, Line}
use Rattle.edit_upgrade.specs.Upgraded.{HasWarnings, IsNeededBy, IsNeededIn}
use Rattle.edit_upgrade.specs.EntrySelection.{is_named, package_args_of}
use Rattle.edit_upgrade.specs.declared.planned.Planned.{Planned}
use Rattle.edit_upgrade.specs.declared.entries_with_rows.Entry.{Entry}
use Rattle.edit_upgrade.specs.declared.decision.options.Options.{Options}
use Rattle.edit_upgrade.specs.declared.failure.PlanFailure.{PlanFailure}
use Rattle.edit_upgrade.specs.declared.walk.LookupLog.{LookupLog}
use Rattle.edit_metadata.specs.declared.input.Input.{Input}
use Rattle.edit_version.specs.RustVersions.{numbers_of}
use Rattle.edit_report.specs.declared.row.Row.{Row}
use Rattle.edit_upgrade.proofs.LookUpLemmas.{leaves-wider}

-- the tree of a document is that of its form
pub same-seen : (d : DocumentViews) (form : Text) → ShowsTree d form
    → row_entries (tree_of d) ≡ row_entries (view_at form)
same-seen d form h =
    let same : tree_of d ≡ view_at form = λ i p. h p i in
    ap row_entries same

-- what fails with an error that has a property has it
pub failure-has : {T E : Type 0} (r : Result T E) (e : E) (P : E → Type 0)
    → IsErrAnd r (λ other. other ≡ e) → P e → IfErr r P
failure-has (Ok x) e P same h = tt
failure-has (Err other) e P same h = subst P (sym same) h

-- the same, where `?` makes a failure from an error
pub failure-of : {T : Type 0} (r : Result T PlanFailure) (e : Error) (P : PlanFailure → Type 0)
    → IsErrAnd r (λ f. (f.error ≡ e) × (f.origin ≡ None)) → ((f : PlanFailure) → f.error ≡ e → P f)
    → IfErr r P
failure-of (Ok x) e P same h = tt
failure-of (Err f) e P same h = h f same.0

-- they are seen in whatever form
pub seen-in : (bytes : List ℕ) (es : List RowEntry) → (a : AreRowEntries bytes es) → (f : Text) → IsDocument bytes f
    → row_entries (view_at f) ≡ es
seen-in bytes es a f m = ap (λ (x : Text). row_entries (view_at x)) (one_form bytes f a.form m a.manifest)
    ∙ sym a.are

-- the entries of a document that shows its forms
pub document-seen : (bytes : List ℕ) (d : DocumentViews) (es : List RowEntry) → d.bytes ≡ bytes
    → (form : Text)
    × IsDocument d.bytes form
    → ((form : Text) → IsDocument d.bytes form → ShowsTree d form) → es ≡ row_entries (tree_of d)
    → AreRowEntries bytes es
document-seen bytes d es same f shows whole = record {
  form = f.0;
  manifest = subst (λ (x : List ℕ). IsDocument x f.0) same f.1;
  are = whole ∙ same-seen d f.0 (shows f.0 f.1);
}

-- a document whose entries each have a row
pub planned-shown : (bytes : List ℕ) (d : DocumentViews) (p : Planned) → d.bytes ≡ bytes → (form : Text)
    × IsDocument d.bytes form
    → ((form : Text) → IsDocument d.bytes form → ShowsTree d form) → map row_entry_view p.entries.items
    ≡ row_entries (tree_of d)
    → length p.rows.items ≡ length p.entries.items → IsPlannedView bytes d p
planned-shown bytes d p same f shows whole long = record {
  form = f.0;
  manifest = subst (λ (x : List ℕ). IsDocument x f.0) same f.1;
  tree = shows f.0 f.1;
  same = same;
  entries = whole ∙ same-seen d f.0 (shows f.0 f.1);
  long = long;
}

-- ---- from the entries to the manifest

-- the walk over its entries is one of the manifest
pub planned-walked : (i : ℕ) (o : Options) (input : Input) (configs : List Config) (gives : Outcomes)
    (old new : CachedAnswers) (before after : LookupLog) (es : List RowEntry)
    (ls : List Line) → AreRowEntries input.bytes.items es
    → AreSteps configs gives es old new before.looks.items after.looks.items (holds_pair before.pairs)
    (holds_pair after.pairs)
    → All (IsPassed configs new) es → AreDecided (cached_basis i o (option_map numbers_of input.rust_version)
    configs new) es ls
    → IsWalked i o input configs gives old new before after ls
planned-walked i o input configs gives old new before after es ls a steps passed d = record {
  form = a.form;
  manifest = a.manifest;
  steps = subst (λ (xs : List RowEntry). AreSteps configs gives xs old new before.looks.items after.looks.items
      (holds_pair before.pairs) (holds_pair after.pairs)) a.are steps;
  passed = subst (λ (xs : List RowEntry). All (IsPassed configs new) xs) a.are passed;
  decided = subst (λ (xs : List RowEntry). AreDecided (cached_basis i o (option_map numbers_of
      input.rust_version) configs new) xs ls) a.are d;
}

-- each entry has a row
pub rows-long : (b : Basis) (entries : List Entry) (rows : List Row)
    → AreDecided b (map row_entry_view entries) (map line_of rows) → length rows ≡ length entries
rows-long b entries rows d =
    sym (length-map rows line_of) ∙ AllZip-long (IsRowBy b) (map row_entry_view entries) (map line_of rows) d
    ∙ length-map entries row_entry_view

-- what the manifest needs, and what its entries need
pub of-manifest : (configs : List Config) (bytes : List ℕ) (es : List RowEntry) → AreRowEntries bytes es
    → (address name : List ℕ) → IsNeededBy configs bytes address name
    → IsNeededIn configs es address name
of-manifest configs bytes es a address name h =
    subst (λ (xs : List RowEntry). IsNeededIn configs xs address name) (seen-in bytes es a h.form h.manifest)
    h.needed

pub to-manifest : (configs : List Config) (bytes : List ℕ) (es : List RowEntry) → AreRowEntries bytes es
    → (address name : List ℕ) → IsNeededIn configs es address name
    → IsNeededBy configs bytes address name
to-manifest configs bytes es a address name h = record {
  form = a.form;
  manifest = a.manifest;
  needed = subst (λ (xs : List RowEntry). IsNeededIn configs xs address name) a.are h;
}

-- what is left of them
pub planned-left : (configs : List Config) (bytes : List ℕ) (first last : Outcomes) (b c : ℕ)
    (old now : CachedAnswers) (es : List RowEntry) → AreRowEntries bytes es
    → Leaves (IsNeededIn configs es) first last b c old now → Leaves (IsNeededBy configs bytes) first last
    b c old now
planned-left configs bytes first last b c old now es a left =
    leaves-wider (IsNeededBy configs bytes) (IsNeededIn configs es) first last b c old now
    (to-manifest configs bytes es a) left

-- at which of them a plan fails
pub planned-fails : (i : ℕ) (configs : List Config) (bytes : List ℕ) (was now : CacheView)
    (es : List RowEntry) (f : PlanFailure) → AreRowEntries bytes es
    → IsMemory f.error ⊎ FailsAt i configs was now es f
    → IsMemory f.error ⊎ FailsAtEntry i configs bytes was now f
planned-fails i configs bytes was now es f a (inl memory) = inl memory
planned-fails i configs bytes was now es f a (inr fails) =
    let own = subst (λ (xs : List RowEntry). FailsAt i configs was now xs f) a.are fails in
    inr (record { form = a.form; manifest = a.manifest; stops = own.0 }, own.1)

-- the warnings on the entries of a document are those of the manifest
pub planned-warnings : (o : Options) (number : ℕ) (bytes : List ℕ) (d : DocumentViews) (es : List found.Entry)
    (ts : List WarningView)
    → d.bytes ≡ bytes → (form : Text) × IsDocument d.bytes form
    → ((form : Text) → IsDocument d.bytes form → ShowsTree d form) → es ≡ entries (tree_of d) []
    → AreWarnings o number es ts → HasWarnings o number bytes ts
planned-warnings o number bytes d es ts same f shows whole w =
    let tree : tree_of d ≡ view_at f.0 = λ i p. shows f.0 f.1 p i in
    record {
      form = f.0;
      manifest = subst (λ (x : List ℕ). IsDocument x f.0) same f.1;
      are = subst (λ (xs : List found.Entry). AreWarnings o number xs ts)
          (whole ∙ ap (λ (t : Tree). entries t []) tree) w;
    }

-- the names of the entries of a document, added to those that are known, are those of the manifest
pub planned-names : (o : Options) (bytes : List ℕ) (d : DocumentViews) (es : List found.Entry)
    (old new : List ℕ → Bool) → d.bytes ≡ bytes → (form : Text) × IsDocument d.bytes form
    → ((form : Text) → IsDocument d.bytes form → ShowsTree d form) → es ≡ entries (tree_of d) []
    → ((name : List ℕ) → new name
    ≡ (old name || (is_named (package_args_of o) name && list_any (bytes_eq name) (names_in es))))
    → AddsNames o bytes old new
planned-names o bytes d es old new same f shows whole adds =
    let tree : tree_of d ≡ view_at f.0 = λ i p. shows f.0 f.1 p i in
    record {
      names = names_in es;
      have = record {
        form = f.0;
        manifest = subst (λ (x : List ℕ). IsDocument x f.0) same f.1;
        are = ap names_in (whole ∙ ap (λ (t : Tree). entries t []) tree);
      };
      are = adds;
    }
