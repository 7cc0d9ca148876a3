-- The rows, outputs and warnings of an input do not depend on the other inputs.
use Rattle.std.proofs.Common.{◌≡◌, ◌∷◌, [], List, ℕ, Option, Some, None, true, false, refl, ap, ◌∙◌, sym, subst, length, map}
use Rattle.std.specs.Prelude.{All, filter, not, option_and_then, option_map, ◌==◌}
use Rattle.std.specs.List.{AllZip, cons_option, filter_map}
use Rattle.std.proofs.lemmas.List.Elements.{All-cons, All-nil}
use Rattle.edit_tree.specs.Replaces.{Edits}
use Rattle.edit_tree.specs.Tree.{view_at}
use Rattle.edit_manifest.specs.Entries as found
use Rattle.edit_manifest.specs.Entries.{entries}
use Rattle.edit_record.specs.EntryRecords.{EntryRecord}
use Rattle.edit_report.specs.declared.output.Output.{Output}
use Rattle.edit_sources.specs.declared.config.Config.{Config}
use Rattle.edit_version.specs.RustVersions.{Numbers}
use Rattle.semver.specs.Parse.{Parts}
use Rattle.edit_upgrade.specs.Drafts.{outputs_on}
use Rattle.edit_upgrade.specs.Inputs.{output_path}
use Rattle.edit_upgrade.specs.Lists.{IsWarningBy, IsWarningOn, WarningView, unparsed_requirement, unreadable_text, warning_record, warning_by}
use Rattle.edit_upgrade.specs.Lookups.{CachedAnswers, cached_basis}
use Rattle.edit_upgrade.specs.Outputs.{AreOutputs, HasOutputs, changed, unchanged}
use Rattle.edit_upgrade.specs.Records.{RowEntry, Source, row_entries, source_of, version_of}
use Rattle.edit_upgrade.specs.Rows.{AreDecided, IsRowOver, Line, writes}
use Rattle.edit_upgrade.specs.Upgraded.{HasWarnings}
use Rattle.edit_upgrade.specs.declared.decision.options.Options.{Options}

-- ---- rows

row-input : (i : ℕ) (o : Options) (versions : List Parts) (e : RowEntry) (old : Option (List ℕ)) (line : Line)
    → IsRowOver i o versions e old line → line.input ≡ i
row-input i o versions e None line d = ap (λ (l : Line). l.input) d
row-input i o versions e (Some old) line d = ap (λ (l : Line). l.input) d.is

pub decided-inputs : (i : ℕ) (o : Options) (rust : Option Numbers) (configs : List Config) (cached : CachedAnswers)
    (es : List RowEntry) (ls : List Line)
    → AreDecided (cached_basis i o rust configs cached) es ls → All (λ (l : Line). l.input ≡ i) ls
decided-inputs i o rust configs cached [] [] h = All-nil (λ (l : Line). l.input ≡ i)
decided-inputs i o rust configs cached [] (l ∷ ls) h = absurd h
decided-inputs i o rust configs cached (e ∷ es) [] h = absurd h
decided-inputs i o rust configs cached (e ∷ es) (l ∷ ls) h =
    All-cons (λ (x : Line). x.input ≡ i) l ls (row-input i o h.0.versions e e.old l h.0.decided)
    (decided-inputs i o rust configs cached es ls h.1)

-- ---- outputs

paths-are : (path bytes : List ℕ) (edits : Edits) (outputs : List Output)
    → AreOutputs path bytes edits outputs → All (λ (q : Output). output_path q ≡ path) outputs
paths-are path bytes edits _ (unchanged none) = All-nil (λ (q : Output). output_path q ≡ path)
paths-are path bytes edits _ (changed output some at r) =
    All-cons (λ (q : Output). output_path q ≡ path) output [] at
    (All-nil (λ (q : Output). output_path q ≡ path))

pub written-paths : (path bytes : List ℕ) (lines : List Line) (outputs : List Output)
    → HasOutputs path bytes lines outputs
    → All (λ (q : Output). output_path q ≡ path) outputs
written-paths path bytes lines outputs h = paths-are path bytes (writes (row_entries (view_at h.form)) lines)
    outputs h.are

-- the path of an input is among those with outputs where it has one
path-order : (path bytes : List ℕ) (edits : Edits) (outputs all : List Output)
    → AreOutputs path bytes edits outputs → outputs_on path all ≡ outputs
    → map output_path outputs ≡ filter (λ q. not (length (outputs_on q all) == 0)) (path ∷ [])
path-order path bytes edits _ all (unchanged none) h =
    let off : not (length (outputs_on path all) == 0) ≡ false = ap
    (λ (os : List Output). not (length os == 0)) h in
    rw off refl
path-order path bytes edits _ all (changed output some at r) h =
    let on : not (length (outputs_on path all) == 0) ≡ true = ap
    (λ (os : List Output). not (length os == 0)) h in
    rw on (ap (λ (q : List ℕ). q ∷ []) at)

pub one-path-order : (path bytes : List ℕ) (lines : List Line) (outputs : List Output)
    → HasOutputs path bytes lines outputs
    → (all : List Output) → outputs_on path all ≡ outputs
    → map output_path outputs ≡ filter (λ q. not (length (outputs_on q all) == 0)) (path ∷ [])
one-path-order path bytes lines outputs h all e = path-order path bytes
    (writes (row_entries (view_at h.form)) lines) outputs all h.are e

-- ---- warnings

-- each warning is on its input
warned-input : (i : ℕ) (name : List ℕ) (o : Option (List ℕ)) (w : WarningView)
    → option_map (λ old. warning_record i false (unreadable_text name old)) o ≡ Some w → w.input ≡ i
warned-input i name None w h = cc h
warned-input i name (Some old) w h = sym (ap result-input h)
  where
    result-input : Option WarningView → ℕ
    result-input None = i
    result-input (Some t) = t.input

by-source : (o : Options) (i : ℕ) (name : List ℕ) (r : EntryRecord) (source : Option Source) (w : WarningView)
    → warning_by o i name r source ≡ Some w → w.input ≡ i
by-source o i name r None w h = sym (ap result-input h)
  where
    result-input : Option WarningView → ℕ
    result-input None = i
    result-input (Some t) = t.input
by-source o i name r (Some source) w h =
    warned-input i name (option_and_then (unparsed_requirement o r) (version_of r)) w h

by-record : (o : Options) (i : ℕ) (name : List ℕ) (said : Option EntryRecord) (result : Option WarningView) (w : WarningView)
    → IsWarningBy o i name said result → result ≡ Some w → w.input ≡ i
by-record o i name None result w h q = sym (ap result-input (sym h.1 ∙ q))
  where
    result-input : Option WarningView → ℕ
    result-input None = i
    result-input (Some t) = t.input
by-record o i name (Some r) result w h q = by-source o i name r (source_of r) w (sym h ∙ q)

cons-input : (i : ℕ) (result : Option WarningView) (ts : List WarningView)
    → ((w : WarningView) → result ≡ Some w → w.input ≡ i)
    → All (λ (t : WarningView). t.input ≡ i) ts
    → All (λ (t : WarningView). t.input ≡ i) (cons_option result ts)
cons-input i None ts h g = g
cons-input i (Some w) ts h g = All-cons (λ (t : WarningView). t.input ≡ i) w ts (h w refl) g

warnings-input : (o : Options) (i : ℕ) (es : List found.Entry) (each : List (Option WarningView))
    → AllZip (IsWarningOn o i) es each → All (λ (t : WarningView). t.input ≡ i) (filter_map (λ result. result) each)
warnings-input o i [] [] h = All-nil (λ (t : WarningView). t.input ≡ i)
warnings-input o i [] (t ∷ ts) h = absurd h
warnings-input o i (e ∷ es) [] h = absurd h
warnings-input o i (e ∷ es) (t ∷ ts) h =
    cons-input i t (filter_map (λ result. result) ts) (λ w q. by-record o i e.name e.said t w h.0 q)
    (warnings-input o i es ts h.1)

pub warned-inputs : (o : Options) (i : ℕ) (bytes : List ℕ) (result : List WarningView)
    → HasWarnings o i bytes result
    → All (λ (t : WarningView). t.input ≡ i) result
warned-inputs o i bytes result h =
    subst (λ (ts : List WarningView). All (λ (t : WarningView). t.input ≡ i) ts) (sym h.are.all)
    (warnings-input o i (entries (view_at h.form) []) h.are.each h.are.on)
