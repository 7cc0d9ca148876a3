-- Planning the outputs of a plan again, over the same lookups, changes nothing.
use Rattle.std.proofs.Common.{◌≡◌, ◌∷◌, [], List, ℕ, Option, Some, refl, ap, ◌∙◌, sym, subst, inl, inr, ◌⊎◌}
use Rattle.std.specs.Prelude.{All, Contains}
use Rattle.std.specs.List.{AllByRecursion, AllZip}
use Rattle.std.proofs.lemmas.List.Elements.{All-cons, All-contains, All-contains_itself, All-head, All-tail, All-weaker, Contains-append_right}
use Rattle.edit_tree.specs.Assertions.{IsDocument, Place}
use Rattle.edit_syntax.specs.Grammar.{Text}
use Rattle.edit_tree.specs.Replaces.{Edits, replaced, tree_with_strings}
use Rattle.edit_tree.specs.Tree.{view_at}
use Rattle.edit_tree.proofs.Shallow.{one_form}
use Rattle.edit_tree.proofs.ReplacedStrings.{strings_view}
use Rattle.edit_version.specs.Requirement.{cut}
use Rattle.edit_sources.specs.declared.config.Config.{Config}
use Rattle.edit_manifest.specs.Tables.{Tree}
use Rattle.edit_upgrade.specs.Headline.{HasNoChange, IsFixedPoint, NeedSame, bytes_after}
use Rattle.edit_upgrade.specs.Inputs.{Setting}
use Rattle.edit_upgrade.specs.Outputs.{AreOutputs, HasOutputs, changed, unchanged}
use Rattle.edit_upgrade.specs.Records.{RowEntry, row_entries}
use Rattle.edit_upgrade.specs.Rows.{Line, with_write, writes}
use Rattle.edit_upgrade.specs.Upgraded.{HasRows, IsNeededFor, IsNeededIn, IsRow}
use Rattle.edit_upgrade.specs.EntrySelection.{HasOnlyNames}
use Rattle.edit_report.specs.declared.output.Output.{Output}
use Rattle.edit_upgrade.proofs.FixedPoint.{all-again, cut-whole, none-written}
use Rattle.edit_upgrade.proofs.SomeRows.{some-again}
use Rattle.edit_upgrade.proofs.SeenFacts.{Stands, mapped-all, seen-apart, seen-stands, writes-strings}
use Rattle.edit_upgrade.proofs.PackageArgLemmas.{none_given}
use Rattle.edit_upgrade.proofs.WrittenEntries.{renew, renewed, written-seen}

-- the requirement of each seen entry is cut already
seen-whole : (t : Tree) → AllByRecursion (λ e. (old : List ℕ) → e.old ≡ Some old → cut old ≡ old) (row_entries t)
seen-whole t =
    mapped-all (Stands t) (λ e. (old : List ℕ) → e.old ≡ Some old → cut old ≡ old) (row_entries t)
    (λ e k old q. let c = k.there old q in ap cut c.2 ∙ cut-whole c.0 ∙ sym c.2) (seen-stands t)

-- rows without a change write nothing
quiet-writes : (es : List RowEntry) (ls : List Line) → All HasNoChange ls → writes es ls ≡ []
quiet-writes [] ls h = refl
quiet-writes (e ∷ es) [] h = refl
quiet-writes (e ∷ es) (l ∷ ls) h =
    ap (λ (o : Option (Place × List ℕ)). with_write o (writes es ls))
    (none-written e l (All-head HasNoChange l ls h))
    ∙ quiet-writes es ls (All-tail HasNoChange l ls h)

-- an input of which nothing is written has no output
none-out : (path bytes : List ℕ) (edits : Edits) (outputs : List Output) → edits ≡ []
    → AreOutputs path bytes edits outputs → outputs ≡ []
none-out path bytes edits _ e (unchanged none) = refl
none-out path bytes edits _ e (changed output some at r) = absurd (some e)

-- ---- reading back

-- a form of the bytes that stand after a plan, and what it shows
record IsReadBack (new : List ℕ) (form : Text) (lines : List Line) : Type 0 where
  after : Text
  manifest : IsDocument new after
  tree : (q : Place)
      → view_at after q ≡ tree_with_strings (writes (row_entries (view_at form)) lines) (view_at form) q

-- by whether there is an output
read-by : (path bytes : List ℕ) (form : Text) (lines : List Line) (outputs : List Output)
    → IsDocument bytes form
    → AreOutputs path bytes (writes (row_entries (view_at form)) lines) outputs
    → IsReadBack (bytes_after bytes outputs) form lines
read-by path bytes form lines _ m (unchanged none) = record {
  after = form;
  manifest = m;
  tree = λ q. sym (ap (λ (ws : Edits). tree_with_strings ws (view_at form) q) none);
}
read-by path bytes form lines _ m (changed output some at r) =
    let edits = writes (row_entries (view_at form)) lines in
    record {
      after = replaced edits form;
      manifest = subst (λ (f : Text). IsDocument output.bytes.items (replaced edits f))
          (one_form bytes r.form form r.was m) r.is;
      tree = strings_view edits bytes form m (writes-strings (view_at form) lines);
    }

-- the same, from the outputs' own form
read-back : (path bytes : List ℕ) (form : Text) (lines : List Line) (outputs : List Output)
    → IsDocument bytes form → HasOutputs path bytes lines outputs
    → IsReadBack (bytes_after bytes outputs) form lines
read-back path bytes form lines outputs m g =
    read-by path bytes form lines outputs m
    (subst (λ (f : Text). AreOutputs path bytes (writes (row_entries (view_at f)) lines) outputs)
    (one_form bytes g.form form g.manifest m) g.are)

-- the entries that are seen then
seen-back : (s : Setting) (new : List ℕ) (form : Text) (lines : List Line)
    → AllZip (IsRow s) (row_entries (view_at form)) lines → (b : IsReadBack new form lines)
    → row_entries (view_at b.after) ≡ renewed (row_entries (view_at form)) lines
seen-back s new form lines d b =
    written-seen (IsRow s) (view_at form) (view_at b.after) lines (seen-apart form) d b.tree

-- whatever form the bytes are read to, these entries are seen
seen-always : (new : List ℕ) (form : Text) (lines : List Line) (es : List RowEntry)
    → (b : IsReadBack new form lines) → row_entries (view_at b.after) ≡ es
    → (f : Text) → IsDocument new f → row_entries (view_at f) ≡ es
seen-always new form lines es b same f m =
    ap (λ (x : Text). row_entries (view_at x)) (one_form new f b.after m b.manifest) ∙ same

-- ---- planned again

-- what was read back stays
pending_defined-on : (s : Setting) (new : List ℕ) (form : Text) (lines : List Line)
    → AllZip (IsRow s) (row_entries (view_at form)) lines
    → IsReadBack new form lines → HasOnlyNames s.options → IsFixedPoint s new
pending_defined-on s new form lines d b select =
    let es = row_entries (view_at form) in
    let back = seen-back s new form lines d b in
    let same = seen-always new form lines (renewed es lines) b back in
    let rows = some-again s es lines d in
    let quiet : (again : List Line) → HasRows s new again → All HasNoChange again = λ again h.
    all-again s es lines again (none_given s.options select) (seen-whole (view_at form)) d
    (subst (λ (xs : List RowEntry). AllZip (IsRow s) xs again) (same h.form h.manifest) h.decided) in
    record {
      lines = rows.0;
      rows = record {
        form = b.after;
        manifest = b.manifest;
        decided = subst (λ (xs : List RowEntry). AllZip (IsRow s) xs rows.0) (sym back) rows.1;
      };
      unchanged = quiet;
      unwritten = λ path again outputs h g.
          none-out path new (writes (row_entries (view_at g.form)) again) outputs
          (quiet-writes (row_entries (view_at g.form)) again (quiet again h)) g.are;
    }

-- the bytes that stand after a plan
pub pending_defined : (s : Setting) (path bytes : List ℕ) (lines : List Line) (outputs : List Output)
    → HasRows s bytes lines → HasOutputs path bytes lines outputs
    → HasOnlyNames s.options → IsFixedPoint s (bytes_after bytes outputs)
pending_defined s path bytes lines outputs h g select =
    pending_defined-on s (bytes_after bytes outputs) h.form lines h.decided
    (read-back path bytes h.form lines outputs h.manifest g) select

-- ---- the lookups that are needed

-- an entry after its row was written needs the same lookup
renewed-needs : (configs : List Config) (e : RowEntry) (l : Line) (address name : List ℕ)
    → IsNeededFor configs e address name → IsNeededFor configs (renew e l) address name
renewed-needs configs e l address name h = record {
  registry = h.registry;
  needs = record {
    named = h.needs.named;
    source = h.needs.source;
    has = h.needs.has;
    crate_name = h.needs.crate_name;
  };
  at = h.at;
}

needs-renewed : (configs : List Config) (e : RowEntry) (l : Line) (address name : List ℕ)
    → IsNeededFor configs (renew e l) address name → IsNeededFor configs e address name
needs-renewed configs e l address name h = record {
  registry = h.registry;
  needs = record {
    named = h.needs.named;
    source = h.needs.source;
    has = h.needs.has;
    crate_name = h.needs.crate_name;
  };
  at = h.at;
}

-- what one of the entries needs, by recursion
pub among-first : (configs : List Config) (e : RowEntry) (es : List RowEntry) (address name : List ℕ)
    → IsNeededFor configs e address name
    → IsNeededIn configs (e ∷ es) address name
among-first configs e es address name h =
    record { entry = e; among = All-head (Contains (e ∷ es)) e es (All-contains_itself (e ∷ es)); needs = h }

pub among-rest : (configs : List Config) (e : RowEntry) (es : List RowEntry) (address name : List ℕ)
    → IsNeededIn configs es address name
    → IsNeededIn configs (e ∷ es) address name
among-rest configs e es address name h =
    record { entry = h.entry; among = Contains-append_right (e ∷ []) es h.entry h.among; needs = h.needs }

pub among-cases : (configs : List Config) (e : RowEntry) (es : List RowEntry) (address name : List ℕ)
    → IsNeededIn configs (e ∷ es) address name
    → IsNeededFor configs e address name ⊎ IsNeededIn configs es address name
among-cases configs e es address name h =
    All-contains (λ (x : RowEntry). IsNeededFor configs x address name
    → IsNeededFor configs e address name ⊎ IsNeededIn configs es address name) (e ∷ es) h.entry
    (All-cons (λ (x : RowEntry). IsNeededFor configs x address name
    → IsNeededFor configs e address name ⊎ IsNeededIn configs es address name) e es (λ n. inl n)
    (All-weaker (Contains es) (λ (x : RowEntry). IsNeededFor configs x address name
    → IsNeededFor configs e address name ⊎ IsNeededIn configs es address name)
    (λ x c n. inr (record { entry = x; among = c; needs = n })) es (All-contains_itself es))) h.among h.needs

needed-renewed : (configs : List Config) (es : List RowEntry) (ls : List Line) (address name : List ℕ)
    → IsNeededIn configs es address name
    → IsNeededIn configs (renewed es ls) address name
needed-renewed configs [] ls address name h = h
needed-renewed configs (e ∷ es) [] address name h = h
needed-renewed configs (e ∷ es) (l ∷ ls) address name h = elim (among-cases configs e es address name h) [
  | inl here ↦ among-first configs (renew e l) (renewed es ls) address name
      (renewed-needs configs e l address name here)
  | inr more ↦ among-rest configs (renew e l) (renewed es ls) address name
      (needed-renewed configs es ls address name more)
]

renewed-needed : (configs : List Config) (es : List RowEntry) (ls : List Line) (address name : List ℕ)
    → IsNeededIn configs (renewed es ls) address name
    → IsNeededIn configs es address name
renewed-needed configs [] ls address name h = h
renewed-needed configs (e ∷ es) [] address name h = h
renewed-needed configs (e ∷ es) (l ∷ ls) address name h =
    elim (among-cases configs (renew e l) (renewed es ls) address name h) [
      | inl here ↦ among-first configs e es address name (needs-renewed configs e l address name here)
      | inr more ↦ among-rest configs e es address name (renewed-needed configs es ls address name more)
    ]

-- the lookups that are needed after a plan
pub need-same : (s : Setting) (path bytes : List ℕ) (lines : List Line) (outputs : List Output)
    → HasRows s bytes lines → HasOutputs path bytes lines outputs
    → NeedSame s.configs bytes (bytes_after bytes outputs)
need-same s path bytes lines outputs h g =
    let new = bytes_after bytes outputs in
    let es = row_entries (view_at h.form) in
    let b = read-back path bytes h.form lines outputs h.manifest g in
    let back = seen-back s new h.form lines h.decided b in
    let same = seen-always new h.form lines (renewed es lines) b back in
    let first : (f : Text) → IsDocument bytes f → row_entries (view_at f) ≡ es = λ f m. ap
    (λ (x : Text). row_entries (view_at x)) (one_form bytes f h.form m h.manifest) in
    λ address name. (
      λ need. record {
        form = h.form;
        manifest = h.manifest;
        needed = renewed-needed s.configs es lines address name
            (subst (λ (xs : List RowEntry). IsNeededIn s.configs xs address name)
            (same need.form need.manifest) need.needed);
      },
      λ need. record {
        form = b.after;
        manifest = b.manifest;
        needed = subst (λ (xs : List RowEntry). IsNeededIn s.configs xs address name) (sym back)
            (needed-renewed s.configs es lines address name
            (subst (λ (xs : List RowEntry). IsNeededIn s.configs xs address name)
            (first need.form need.manifest) need.needed));
      },
    )
