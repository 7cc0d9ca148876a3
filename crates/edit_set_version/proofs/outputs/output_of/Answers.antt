use Rattle.std.proofs.Common.{◌≡◌, ◌≢◌, ◌∙◌, ℕ, List, [], ap, subst, sym}
use Rattle.std.specs.Prelude.{string_bytes}
use Rattle.edit_document.specs.Ranges.{edit_views}
use Rattle.edit_tree.specs.Replaces.{AreDistinct, AreOutside, AreValues, Replaces}
use Rattle.edit_tree.specs.DocumentViews.{tree_of}
use Rattle.edit_set_version.specs.Crates.{bumps_view}
use Rattle.edit_set_version.specs.Planned.{changed, unchanged}
use Rattle.edit_metadata.specs.Inputs.{path_of}
use Rattle.edit_set_version.specs.SetVersioned.{edits_by}
use Rattle.edit_set_version.specs.Written.{shared_version_view}
use Rattle.edit_set_version.proofs.EditsApart.{edits_distinct, edits_outside}
use Rattle.edit_set_version.proofs.EditsStand.{literal_of, shown, document_view_of}
use Rattle.edit_set_version.proofs.EditsValues.{values_shown}
use Rattle.edit_set_version.proofs.NameLemmas.{found_empty, found_some, unmapped}
use Rattle.edit_set_version.proofs.outputs.output_of.Goals as goal

pub returns-then-is_empty-clause-output : goal.returns-then-is_empty-clause-output
returns-then-is_empty-clause-output c =
    let w = c.args.writing.now in
    let bs = bumps_view w.bumps.now in
    let path = path_of c.args.input.now in
    let none : c.in_ok-edits.edits.items ≡ []
    = found_empty c.in_ok-edits.edits.items c.in_ok-edits.edits.len c.is_empty.result c.if-is_empty.true
    c.is_empty.ensures (sym c.in_ok-edits.edits.ok.0) in
    record {
      form = c.requires.read.form;
      manifest = c.requires.read.manifest;
      are = unchanged (sym (sym (ap edit_views none) ∙ c.in_ok-edits.ensures.ok
          ∙ ap (edits_by w.root.now (shared_version_view w.shared) bs path)
          (shown c.args.input.now c.args.manifest.now c.requires.read)));
    }

pub with_literals-requires-clause-values : goal.with_literals-requires-clause-values
with_literals-requires-clause-values c = λ form manifest.
    let w = c.args.writing.now in
    let bs = bumps_view w.bumps.now in
    let path = path_of c.args.input.now in
    let same = document_view_of c.args.input.now c.args.manifest.now c.requires.read form manifest in
    subst (λ es. AreValues es form) (sym (ap edit_views c.deref.ensures.value ∙ c.in_ok-edits.ensures.ok))
    (values_shown w.root.now (shared_version_view w.shared) bs path (tree_of c.args.manifest.now.document) form same
    c.requires.shared
    (literal_of bs c.args.input.now c.args.manifest.now form c.requires.read manifest
    c.in_ok-edits.ensures.clear))

pub with_literals-requires-clause-distinct : goal.with_literals-requires-clause-distinct
with_literals-requires-clause-distinct c =
    let w = c.args.writing.now in
    let bs = bumps_view w.bumps.now in
    let path = path_of c.args.input.now in
    subst AreDistinct (sym (ap edit_views c.deref.ensures.value ∙ c.in_ok-edits.ensures.ok
    ∙ ap (edits_by w.root.now (shared_version_view w.shared) bs path)
    (shown c.args.input.now c.args.manifest.now c.requires.read)))
    (edits_distinct w.root.now (shared_version_view w.shared) bs path c.requires.read.form c.requires.apart)

pub with_literals-requires-clause-outside : goal.with_literals-requires-clause-outside
with_literals-requires-clause-outside c =
    let w = c.args.writing.now in
    let bs = bumps_view w.bumps.now in
    let path = path_of c.args.input.now in
    subst AreOutside (sym (ap edit_views c.deref.ensures.value ∙ c.in_ok-edits.ensures.ok))
    (edits_outside w.root.now (shared_version_view w.shared) bs path (tree_of c.args.manifest.now.document))

pub returns-clause-output : goal.returns-clause-output
returns-clause-output c =
    let w = c.args.writing.now in
    let bs = bumps_view w.bumps.now in
    let path = path_of c.args.input.now in
    let same = c.in_ok-edits.ensures.ok ∙ ap (edits_by w.root.now (shared_version_view w.shared) bs path)
    (shown c.args.input.now c.args.manifest.now c.requires.read) in
    let some : c.in_ok-edits.edits.items ≢ []
    = found_some c.in_ok-edits.edits.items c.in_ok-edits.edits.len c.is_empty.result c.if-is_empty.false
    c.is_empty.ensures (sym c.in_ok-edits.edits.ok.0) in
    let text : Replaces (edit_views c.deref.result.now) c.args.input.now.bytes.items
    (string_bytes c.in_ok-text.text)
    = subst (λ (old : List ℕ). Replaces (edit_views c.deref.result.now) old (string_bytes c.in_ok-text.text))
    c.requires.read.bytes c.in_ok-text.ensures.replaces in
    record {
      form = c.requires.read.form;
      manifest = c.requires.read.manifest;
      are = changed _ (λ none. some (unmapped _ c.in_ok-edits.edits.items (same ∙ none)))
          (c.in_ok-path.ensures.ok ∙ c.as_str.ensures.value)
          (subst (λ es. Replaces es c.args.input.now.bytes.items c.into_bytes.result.items)
          (ap edit_views c.deref.ensures.value ∙ same)
          (subst (λ (v : List ℕ). Replaces (edit_views c.deref.result.now) c.args.input.now.bytes.items v)
          (sym (ap (λ v. v.items) c.into_bytes.ensures.value)) text));
    }
