use Rattle.std.proofs.Common.{◌≡◌, ℕ, List, sym, subst, true, map}
use Rattle.edit_tree.specs.declared.place.Step.{Step as WrittenStep}
use Rattle.edit_document.specs.Items.{place_view}
use Rattle.std.specs.Prelude.{string_bytes, IfOk}
use Rattle.std.proofs.lemmas.Result.{IfOk-weaker}
use Rattle.edit_tree.specs.Assertions.{Place, IsDocument}
use Rattle.edit_document.specs.Ranges.{edit_views}
use Rattle.edit_document.specs.Splices.{range_of, Locates}
use Rattle.edit_tree.specs.Tree.{view_at, is_value_at}
use Rattle.edit_syntax.specs.Grammar.{Text, text as text_of}
use Rattle.edit_tree.specs.Replaces.{Replaces, replaced, tree_with_strings, tree_without_below}
use Rattle.edit_tree.proofs.ReplacedDocuments.{tree_again}
use Rattle.edit_document.proofs.ReplacementLaws.{value_at, range_seen, ranged_more, all_ranges, replaces_apart}
use Rattle.edit_tree.proofs.ReplacedStrings.{values_apart}
use Rattle.edit_tree.specs.DocumentViews.{tree_of}
use Rattle.edit_document.proofs.document.Document.with_literals.Goals as goal

pub rewrite_of-requires : goal.rewrite_of-requires
rewrite_of-requires c form manifest =
    subst (λ (l : List WrittenStep). is_value_at form (place_view l) ≡ true) (sym c.deref.ensures.value)
    (value_at form c.args.edits.now c.loop-edit.edit-index c.edit-item.result c.loop-edit-test.true
    c.edit-item.is (c.requires.values form manifest))

pub loop-edit-preserved : goal.loop-edit-preserved
loop-edit-preserved c form manifest =
    let e = c.edit-item.result in
    let range = range_seen form e c.deref.result.now c.as_str.result.now
    (range_of c.rewrite_of.result) c.deref.ensures.value c.as_str.ensures.value
    (c.rewrite_of.ensures form manifest) in
    ranged_more form c.args.edits.now c.loop-edit.edit-index e c.loop-edit.rewrites.items
    c.push.new.self.items c.rewrite_of.result c.loop-edit-test.true c.edit-item.is c.in_ok-push.ensures.items
    (c.loop-edit.invariant form manifest) range

-- the clauses of a result that is the replaced text
replaced_text : (c : goal.After-drop-rewrites-2) → (P : List ℕ → Type 0)
    → ((new : List ℕ) → new ≡ text_of (replaced (edit_views c.args.edits.now) c.lemma_form.ensures.some.0)
    → P new) → IfOk c.splice_unordered.result (λ s. P (string_bytes s))
replaced_text c P from =
    let f = c.lemma_form.ensures.some in
    let edits = edit_views c.args.edits.now in
    let located : Locates c.as_str-2.result.now f.0 edits (map range_of c.deref_mut.result.now) = record {
      document = subst (λ (b : List ℕ). IsDocument b f.0) (sym c.as_str-2.ensures) f.1;
      values = c.requires.values f.0 f.1;
      distinct = c.requires.distinct;
      outside = c.requires.outside;
      found = all_ranges f.0 c.args.edits.now c.loop-edit.edit-index c.loop-edit.rewrites.items
          c.deref_mut.result.now c.loop-edit-test.false c.deref_mut.ensures.value
          (c.loop-edit.invariant f.0 f.1);
    } in
    IfOk-weaker c.splice_unordered.result _ _ (λ s e. from (string_bytes s) e)
    (c.splice_unordered.ensures.text f.0 edits located)

pub returns-clause-replaces : goal.returns-clause-replaces
returns-clause-replaces c =
    let f = c.lemma_form.ensures.some in
    let edits = edit_views c.args.edits.now in
    let apart = values_apart edits f.0 f.1.no_clash (c.requires.values f.0 f.1) c.requires.outside in
    replaced_text c (λ new. Replaces edits c.args.self.now.bytes new)
    (λ new e. replaces_apart edits c.args.self.now.bytes new f.0 f.1 apart e)

pub returns-clause-tree : goal.returns-clause-tree
returns-clause-tree c =
    let f = c.lemma_form.ensures.some in
    let edits = edit_views c.args.edits.now in
    let shows = c.lemma_form.ensures.shows f.0 f.1 in
    let apart = values_apart edits f.0 f.1.no_clash (c.requires.values f.0 f.1) c.requires.outside in
    replaced_text c (λ new. (form : Text) → IsDocument new form → (at : Place)
    → view_at form at ≡ tree_with_strings edits (tree_without_below edits (tree_of c.args.self.now)) at)
    (λ new e. tree_again edits c.args.self.now.bytes new f.0 (tree_of c.args.self.now) f.1 apart shows e)
