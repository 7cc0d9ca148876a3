use Rattle.std.proofs.Common.{◌≡◌, ◌≢◌, ◌∙◌, ◌==◌, ℕ, Bool, false, Global, List, [], ◌∷◌, String, ap, length, map, subst, sym, true≢false}
use Rattle.std.specs.Global.{Vec}
use Rattle.edit_tree.specs.declared.place.Step.{Step}
use Rattle.std.specs.Prelude.{string_bytes}
use Rattle.edit_document.specs.Ranges.{edit_views}
use Rattle.edit_tree.specs.Replaces.{AreStrings, Edits, tree_without_below}
use Rattle.edit_tree.specs.DocumentViews.{tree_of}
use Rattle.edit_tree.proofs.ReplacedDocuments.{shown_emptied, shown_outside, shown_values}
use Rattle.edit_tree.proofs.ReplacedStrings.{written_same}
use Rattle.edit_upgrade.specs.Found.{row_entry_view}
use Rattle.edit_upgrade.specs.Lines.{line_of}
use Rattle.edit_upgrade.specs.Outputs.{IsRewritten}
use Rattle.edit_upgrade.specs.Rows.{writes}
use Rattle.edit_upgrade.proofs.SeenFacts.{shown-distinct, shown-strings}
use Rattle.edit_upgrade.proofs.writes.edited_text.Goals as goal

-- the rows write strings in the place of strings
strings : (c : goal.After-deref) → AreStrings (edit_views c.deref.result.now) (tree_of c.args.document.now)
strings c =
    shown-strings c.args.document.now c.requires.shown.0 (map row_entry_view c.args.entries.now)
    (map line_of c.args.rows.now) _ c.requires.shown.1 c.requires.shown.2
    (ap edit_views c.deref.ensures.value ∙ c.in_ok-edits.ensures.ok)

-- a list that is not empty writes something
some-seen : (es : List (Vec Step × String Global)) (n : ℕ) (b : Bool) → b ≡ false → b ≡ (n == 0)
    → length es ≡ n → edit_views es ≢ []
some-seen [] n b f e l none = true≢false (ap (λ m. m == 0) l ∙ sym e ∙ f)
some-seen (x ∷ es) n b f e l none = cc

pub with_literals-requires-clause-values : goal.with_literals-requires-clause-values
with_literals-requires-clause-values c form manifest =
    shown_values (edit_views c.deref.result.now) c.args.document.now form
    (c.lemma_form.ensures.shows form manifest) (strings c)

pub with_literals-requires-clause-outside : goal.with_literals-requires-clause-outside
with_literals-requires-clause-outside c =
    let f = c.lemma_form.ensures.some in
    shown_outside (edit_views c.deref.result.now) c.args.document.now f.0 f.1
    (c.lemma_form.ensures.shows f.0 f.1) (strings c)

pub with_literals-requires-clause-distinct : goal.with_literals-requires-clause-distinct
with_literals-requires-clause-distinct c =
    shown-distinct c.requires.shown.0 (map row_entry_view c.args.entries.now)
    (map line_of c.args.rows.now) _ c.requires.shown.2
    (ap edit_views c.deref.ensures.value ∙ c.in_ok-edits.ensures.ok)

pub returns-clause-ok : goal.returns-clause-ok
returns-clause-ok c =
    let d = c.args.document.now in
    let ws = edit_views c.deref.result.now in
    let same : ws ≡ writes (map row_entry_view c.args.entries.now) (map line_of c.args.rows.now) =
    ap edit_views c.deref.ensures.value ∙ c.in_ok-edits.ensures.ok in
    let some = some-seen c.deref.result.now c.in_ok-edits.edits.len c.is_empty.result c.if-is_empty.false
    c.is_empty.ensures (ap length c.deref.ensures.value ∙ sym c.in_ok-edits.edits.ok.0) in
    let strings = shown-strings d c.requires.shown.0 (map row_entry_view c.args.entries.now)
    (map line_of c.args.rows.now) ws c.requires.shown.1 c.requires.shown.2 same in
    let f = c.lemma_form.ensures.some in
    let tells = c.in_ok-text.ensures {u = tt} in
    let whole : IsRewritten d ws (string_bytes c.in_ok-text.text) = record {
      some = some;
      replaced = tells.replaces;
      read_back = λ form manifest place. tells.tree form manifest place
          ∙ written_same ws (tree_without_below ws (tree_of d)) (tree_of d) place
          (shown_emptied ws d f.0 f.1 (c.lemma_form.ensures.shows f.0 f.1) strings place);
    } in
    subst (λ (es : Edits). IsRewritten d es (string_bytes c.in_ok-text.text)) same whole
