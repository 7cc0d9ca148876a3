use Rattle.std.proofs.Common.{drop, map, ap, sym, ◌+◌, ◌∙◌}
use Rattle.std.specs.List.{list_any}
use Rattle.edit_document.specs.Items.{place_view}
use Rattle.edit_tree.specs.DocumentViews.{tree_of}
use Rattle.edit_update.specs.Features.{has_section_entry}
use Rattle.edit_update.proofs.ItemSteps.{left_map, none_left}
use Rattle.edit_update.proofs.StaleElements.{any_here, any_next}
use Rattle.edit_update.proofs.features.has_any_entry.Goals as goal

pub tables-preserved : goal.tables-preserved
tables-preserved c =
    let test = has_section_entry (tree_of c.args.document.now) c.args.name.now in
    let rest = map (λ p. place_view p.items) (drop (c.tables.table-index + 1) c.args.tables.now) in
    c.tables.invariant ∙ any_next test _ (place_view c.table-item.result.items) rest
    (left_map (λ p. place_view p.items) c.args.tables.now c.tables.table-index c.table-item.result
    c.tables-test.true c.table-item.is)
    (ap (λ p. test (place_view p)) (sym c.deref.ensures.value) ∙ sym c.has_section_entry.ensures ∙ c.if-has_section_entry.false)

pub returns-then-has_section_entry : goal.returns-then-has_section_entry
returns-then-has_section_entry c =
    let test = has_section_entry (tree_of c.args.document.now) c.args.name.now in
    let rest = map (λ p. place_view p.items) (drop (c.tables.table-index + 1) c.args.tables.now) in
    sym (ap (list_any test) (sym c.requires.tables) ∙ c.tables.invariant
    ∙ any_here test _ (place_view c.table-item.result.items) rest
    (left_map (λ p. place_view p.items) c.args.tables.now c.tables.table-index c.table-item.result
    c.tables-test.true c.table-item.is)
    (ap (λ p. test (place_view p)) (sym c.deref.ensures.value) ∙ sym c.has_section_entry.ensures ∙ c.if-has_section_entry.true))

pub returns : goal.returns
returns c =
    let test = has_section_entry (tree_of c.args.document.now) c.args.name.now in
    sym (ap (list_any test) (sym c.requires.tables) ∙ c.tables.invariant
    ∙ ap (list_any test) (none_left (λ p. place_view p.items) c.args.tables.now c.tables.table-index
    c.tables-test.false))
