use Rattle.std.proofs.Common.{◌≡◌, ap, sym, ◌∙◌}
use Rattle.edit_tree.specs.Assertions.{at, key}
use Rattle.edit_document.specs.Items.{place_view}
use Rattle.edit_document.specs.ItemViews.{document_of, place_of}
use Rattle.edit_manifest.proofs.EntryReasons.{reason_at, reason_nowhere}
use Rattle.edit_manifest.proofs.entries.found.entry_of.Goals as goal

pub returns-in_ok-read_item-in-Some-clause-reason : goal.returns-in_ok-read_item-in-Some-clause-reason
returns-in_ok-read_item-in-Some-clause-reason c =
    let name = c.args.name.now in
    let place : at (place_of c.args.table) (key name) ≡ place_view c.in_ok-place.place.items =
    ap (λ p. at p (key name)) c.requires ∙ sym c.in_ok-place.ensures.ok in
    reason_at (document_of c.in-Some.item) (document_of c.args.table) (place_of c.in-Some.item) _ c.args.root.now
    name _ _ c.in-Some.ensures.0 (c.in-Some.ensures.1 ∙ place) (sym c.in_ok-key.ensures.ok)
    c.in_ok-read_item-in-Some.ensures.reason

pub returns-in_ok-unsupported_entry-in-None-clause-reason : goal.returns-in_ok-unsupported_entry-in-None-clause-reason
returns-in_ok-unsupported_entry-in-None-clause-reason c =
    let name = c.args.name.now in
    let place : at (place_of c.args.table) (key name) ≡ place_view c.in_ok-place.place.items =
    ap (λ p. at p (key name)) c.requires ∙ sym c.in_ok-place.ensures.ok in
    reason_nowhere (document_of c.args.table) (at (place_of c.args.table) (key name)) _ c.args.root.now name _ _
    (rw c.in-None.is at c.get.ensures) place (sym c.in_ok-key.ensures.ok)
    c.in_ok-unsupported_entry-in-None.ensures.reason
