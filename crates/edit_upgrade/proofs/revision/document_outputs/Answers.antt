use Rattle.std.proofs.Common.{◌≡◌, ap, arith, length, refl, take}
use Rattle.std.proofs.lemmas.List.{length-take}
use Rattle.edit_upgrade.proofs.RevisionLemmas.{entry_count, first_outputs}
use Rattle.edit_upgrade.proofs.revision.document_outputs.Goals as goal

pub edited_text-requires-clause-long : goal.edited_text-requires-clause-long
edited_text-requires-clause-long c =
    let low = (entry_count c.args.input.now.bytes.items c.args.document.now c.in_ok-entries.entries.items
    c.args.rows.now c.requires.document c.in_ok-entries.ensures.entries c.requires.rows).1 in
    let shown = ap length c.deref.ensures.value in
    let taken = length-take c.min-count.result c.args.rows.now in
    omega (arith, low, shown, taken, c.min-count.ensures, c.len.ensures, c.deref.ensures.len)

pub returns-clause-outputs : goal.returns-clause-outputs
returns-clause-outputs c =
    let low = (entry_count c.args.input.now.bytes.items c.args.document.now c.in_ok-entries.entries.items
    c.args.rows.now c.requires.document c.in_ok-entries.ensures.entries c.requires.rows).1 in
    let shown = ap length c.deref.ensures.value in
    let count : c.min-count.result ≡ length c.in_ok-entries.entries.items =
    omega (arith, low, shown, c.min-count.ensures, c.len.ensures, c.deref.ensures.len) in
    first_outputs c.args.input.now c.as_str.result.now c.args.document.now c.in_ok-entries.entries.items
    c.deref.result.now c.args.rows.now (take c.min-count.result c.args.rows.now) c.min-count.result
    c.in_ok-text.text c.in_ok-outputs.outputs.items c.requires.document c.as_str.ensures.value
    c.in_ok-entries.ensures.entries c.requires.rows count c.deref.ensures.value refl c.in_ok-text.ensures.ok
    c.in_ok-outputs.ensures.ok
