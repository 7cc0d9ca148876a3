use Rattle.std.proofs.Common.{arith, sym, subst}
use Rattle.std.specs.Prelude.{All}
use Rattle.std.proofs.lemmas.Grind.{common_steps}
use Rattle.std.proofs.lemmas.List.Elements.{All-push}
use Rattle.edit_tree.specs.DocumentViews.{tree_of}
use Rattle.edit_manifest.specs.EntryViews.{HasReason}
use Rattle.edit_manifest.proofs.entries.found.push_entries.Goals as goal

pub names-preserved : goal.names-preserved
names-preserved c =
    let has = HasReason (tree_of c.args.document.now) c.args.root.now in
    let one : has c.in_ok-entry.entry =
    subst (λ d. HasReason (tree_of d) c.args.root.now c.in_ok-entry.entry) c.in-Some.ensures.0
    c.in_ok-entry.ensures.reason in
    record {
      entries = grind (arith, common_steps);
      reasons = λ before. subst (All has) (sym c.in_ok-push.ensures.items)
          (All-push has c.names.entries.items c.in_ok-entry.entry (c.names.invariant.reasons before) one);
    }
