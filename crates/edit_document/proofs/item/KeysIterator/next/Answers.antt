use Rattle.std.proofs.Common.{sym}
use Rattle.edit_document.specs.Items.{names_in}
use Rattle.edit_document.specs.ItemViews.{view_of}
use Rattle.edit_syntax.proofs.ListElements.{drop_from}
use Rattle.edit_document.proofs.item.KeysIterator.next.Goals as goal

pub returns-clause-steps : goal.returns-clause-steps
returns-clause-steps c =
    drop_from (names_in (view_of c.args.self.now.item)) c.args.self.now.next c.in_ok-name.name.now
    (sym (c.in_ok-name.ensures {u = tt}))
