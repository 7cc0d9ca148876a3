use Rattle.std.proofs.Common.{◌∙◌, sym}
use Rattle.index_list.proofs.ShownLemmas.{folder_listed}
use Rattle.index_list.proofs.listed_store.ListedStoreStore.kind.Goals as goal

pub returns-in-Ok-Absent-clause-stands : goal.returns-in-Ok-Absent-clause-stands
returns-in-Ok-Absent-clause-stands g c = λ tells.
    folder_listed c.args.self.now.listed (g.S.Store.view c.args.self.now.files).file_at c.args.path.now
    (sym c.contains_key.ensures ∙ c.if-contains_key.false)
    (c.is_shown_below.ensures.0 c.if-is_shown_below.true)
    (rw c.in-Ok-Absent.field-0-is at (c.in-Ok-Absent.ensures.stands tells))
