use Rattle.std.proofs.Common.{◌<◌, suc, take}
use Rattle.std.specs.Prelude.{MatchOption}
use Rattle.edit_syntax.specs.Grammar.{Text}
use Rattle.edit_document.specs.Items.{place_view}
use Rattle.edit_document.specs.Ranges.{StartsTable}
use Rattle.edit_tree.specs.Assertions.{IsDocument}
use Rattle.edit_rewrite.proofs.ClosestTables.{NoneFrom}
use Rattle.edit_rewrite.proofs.inner.table_above.Given as goal

-- the closest one so far
abbrev pub invariant-ends : goal.invariant-ends
invariant-ends l = (form : Text) → IsDocument l.document.bytes form
    → MatchOption l.found (NoneFrom form l.place 0 l.end)
    (λ p. (p.0 < l.end) × StartsTable form (place_view (take p.0 l.place)) p.1
    × NoneFrom form l.place (suc p.0) l.end)
