use Rattle.std.proofs.Common.{sym}
use Rattle.edit_lookups.proofs.CachedLemmas.{line-cut, line-free, no-feed}
use Rattle.edit_lookups.proofs.cached_texts.first_line.Goals as goal

pub returns-in-Some : goal.returns-in-Some
returns-in-Some c =
    let at = sym c.in-Some.ensures in
    (line-free c.args.text.now c.in-Some.end at, _, line-cut c.args.text.now c.in-Some.end at)

pub returns-in-None : goal.returns-in-None
returns-in-None c = no-feed c.args.text.now (sym c.in-None.ensures)
