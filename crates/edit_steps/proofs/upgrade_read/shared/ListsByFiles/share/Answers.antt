use Rattle.std.proofs.Common.{IsTrue, map, refl, string_bytes, subst, sym}
use Rattle.edit_steps.proofs.SharedLemmas.{shares_list}
use Rattle.edit_steps.proofs.upgrade_read.shared.ListsByFiles.share.Goals as goal

pub returns-then-has_at-clause-shared : goal.returns-then-has_at-clause-shared
returns-then-has_at-clause-shared c = λ found.
    let has = c.has_at.ensures (subst IsTrue (sym c.if-has_at.true) refl) in
    shares_list (map string_bytes c.args.paths.now) has.0 c.args.self.now.shared _ c.in-Some.index has.1 has.2
    refl c.in_ok-push.ensures.items
