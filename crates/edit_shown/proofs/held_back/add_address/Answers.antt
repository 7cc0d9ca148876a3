use Rattle.std.proofs.Common.{◌∙◌, ap, sym, true}
use Rattle.std.specs.Prelude.{if◌then◌else◌}
use Rattle.std.specs.Str.{bytes_eq}
use Rattle.edit_metadata.proofs.Ids.{holds-more}
use Rattle.edit_metadata.specs.Reading.{holds}
use Rattle.edit_shown.proofs.held_back.add_address.Goals as goal

pub returns-then-not-dated : goal.returns-then-not-dated
returns-then-not-dated c = λ q.
    let before = holds c.args.set.now q in
    sym (ap (λ b. if b then (if bytes_eq c.args.address.now q then true else before) else before)
    c.if-not-dated.true)

pub returns : goal.returns
returns c = λ q.
    let before = holds c.args.set.now q in
    holds-more c.args.address.now c.args.set.now c.insert.new.self c.in_ok-insert.ensures.updates q
    ∙ sym (ap (λ b. if b then (if bytes_eq c.args.address.now q then true else before) else before)
    c.if-not-dated.false)
