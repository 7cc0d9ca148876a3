use Rattle.std.proofs.Common.{◌-◌, ap, ◌∙◌, length, take, arith}
use Rattle.std.specs.Prelude.{string_bytes}
use Rattle.edit_tree.specs.Assertions.{at}
use Rattle.edit_document.specs.Items.{place_view, step_view}
use Rattle.edit_document.proofs.AloneTurns.{last_member}
use Rattle.edit_document.proofs.one_statement.is_member.Goals as goal

pub returns-in-Key-clause-yes : goal.returns-in-Key-clause-yes
returns-in-Key-clause-yes c e =
    let i = length c.args.place.now - 1 in (
      place_view (take i c.args.place.now),
      string_bytes c.in-Key.field-0,
      last_member c.args.place.now c.last-item.result i
          (omega (arith, c.in-len1-up.len_at_least)) c.last-item.is
          ∙ ap (λ s. at (place_view (take i c.args.place.now)) (step_view s)) c.in-Key.is,
    )
