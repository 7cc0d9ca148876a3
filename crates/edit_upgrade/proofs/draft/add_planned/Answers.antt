use Rattle.std.specs.Prelude.{string_bytes}
use Rattle.edit_upgrade.proofs.PlanLemmas.{outputs-of}
use Rattle.edit_upgrade.proofs.draft.add_planned.Goals as goal

pub returns-clause-outputs : goal.returns-clause-outputs
returns-clause-outputs c = (
  c.in_ok-outputs.outputs.items,
  c.in_ok-push_all.ensures.ok,
  outputs-of (string_bytes c.args.input.now.path) c.as_str.result.now c.args.input.now.bytes.items
      c.args.document.now c.args.planned c.deref.result.now c.deref-2.result.now
      c.in_ok-text.text c.in_ok-outputs.outputs.items c.as_str.ensures.value c.requires
      c.deref.ensures.value c.deref-2.ensures.value
      c.in_ok-text.ensures.ok c.in_ok-outputs.ensures.ok,
)
