use Rattle.std.proofs.Common.{◌∙◌, inr}
use Rattle.std.specs.Prelude.{codes, string_bytes}
use Rattle.edit_update.proofs.ItemSteps.{joined_map}
use Rattle.edit_update.proofs.remove.no_entry.Goals as goal

pub returns-in-Ok-join : goal.returns-in-Ok-join
returns-in-Ok-join c =
    inr (
      c.in-Ok.ensures.ok,
      c.in-Ok-join.ensures.ok ∙ joined_map string_bytes (codes ".")
          c.args.table_path.now,
    )
