use Rattle.std.proofs.Common.{◌∙◌, ap, sym}
use Rattle.std.specs.BTreeSet.{contains_text}
use Rattle.edit_upgrade.specs.Lists.{changed_name}
use Rattle.edit_upgrade.proofs.ListLemmas.{changed-none, changed-some, set-added, set-unchanged}
use Rattle.edit_upgrade.proofs.lists.changed_set.Goals as goal
use Rattle.edit_upgrade.proofs.lists.changed_set.Goals.{then-is_some+in_ok-add_name, else-is_some}

pub rows-preserved : goal.rows-preserved
rows-preserved c =
    elim c.if-is_some.branch [
      | then-is_some+in_ok-add_name w ↦ λ name. ap (λ s. contains_text s name) w.names-is
          ∙ set-added changed_name c.args.rows.now c.rows.row-index c.row-item.result c.rows-test.true
          c.row-item.is
          (changed-some c.row-item.result (sym c.is_some.ensures ∙ w.if-is_some.true))
          (contains_text c.rows.names)
          (contains_text w.add_name.new.names) c.rows.invariant w.as_str.result.now w.as_str.ensures.value
          w.in_ok-add_name.ensures.ok name
      | else-is_some w ↦ λ name. ap (λ s. contains_text s name) w.names-is
          ∙ set-unchanged changed_name c.args.rows.now c.rows.row-index c.row-item.result c.rows-test.true
          c.row-item.is
          (changed-none c.row-item.result (sym c.is_some.ensures ∙ w.if-is_some.false))
          (contains_text c.rows.names) c.rows.invariant name
    ]
