use Rattle.std.proofs.Common.{◌∙◌, ap, sym}
use Rattle.std.specs.BTreeSet.{contains_text}
use Rattle.edit_upgrade.specs.Lists.{git_name}
use Rattle.edit_upgrade.proofs.ListLemmas.{git-none, git-some, set-added, set-unchanged}
use Rattle.edit_upgrade.proofs.lists.git_set.Goals as goal
use Rattle.edit_upgrade.proofs.lists.git_set.Goals.{then-is_git+in_ok-add_name, else-is_git}

pub rows-preserved : goal.rows-preserved
rows-preserved c =
    elim c.if-is_git.branch [
      | then-is_git+in_ok-add_name w ↦ λ name. ap (λ s. contains_text s name) w.names-is
          ∙ set-added git_name c.args.rows.now c.rows.row-index c.row-item.result c.rows-test.true
          c.row-item.is
          (git-some c.row-item.result (sym c.is_git.ensures ∙ w.if-is_git.true))
          (contains_text c.rows.names)
          (contains_text w.add_name.new.names) c.rows.invariant w.as_str.result.now w.as_str.ensures.value
          w.in_ok-add_name.ensures.ok name
      | else-is_git w ↦ λ name. ap (λ s. contains_text s name) w.names-is
          ∙ set-unchanged git_name c.args.rows.now c.rows.row-index c.row-item.result c.rows-test.true
          c.row-item.is
          (git-none c.row-item.result (sym c.is_git.ensures ∙ w.if-is_git.false))
          (contains_text c.rows.names) c.rows.invariant name
    ]
