use Rattle.edit_upgrade.proofs.lists.ignored_text.Goals as goal

pub returns : goal.returns
returns c = (c.as_str.result.now, c.in_ok-text.ensures)
