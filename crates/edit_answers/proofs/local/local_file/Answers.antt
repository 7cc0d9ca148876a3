use Rattle.edit_answers.proofs.local.local_file.Goals as goal

pub returns-in-None : goal.returns-in-None
returns-in-None c file h = (rw c.in-None.is at c.in_ok-folder.ensures) h.folder h.names
