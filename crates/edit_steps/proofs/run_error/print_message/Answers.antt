use Rattle.std.proofs.Common.{ℕ, List, Option, Result, Ok, Err}
use Rattle.std.specs.Io.KnownBytes.{Appends}
use Rattle.std.specs.Prelude.{OnOk, codes}
use Rattle.edit_steps.specs.Printed.{IsTitlePrinted, title_line}
use Rattle.edit_steps.proofs.run_error.print_message.Goals as goal

-- a first line with this message
title_printed : {T E : Type 0} (r : Result T E) (old new : Option (List ℕ)) (message : List ℕ)
    → OnOk r (Appends old new (title_line message)) → OnOk r (IsTitlePrinted old new)
title_printed (Ok x) old new message h = record { message = message; appends = h }
title_printed (Err e) old new message h = tt

pub returns-in-Err : goal.returns-in-Err
returns-in-Err g c = title_printed _ _ _ (codes "out of memory") c.print_title-in-Err.ensures
