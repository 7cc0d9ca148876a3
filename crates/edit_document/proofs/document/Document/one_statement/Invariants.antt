use Rattle.edit_document.specs.Items.{place_view}
use Rattle.edit_document.proofs.AloneTurns.{Reaches}
use Rattle.edit_document.proofs.document.Document.one_statement.Given as goal

-- the same statements name the node that was come to
abbrev pub invariant-steps : goal.invariant-steps
invariant-steps l = Reaches l.self (place_view l.place) l._step l.number
