use Rattle.std.proofs.Common.{◌≡◌, drop}
use Rattle.edit_lock.specs.AdaptedCalls.{names_package}
use Rattle.edit_lock.specs.Views.{arguments_view}
use Rattle.edit_lock.proofs.adapted_calls.names_package.Given as goal

abbrev pub invariant-arguments : goal.invariant-arguments
invariant-arguments l = names_package (arguments_view l.call)
    ≡ names_package (arguments_view (drop l.argument-index l.call))
