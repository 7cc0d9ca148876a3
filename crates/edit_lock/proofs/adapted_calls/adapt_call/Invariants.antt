use Rattle.std.proofs.Common.{◌≡◌, ◌++◌, [], drop}
use Rattle.std.specs.Str.{IsUtf8}
use Rattle.edit_lock.specs.AdaptedCalls.{adapted_arguments}
use Rattle.edit_lock.specs.Views.{arguments_view, changes_view}
use Rattle.edit_lock.proofs.adapted_calls.adapt_call.Given as goal

abbrev pub invariant-arguments : goal.invariant-arguments
invariant-arguments l = record {
  utf8 : IsUtf8 l.previous;
  whole : adapted_arguments (changes_view l.index) l.offline [] (arguments_view l.call)
      ≡ arguments_view l.standing.items
      ++ adapted_arguments (changes_view l.index) l.offline l.previous
      (arguments_view (drop l.argument-index l.call));
}
