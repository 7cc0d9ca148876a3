use Rattle.std.proofs.Common.{◌≡◌, ◌++◌, [], drop, map}
use Rattle.edit_lock.specs.CallsFile.{calls_behind}
use Rattle.edit_lock.specs.Views.{arguments_view, calls_view}
use Rattle.edit_lock.proofs.calls_file.calls_of.Given as goal

abbrev pub invariant-lines : goal.invariant-lines
invariant-lines l = calls_behind [] (map (λ line. line.now) l.lines)
    ≡ calls_view l.calls.items
    ++ calls_behind (arguments_view l.call.items) (map (λ line. line.now) (drop l.line-index l.lines))
