use Rattle.std.proofs.Common.{◌≡◌, ◌++◌, drop, map}
use Rattle.edit_words.specs.Filled.{insert_defaults}
use Rattle.edit_words.proofs.FilledLemmas.{rest_of}
use Rattle.edit_words.proofs.option_defaults.insert_defaults.Given as goal

abbrev pub invariant-loop-at : goal.invariant-loop-at
invariant-loop-at l = map (λ w. w.now) l.all.items ++ rest_of l.ended (map (λ w. w.now) (drop l.at l.args))
    ≡ insert_defaults (map (λ w. w.now) l.args)
