use Rattle.std.proofs.Common.{List, subst, sym}
use Rattle.std.specs.Prelude.{All}
use Rattle.edit_cache.specs.Choices.{IsChoice}
use Rattle.edit_cache.specs.declared.choices.Choice.{Choice}
use Rattle.edit_cache.proofs.ChoiceLemmas.{choices-at}
use Rattle.edit_cache.proofs.choices.known_choice.Goals as goal

pub returns-in-Some-clause-known : goal.returns-in-Some-clause-known
returns-in-Some-clause-known c = λ ranks are.
    c.choice_for.ensures.among ranks c.args.text.now
    (subst (λ (cs : List Choice). All (IsChoice ranks c.args.text.now) cs) (sym c.deref.ensures.value)
    (choices-at ranks c.args.text.now c.args.choices.now c.in-Some.known.now c.in-Some.ensures.value are))
