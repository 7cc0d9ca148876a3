use Rattle.std.proofs.Common.{List, [], ◌∷◌, ◌++◌, ◌∙◌, ap, arith, subst, sym}
use Rattle.std.proofs.lemmas.List.Elements.{All-nil}
use Rattle.std.proofs.lemmas.Map.Text.{text_keys}
use Rattle.std.specs.Prelude.{All}
use Rattle.edit_cache.specs.Choices.{IsChoice}
use Rattle.edit_cache.specs.declared.choices.Choice.{Choice}
use Rattle.edit_cache.proofs.ChoiceLemmas.{choices-at, choices-more, choices-with}
use Rattle.edit_cache.proofs.choices.cache_choice.Goals as goal

pub returns-in_ok-push : goal.returns-in_ok-push
returns-in_ok-push c = λ ranks is were.
    let text = c.args.text.now in
    let known = choices-at ranks text c.args.choices.now c.in-Some.known.now c.in-Some.ensures.value were in
    choices-with ranks text c.args.choices.now (c.get_mut.follows.lender c.push.new.self) c.push.new.self
    (λ t other. grind (arith, text_keys)) (grind (arith, text_keys))
    (choices-more ranks text c.args.choice c.in-Some.known.now.items c.push.new.self.items
    c.in_ok-push.ensures.items known is) were

pub returns-in_err-push : goal.returns-in_err-push
returns-in_err-push c = λ ranks is were.
    let text = c.args.text.now in
    let known = choices-at ranks text c.args.choices.now c.in-Some.known.now c.in-Some.ensures.value were in
    choices-with ranks text c.args.choices.now (c.get_mut.follows.lender c.push.new.self) c.push.new.self
    (λ t other. grind (arith, text_keys)) (grind (arith, text_keys))
    (subst (λ (cs : List Choice). All (IsChoice ranks text) cs) (sym c.in_err-push.ensures.items) known) were

pub returns-else-len-lt-MOST : goal.returns-else-len-lt-MOST
returns-else-len-lt-MOST c = λ ranks is were.
    let text = c.args.text.now in
    let known = choices-at ranks text c.args.choices.now c.in-Some.known.now c.in-Some.ensures.value were in
    choices-with ranks text c.args.choices.now (c.get_mut.follows.lender c.in-Some.known.now) c.in-Some.known.now
    (λ t other. grind (arith, text_keys)) (grind (arith, text_keys)) known were

pub returns : goal.returns
returns c = λ ranks is were.
    let text = c.args.text.now in
    choices-with ranks text c.args.choices.now c.insert.new.self c.push-2.new.self
    (λ t other. grind (arith, text_keys)) (grind (arith, text_keys))
    (choices-more ranks text c.args.choice [] c.push-2.new.self.items
    (c.in_ok-push-2.ensures.items ∙ ap (λ (cs : List Choice). cs ++ c.args.choice ∷ []) c.new-known.ensures.items)
    (All-nil (IsChoice ranks text)) is) were
