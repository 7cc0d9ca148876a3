use Rattle.std.proofs.Common.{◌∙◌, List, Option, ap, map, option_map, string_bytes, sym}
use Rattle.edit_version.specs.Levels.{level_of}
use Rattle.edit_unify.specs.Leaders.{leader}
use Rattle.edit_unify.specs.Stands.{Required, stand_view}
use Rattle.edit_unify.specs.Unified.{taken_text}
use Rattle.edit_unify.specs.declared.stands.Stand.{Stand}
use Rattle.edit_unify.proofs.GroupLemmas.{text_from_is, texts_more}
use Rattle.edit_unify.proofs.rows.taken_texts.Goals as goal

pub stands-preserved : goal.stands-preserved
stands-preserved c =
    let xs = c.deref-own-items.result.now in
    let view : Option Stand → Option Required = option_map stand_view in
    let all = map view xs in
    let same = c.deref.ensures.value ∙ sym c.deref-own-items.ensures.value in
    ap (map (option_map string_bytes)) c.in_ok-push.ensures.items
    ∙ texts_more view (λ own. taken_text (level_of c.args.levels) own all) xs c.stands.own-index _ c.stands.texts.items
    c.in_ok-text.text c.stands-test.true c.stands.invariant
    (c.in_ok-text.ensures
    ∙ text_from_is (level_of c.args.levels) c.in_ok-leaders.leaders all
    (λ own. c.in_ok-leaders.ensures own
    ∙ ap (λ (ys : List (Option Stand)). leader (level_of c.args.levels) own (map view ys)) same) _)
