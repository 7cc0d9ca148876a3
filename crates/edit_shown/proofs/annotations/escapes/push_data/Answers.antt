use Rattle.std.proofs.Common.{◌≡◌, ◌++◌, ◌∙◌, [], ap, append_assoc, subst, sym}
use Rattle.std.specs.Prelude.{string_bytes}
use Rattle.std.specs.List.{flat_map}
use Rattle.std.proofs.lemmas.Iterator.{YieldsList-from_chars}
use Rattle.std.proofs.lemmas.Iterator.Consumers.{YieldsList-end}
use Rattle.std.proofs.lemmas.List.{flat_map_more, map-id}
use Rattle.edit_shown.specs.Annotations.{data_char}
use Rattle.edit_shown.proofs.annotations.escapes.push_data.Goals as goal

pub loop-c-preserved : goal.loop-c-preserved
loop-c-preserved c =
    c.in_ok-push_data_char.ensures ∙ ap (λ t. t ++ data_char c.in-Some.c) c.loop-c.invariant
    ∙ append_assoc (string_bytes c.args.to.now) (flat_map data_char c.loop-c.yielded)
    (data_char c.in-Some.c)
    ∙ ap (λ t. string_bytes c.args.to.now ++ t) (flat_map_more data_char [] c.loop-c.yielded c.in-Some.c)

-- at the end of the loop all characters were added
pub returns : goal.returns
returns c =
    let t = YieldsList-end (YieldsList-from_chars c.args.text.now c.utf8.text (cc)) c.loop-c.yielded _
    c.loop-c.yielded_by _ _ c.in-None.is c.next.ensures.steps in
    subst (λ cs. string_bytes c.loop-c.to ≡ string_bytes c.args.to.now ++ flat_map data_char cs)
    (sym (map-id c.loop-c.yielded) ∙ t.0) c.loop-c.invariant
