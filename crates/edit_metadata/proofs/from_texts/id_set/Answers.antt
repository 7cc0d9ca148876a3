use Rattle.std.proofs.Common.{[], ◌∙◌, ap, cond, sym, true, get_or, map, take, Bor, ℕ, List}
use Rattle.std.proofs.lemmas.List.{map_more}
use Rattle.std.specs.Str.{bytes_eq}
use Rattle.edit_metadata.specs.Metadata.{is_listed}
use Rattle.edit_metadata.proofs.Ids.{holds-more, is_listed-more}
use Rattle.edit_metadata.proofs.from_texts.id_set.Goals as goal

pub ids-preserved : goal.ids-preserved
ids-preserved c =
    let none : Bor (List ℕ) = record { ref_ptr = (0, 0); now = [] } in
    let key : List ℕ = (get_or c.args.ids.now c.ids.id-index none).now in
    λ id. holds-more key c.ids.set c.insert.new.self c.in_ok-insert.ensures.updates id
    ∙ ap (λ b. cond (bytes_eq key id) true b) (c.ids.invariant id)
    ∙ sym (is_listed-more (map (λ t. t.now) (take c.ids.id-index c.args.ids.now)) key id)
    ∙ ap (λ xs. is_listed xs id) (sym (map_more (λ t. t.now) c.args.ids.now c.ids.id-index none c.ids-test.true))
