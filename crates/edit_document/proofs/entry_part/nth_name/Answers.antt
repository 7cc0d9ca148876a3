use Rattle.std.proofs.Common.{◌≡◌, ◌<◌, ℕ, true, List, length, Some, refl, sym, ap, ◌∙◌, arith}
use Rattle.std.specs.Prelude.{option_map, nat_lt}
use Rattle.std.proofs.lemmas.Bool.Decides.{nat_tests}
use Rattle.std.proofs.lemmas.Option.{slice_get-map, slice_get_read}
use Rattle.edit_tree.specs.NewItems.{NewValue}
use Rattle.edit_document.specs.NewItemViews.{new_pair_view, new_pair_views}
use Rattle.edit_document.proofs.entry_part.nth_name.Goals as goal

pub returns : goal.returns
returns c =
    let list = c.args.members.now in
    let got = (c.in_ok-member.ensures {u = tt}).lookup in
    let test : true ≡ nat_lt c.args.index (length list) = got.0 in
    let inside : c.args.index < length list = grind (arith, nat_tests) in
    let there = slice_get_read list (length list) c.args.index c.in_ok-member.member.now refl inside got.1 in
    ap (λ (b : List ℕ). Some b) c.as_str.ensures.value
    ∙ sym (slice_get-map (λ (m : List ℕ × NewValue). m.0) (new_pair_views list) c.args.index
    ∙ ap (option_map (λ (m : List ℕ × NewValue). m.0))
    (slice_get-map new_pair_view list c.args.index ∙ ap (option_map new_pair_view) there))
