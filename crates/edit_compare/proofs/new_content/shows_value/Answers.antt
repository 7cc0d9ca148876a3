use Rattle.std.proofs.Common.{◌≡◌, map, sym, ap, subst, ◌∙◌}
use Rattle.std.specs.Bool.{Decides}
use Rattle.std.specs.Prelude.{string_bytes}
use Rattle.edit_document.specs.Items.{node_place}
use Rattle.edit_tree.specs.NewItems.{NewValue, a_list}
use Rattle.edit_document.specs.NewItemViews.{new_value_view}
use Rattle.edit_document.specs.Compared.{ShowsValue}
use Rattle.edit_compare.proofs.new_content.shows_value.Goals as goal

pub returns-in-Strings : goal.returns-in-Strings
returns-in-Strings c =
    let seen : a_list (map string_bytes c.as_slice.result.now) ≡ new_value_view c.args.value.now =
    ap (λ xs. a_list (map string_bytes xs)) c.as_slice.ensures.value ∙ sym (ap new_value_view c.in-Strings.is) in
    subst (λ (v : NewValue). Decides c.shows_list.result
    (ShowsValue c.args.document.now (node_place c.args.document.now c.args.number) v)) seen c.shows_list.ensures
