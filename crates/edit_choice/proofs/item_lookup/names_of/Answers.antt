use Rattle.std.proofs.Common.{◌∙◌, ◌||◌, ap, refl, sym, take}
use Rattle.std.specs.List.{list_any}
use Rattle.std.specs.Str.{bytes_eq}
use Rattle.edit_report.proofs.NameSetLemmas.{name_more}
use Rattle.edit_report.specs.NameSets.{has_name}
use Rattle.edit_choice.specs.ItemLookup.{is_name_of}
use Rattle.edit_choice.proofs.LookupLemmas.{any_take, any_take_none}
use Rattle.edit_choice.proofs.item_lookup.names_of.Goals as goal
use Rattle.edit_choice.proofs.item_lookup.names_of.Goals.{in-Name+in_ok-insert, in_default}

pub items-preserved : goal.items-preserved
items-preserved c = λ name.
    let xs = c.args.items.now in
    let i = c.items.item-index in
    let before = list_any (is_name_of name) (take i xs) in
    elim c.match-item.branch [
      | in-Name+in_ok-insert w ↦
          ap (λ s. has_name s name) w.names-is
          ∙ name_more w.in-Name.name.now c.items.names w.insert.new.self w.in_ok-insert.ensures.updates name
          ∙ ap (λ b. b || bytes_eq w.in-Name.name.now name) (c.items.invariant name)
          ∙ sym (any_take (is_name_of name) xs i _ _ c.items-test.true (sym w.in-Name.is))
      | in_default w ↦
          ap (λ s. has_name s name) w.names-is ∙ c.items.invariant name
          ∙ sym (any_take_none (is_name_of name) xs i _ _ c.items-test.true (sym w.in_default.is) refl)
    ]
