use Rattle.std.proofs.Common.{◌≡◌, ℕ, List, Some, None, take, sym, ap, ◌∙◌}
use Rattle.std.proofs.lemmas.List.{take-map}
use Rattle.edit_tree.specs.declared.nodes.Member.{Member}
use Rattle.edit_tree.specs.Nodes.{bytes_of, entries_in, number_in}
use Rattle.edit_tree.proofs.NameLists.{number_few, number_others}
use Rattle.edit_tree.proofs.nodes.MemberList.get.Goals as goal

pub returns-in-Some : goal.returns-in-Some
returns-in-Some c indexed =
    let text = c.args.text.now in
    let name = c.args.name.now in
    let list = c.args.self.now.list.items in
    let first : number_in (take 8 (entries_in text list)) name ≡ Some c.in-Some.number =
    ap (λ (es : List (List ℕ × ℕ)). number_in es name)
    (take-map (λ (e : Member). (bytes_of text e.name, e.number)) 8 list)
    ∙ ap (λ (ms : List Member). number_in (entries_in text ms) name) (sym c.first_members.ensures) ∙
    sym (c.in-Some.ensures {u = tt}) in
    sym (number_few 8 (entries_in text list) name c.in-Some.number first)

pub returns-in-None : goal.returns-in-None
returns-in-None c indexed =
    let text = c.args.text.now in
    let name = c.args.name.now in
    let list = c.args.self.now.list.items in
    let first : number_in (take 8 (entries_in text list)) name ≡ None =
    ap (λ (es : List (List ℕ × ℕ)). number_in es name)
    (take-map (λ (e : Member). (bytes_of text e.name, e.number)) 8 list)
    ∙ ap (λ (ms : List Member). number_in (entries_in text ms) name) (sym c.first_members.ensures) ∙
    sym (c.in-None.ensures {u = tt}) in
    c.get.ensures ∙ indexed name ∙ sym (number_others 8 (entries_in text list) name first)
