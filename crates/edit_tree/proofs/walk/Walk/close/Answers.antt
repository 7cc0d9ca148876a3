use Rattle.std.proofs.Common.{◌≡◌, ◌<◌, Some, ap, sym, ◌∙◌, refl, length, arith}
use Rattle.edit_tree.specs.Walk.{last_of, without_last}
use Rattle.edit_tree.proofs.Walks.{last_push}
use Rattle.edit_tree.proofs.WalkEnds.{without_push, goes_closed, closed_bare}
use Rattle.edit_tree.proofs.walk.Walk.close.Goals as goal

pub returns-in_default-span : goal.returns-in_default-span
returns-in_default-span c text st w =
    let items = (c.in-Some.ensures {u = tt}).items in
    let top : last_of c.args.self.now.tables.items ≡ Some c.in-Some.number = ap last_of items ∙
    last_push c.pop.new.self.items c.in-Some.number in
    let inside : c.in-Some.number < length c.args.self.now.nodes.items = let k = c.args.self.now.nodes.ok.0 in
    let n = c.len.ensures in let l = c.if-number-len.false in omega arith in
    closed_bare c.args.self.now st c.args.to c.in-Some.number c.index_mut-node.result.now w top inside
    c.index_mut-node.ensures.value c.in_default-span.is

pub returns : goal.returns
returns c text st w =
    let items = (c.in-Some.ensures {u = tt}).items in
    let top : last_of c.args.self.now.tables.items ≡ Some c.in-Some.number = ap last_of items ∙
    last_push c.pop.new.self.items c.in-Some.number in
    let inside : c.in-Some.number < length c.args.self.now.nodes.items = let k = c.args.self.now.nodes.ok.0 in
    let n = c.len.ensures in let l = c.if-number-len.false in omega arith in
    let tables = sym (ap without_last items ∙ without_push c.pop.new.self.items c.in-Some.number) in
    goes_closed c.args.self.now _ st c.args.to c.in-Some.number c.index_mut-node.result.now
    c.in-Some-span.span w top inside c.index_mut-node.ensures.value c.in-Some-span.is refl tables refl refl
