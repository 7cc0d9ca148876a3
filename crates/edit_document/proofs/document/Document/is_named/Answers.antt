use Rattle.std.specs.Str.{IsUtf8}
use Rattle.std.proofs.Common.{sym, ap, subst, ◌∙◌}
use Rattle.edit_document.specs.ItemRemoval.{is_named}
use Rattle.edit_tree.specs.Redefinition.{is_own}
use Rattle.edit_document.proofs.RemainingNodes.{taken_named}
use Rattle.edit_document.proofs.NodeAnswers.{stood}
use Rattle.edit_document.proofs.Views.{opened, within, found}
use Rattle.edit_document.proofs.document.Document.is_named.Goals as goal

pub index-node-requires : goal.index-node-requires
index-node-requires c =
    within c.args.self.now c.self.inside.nodes.items c.self.inside.nodes.len c.args.number
    (opened c.self.inside c.args.self.now c.self.invariant c.self.view_is) c.self.inside.nodes.ok.0
    c.requires.here

pub returns : goal.returns
returns c form manifest =
    let opens = opened c.self.inside c.args.self.now c.self.invariant c.self.view_is in
    let node = c.index-node.result.now in
    let f = found c.args.self.now c.self.inside.nodes.items c.args.number node opens c.requires.here
    c.index-node.ensures in
    let st = stood c.self.inside c.args.self.now c.self.invariant c.self.view_is
    (subst IsUtf8 c.as_str-text.ensures.value c.as_str-text.utf8) form manifest in
    c.is_own.ensures ∙ ap is_own f.keeps.taken
    ∙ taken_named form opens.models c.args.number f.model st f.stands (λ e. c.requires.inner (f.place ∙ e))
    ∙ ap (is_named form) (sym f.place)
