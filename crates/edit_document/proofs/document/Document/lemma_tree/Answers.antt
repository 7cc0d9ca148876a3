use Rattle.edit_document.proofs.Views.{opened}
use Rattle.edit_document.proofs.MemberViews.{root_stands, nothing_below}
use Rattle.edit_document.proofs.document.Document.lemma_tree.Goals as goal

pub returns : goal.returns
returns c =
    let opens = opened c.self.inside c.args.self.now c.self.invariant c.self.view_is in
    record {
      root = root_stands c.args.self.now c.self.inside.nodes.items opens;
      below = λ place more none. nothing_below c.args.self.now c.self.inside.nodes.items more place opens
          none;
    }
