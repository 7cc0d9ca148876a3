use Rattle.std.proofs.Common.{ap, sym, ◌∙◌}
use Rattle.std.proofs.lemmas.Result.{IfOk-weaker}
use Rattle.std.specs.Prelude.{Ok}
use Rattle.edit_document.specs.Items.{place_view}
use Rattle.edit_tree.specs.DocumentViews.{tree_of}
use Rattle.edit_manifest.proofs.SetLemmas.{set_answered}
use Rattle.edit_manifest.proofs.versions.set_dep_version.Goals as goal

pub returns-clause-answered : goal.returns-clause-answered
returns-clause-answered c =
    let stands = c.in_ok-literal.ensures.ok ∙ ap (λ p. Ok (place_view p)) (sym c.deref-2.ensures.value) in
    IfOk-weaker c.set_literal.result _ _
    (λ u tree. set_answered (tree_of c.args.document.now) (tree_of c.set_literal.new.self)
    (place_view c.args.place.now) (place_view c.deref-2.result.now) c.args.text.now stands tree)
    c.set_literal.ensures.tree
