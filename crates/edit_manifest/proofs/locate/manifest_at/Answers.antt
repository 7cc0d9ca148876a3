use Rattle.std.proofs.Common.{ℕ, List, subst, ◌∙◌}
use Rattle.edit_manifest.specs.Located.{IsMissing, IsThere}
use Rattle.edit_manifest.proofs.locate.manifest_at.Goals as goal

pub returns-then-branch-clause-found : goal.returns-then-branch-clause-found
returns-then-branch-clause-found g c t =
    let there = rw c.if-branch.true at c.in_ok-is_there.ensures.there in
    let P : List ℕ → Type 0 = λ path. IsThere (g.S.Store.view c.args.store.now).file_at path in
    (c.in_ok-path.ensures.text, subst P (c.as_str.ensures.value ∙ c.in_ok-path.ensures.text) (there t))

pub returns-else-branch-clause-found : goal.returns-else-branch-clause-found
returns-else-branch-clause-found g c t =
    let missing = rw c.if-branch.false at c.in_ok-is_there.ensures.there in
    let P : List ℕ → Type 0 = λ path. IsMissing (g.S.Store.view c.args.store.now).file_at path in
    subst P (c.as_str.ensures.value ∙ c.in_ok-path.ensures.text) (missing t)
