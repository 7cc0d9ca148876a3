use Rattle.std.proofs.Common.{ℕ, ◌≤◌, List, refl, sym, subst, length}
use Rattle.edit_tree.specs.Pieces.{pieces_of, IsRange}
use Rattle.std.proofs.lemmas.Result.{err_from_is_err_and}
use Rattle.edit_syntax.specs.Grammar.{Spells}
use Rattle.edit_tree.specs.DocumentViews.{ShowsTree}
use Rattle.edit_document.specs.DocumentLayout.{document_view_by}
use Rattle.edit_document.proofs.Documents.{Walked, read_done, read_is, shows_any, shows_form, refused_memory, answer_memory}
use Rattle.edit_tree.proofs.Shallow.{shallow}
use Rattle.edit_tree.proofs.PieceLaws.{whole_range, whole_count}
use Rattle.edit_document.proofs.document.Document.read.Goals as goal

pub returns-in_err-tokens-clause-only : goal.returns-in_err-tokens-clause-only
returns-in_err-tokens-clause-only c form m =
    let p = err_from_is_err_and c.from_residual.result c.from_residual.ensures.1 in
    let grammar : Spells c.as_bytes.result.now form = subst (λ (b : List ℕ). Spells b form)
    (sym c.as_bytes.ensures.value) m.grammar in
    answer_memory c.from_residual.result c.in_err-tokens.field-0.0 p.0 (λ d. ShowsTree d form) p.1 p.2
    ((c.in_err-tokens.ensures {u = tt}).only form grammar (shallow c.args.text.now form m))

pub returns-in_err-nodes-clause-only : goal.returns-in_err-nodes-clause-only
returns-in_err-nodes-clause-only c form m =
    let p = err_from_is_err_and c.from_residual-in_err-nodes.result c.from_residual-in_err-nodes.ensures.1 in
    let e = refused_memory c.args.text.now c.as_bytes.result.now c.in_ok-tokens.tokens.items
    c.as_slice.result.now form c.in_err-nodes.field-0.0
    (length c.args.text.now) c.utf8.text c.as_bytes.ensures.value
    (c.in_ok-tokens.ensures {u = tt}).found c.as_slice.ensures.value (c.in_err-nodes.ensures {u = tt}).error
    (c.in_err-nodes.ensures {u = tt}).nodes m in
    answer_memory c.from_residual-in_err-nodes.result c.in_err-nodes.field-0.0 p.0
    (λ d. ShowsTree d form) p.1 p.2 e

pub invariant_of-result : goal.invariant_of-result
invariant_of-result c =
    let d = read_done c.args.text.now c.as_bytes.result.now c.in_ok-tokens.tokens.items c.as_slice.result.now
    c.in_ok-nodes.nodes.items c.utf8.text c.as_bytes.ensures.value
    (c.in_ok-tokens.ensures {u = tt}).found c.as_slice.ensures.value (c.in_ok-nodes.ensures {u = tt}).nodes in
    read_is _ d.0 (subst (λ (b : List ℕ). IsRange b (0, length c.args.text.now))
    (sym (c.in_ok-text.ensures {u = tt}).ok)
    (whole_range c.args.text.now (length c.args.text.now) c.utf8.text refl))
    (subst (λ (b : List ℕ). Walked b d.0 c.in_ok-nodes.nodes.items)
    (sym (c.in_ok-text.ensures {u = tt}).ok) d.1)

pub returns-clause-bytes : goal.returns-clause-bytes
unfolding document_view_by
returns-clause-bytes c = (c.in_ok-text.ensures {u = tt}).ok

pub returns-clause-found : goal.returns-clause-found
returns-clause-found c =
    let d = read_done c.args.text.now c.as_bytes.result.now c.in_ok-tokens.tokens.items c.as_slice.result.now
    c.in_ok-nodes.nodes.items c.utf8.text c.as_bytes.ensures.value
    (c.in_ok-tokens.ensures {u = tt}).found c.as_slice.ensures.value (c.in_ok-nodes.ensures {u = tt}).nodes
    in (
      d.0,
      d.1.manifest,
      subst (λ (b : List ℕ). ShowsTree (document_view_by b (0, length c.args.text.now)) d.0)
          (sym (c.in_ok-text.ensures {u = tt}).ok)
          (shows_form c.args.text.now (0, length c.args.text.now) d.0 c.in_ok-nodes.nodes.items d.1),
    )

pub returns-clause-only : goal.returns-clause-only
returns-clause-only c form m =
    let d = read_done c.args.text.now c.as_bytes.result.now c.in_ok-tokens.tokens.items c.as_slice.result.now
    c.in_ok-nodes.nodes.items c.utf8.text c.as_bytes.ensures.value
    (c.in_ok-tokens.ensures {u = tt}).found c.as_slice.ensures.value (c.in_ok-nodes.ensures {u = tt}).nodes in
    subst (λ (b : List ℕ). ShowsTree (document_view_by b (0, length c.args.text.now)) form)
    (sym (c.in_ok-text.ensures {u = tt}).ok)
    (shows_any c.args.text.now (0, length c.args.text.now) d.0 form c.in_ok-nodes.nodes.items d.1 m)

pub returns-clause-pieces : goal.returns-clause-pieces
unfolding document_view_by
returns-clause-pieces c =
    subst (λ (b : List ℕ). length (pieces_of b (0, length c.args.text.now)) ≤ 1)
    (sym (c.in_ok-text.ensures {u = tt}).ok) (whole_count c.args.text.now)
