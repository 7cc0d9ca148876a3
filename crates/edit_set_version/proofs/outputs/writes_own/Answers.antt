use Rattle.std.proofs.Common.{◌≡◌, ◌∙◌, ap, ap₂, false, not, sym, true}
use Rattle.std.specs.Prelude.{◌&&◌}
use Rattle.std.specs.Str.{bytes_eq}
use Rattle.edit_document.proofs.EntryPartViews.{same_texts}
use Rattle.edit_tree.specs.Assertions.{same_bytes}
use Rattle.edit_set_version.specs.Crates.{bump_view}
use Rattle.edit_manifest.specs.Versions.{is_inherited}
use Rattle.edit_set_version.proofs.outputs.writes_own.Goals as goal

pub returns-then-eq : goal.returns-then-eq
returns-then-eq c =
    let b = bump_view c.args.bump.now in
    let path = c.args.path.now in
    let same : same_bytes b.member.path path ≡ true
    = sym (same_texts b.member.path path) ∙ ap (λ p. bytes_eq p path) (sym c.as_str.ensures.value)
    ∙ (sym c.eq.ensures ∙ c.if-eq.true) in
    ap not c.version_is_inherited.ensures ∙ sym (ap (λ x. x && not (is_inherited b.member.tree)) same)

pub returns-else-eq : goal.returns-else-eq
returns-else-eq c =
    let b = bump_view c.args.bump.now in
    let path = c.args.path.now in
    let other : same_bytes b.member.path path ≡ false
    = sym (same_texts b.member.path path) ∙ ap (λ p. bytes_eq p path) (sym c.as_str.ensures.value)
    ∙ (sym c.eq.ensures ∙ c.if-eq.false) in
    c.if-eq.false ∙ sym (ap (λ x. x && not (is_inherited b.member.tree)) other)
