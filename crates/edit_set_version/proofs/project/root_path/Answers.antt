use Rattle.std.proofs.Common.{◌∙◌, ap, string_bytes, subst}
use Rattle.std.specs.Prelude.{IfOk, codes}
use Rattle.edit_base.specs.Paths.{IsNormalOf, joined}
use Rattle.edit_set_version.proofs.project.root_path.Goals as goal

pub returns-clause-path : goal.returns-clause-path
returns-clause-path c =
    subst (λ p. IfOk c.normal.result (λ s. IsNormalOf p (string_bytes s)))
    (c.as_str-2.ensures.value ∙ c.in_ok-path.ensures.text
    ∙ ap (λ root. joined root (codes "Cargo.toml")) c.as_str.ensures.value)
    c.normal.ensures.text
