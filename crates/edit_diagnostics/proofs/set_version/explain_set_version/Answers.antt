use Rattle.std.proofs.Common.{◌∙◌, ap, string_bytes, sym}
use Rattle.edit_set_version.specs.Failures.{manifest_of}
use Rattle.edit_set_version.specs.declared.failure.VersionOrigin.{VersionOrigin}
use Rattle.edit_diagnostics.proofs.FailureLemmas.{version-bytes, version-value}
use Rattle.edit_diagnostics.proofs.set_version.explain_set_version.Goals as goal

pub returns-in-NotToml-Input-clause-place : goal.returns-in-NotToml-Input-clause-place
returns-in-NotToml-Input-clause-place c =
    version-bytes c.args.failure c.at_byte.result.place c.in-Some.origin c.as_str.result.now c.deref.result.now
    c.in-Some.is
    (c.as_str.ensures.value ∙ sym (ap (λ (o : VersionOrigin). string_bytes (manifest_of o).path) c.in-NotToml-Input.is-1))
    (c.deref.ensures.value ∙ sym (ap (λ (o : VersionOrigin). (manifest_of o).bytes.items) c.in-NotToml-Input.is-1))
    c.at_byte.ensures.place

pub returns-clause-place : goal.returns-clause-place
returns-clause-place c =
    version-value c.args.failure c.in-Some.origin c.explain_origin-explanation.result
    c.with_explanation-in_default-2.result.place c.in-Some.is c.with_explanation-in_default-2.ensures.place
    c.explain_origin-explanation.ensures.place
