use Rattle.std.proofs.Common.{◌≡◌, sym, ◌∙◌, arith}
use Rattle.std.proofs.lemmas.Slice.Eq.{bytes_eq-Decides}
use Rattle.std.specs.Prelude.{codes}
use Rattle.edit_json.specs.Reads.{ReadsValue}
use Rattle.serde_json.specs.Data.{boolean, string}
use Rattle.edit_sources.proofs.FieldLemmas.{put_name, put_other_key, put_published, put_rust_version, put_version, put_yanked, text_or_null}
use Rattle.edit_sources.proofs.line_scanner.scan_member.Goals as goal

pub returns-then-eq-clause-value : goal.returns-then-eq-clause-value
returns-then-eq-clause-value c =
    let s = c.in_ok-text.text in
    let key : c.args.key.now ≡ codes "name" =
    (bytes_eq-Decides c.args.key.now c.as_slice.result.now).0 (sym c.eq.ensures ∙ c.if-eq.true) ∙ grind arith in
    (string s.now, c.in_ok-text.ensures.value 126, λ ms says. put_name c.args.fields c.args.key.now ms says s key)

pub returns-then-eq-2-clause-value : goal.returns-then-eq-2-clause-value
returns-then-eq-2-clause-value c =
    let s = c.in_ok-text-2.text in
    let key : c.args.key.now ≡ codes "vers" =
    (bytes_eq-Decides c.args.key.now c.as_slice-2.result.now).0 (sym c.eq-2.ensures ∙ c.if-eq-2.true) ∙ grind arith in
    (string s.now, c.in_ok-text-2.ensures.value 126, λ ms says. put_version c.args.fields c.args.key.now ms says s key)

pub returns-then-eq-3-clause-value : goal.returns-then-eq-3-clause-value
returns-then-eq-3-clause-value c =
    let b = c.in_ok-truth.truth in
    let key : c.args.key.now ≡ codes "yanked" =
    (bytes_eq-Decides c.args.key.now c.as_slice-3.result.now).0 (sym c.eq-3.ensures ∙ c.if-eq-3.true) ∙ grind arith in
    (boolean b, c.in_ok-truth.ensures.value 126, λ ms says. put_yanked c.args.fields c.args.key.now ms says b key)

pub returns-then-eq-4-clause-value : goal.returns-then-eq-4-clause-value
returns-then-eq-4-clause-value c =
    let o = c.in_ok-text-3.text in
    let key : c.args.key.now ≡ codes "rust_version" =
    (bytes_eq-Decides c.args.key.now c.as_slice-4.result.now).0 (sym c.eq-4.ensures ∙ c.if-eq-4.true) ∙ grind arith in
    let read = text_or_null o (λ d. ReadsValue 126 c.args.scanner.now d c.read_optional_text.new.self) (c.in_ok-text-3.ensures.value 126) in
    (read.0, read.1, λ ms says. put_rust_version c.args.fields c.args.key.now ms says o read.0 read.2 key)

pub returns-then-eq-5-clause-value : goal.returns-then-eq-5-clause-value
returns-then-eq-5-clause-value c =
    let o = c.in_ok-text-4.text in
    let key : c.args.key.now ≡ codes "pubtime" =
    (bytes_eq-Decides c.args.key.now c.as_slice-5.result.now).0 (sym c.eq-5.ensures ∙ c.if-eq-5.true) ∙ grind arith in
    let read = text_or_null o (λ d. ReadsValue 126 c.args.scanner.now d c.read_optional_text-then-eq-5.new.self) (c.in_ok-text-4.ensures.value 126) in
    (read.0, read.1, λ ms says. put_published c.args.fields c.args.key.now ms says o read.0 read.3 key)

pub returns-clause-value : goal.returns-clause-value
returns-clause-value c =
    let d = c.in_ok-skip_member.ensures.value.0 in
    let not_name : c.args.key.now ≡ codes "name" → ⊥ = grind arith in
    let not_version : c.args.key.now ≡ codes "vers" → ⊥ = grind arith in
    let not_yanked : c.args.key.now ≡ codes "yanked" → ⊥ = grind arith in
    let not_rust : c.args.key.now ≡ codes "rust_version" → ⊥ = grind arith in
    let not_published : c.args.key.now ≡ codes "pubtime" → ⊥ = grind arith in
    (d, c.in_ok-skip_member.ensures.value.1, λ ms says. put_other_key c.args.fields c.args.key.now ms says d not_name not_version not_yanked not_rust not_published)
