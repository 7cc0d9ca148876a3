use Rattle.std.proofs.Common.{◌≡◌, ℕ, List, Option, Some, None, option_map, option_and_then, refl, sym, ap, ◌∙◌, arith}
use Rattle.std.proofs.lemmas.Slice.Eq.{bytes_eq-Decides}
use Rattle.std.specs.Prelude.{codes, MatchOption}
use Rattle.std.specs.Borrow.{Bor}
use Rattle.serde_json.specs.Data.{Data, string, null}
use Rattle.serde_json.specs.Find.{as_str}
use Rattle.edit_json.specs.Reads.{ReadsValue}
use Rattle.edit_json.proofs.PutMemberLemmas.{at_key, off_key, not_key}
use Rattle.edit_metadata.specs.Metadata.{maybe_text}
use Rattle.edit_metadata.proofs.package_texts.read_member.Goals as goal

-- a string or null, given the value that holds it
said : (o : Option (Bor (List ℕ))) (A : Data → Type 0) → MatchOption o (A null) (λ s. A (string s.now))
    → (d : Data) × A d × (maybe_text (Some d) ≡ Some (option_map (λ s. s.now) o))
said None A x = (null, x, refl)
said (Some s) A x = (string s.now, x, refl)

pub returns-then-eq-clause-value : goal.returns-then-eq-clause-value
returns-then-eq-clause-value c =
    let key : c.args.key.now ≡ codes "name" = (bytes_eq-Decides c.args.key.now (codes "name")).0 (sym c.eq.ensures ∙ c.if-eq.true) in
    let d = string c.in_ok-read_text.field-0.now in (
      d,
      c.in_ok-read_text.ensures.value 124,
      λ ms says. record {
        name = ap (option_and_then as_str) (at_key (codes "name") c.args.key.now d ms key);
        id = ap (option_and_then as_str) (off_key (codes "id") (codes "name") c.args.key.now d ms key refl) ∙ says.id;
        manifest_path = ap (option_and_then as_str) (off_key (codes "manifest_path") (codes "name") c.args.key.now d ms key refl) ∙ says.manifest_path;
        version = ap (option_and_then as_str) (off_key (codes "version") (codes "name") c.args.key.now d ms key refl) ∙ says.version;
        source = ap (maybe_text) (off_key (codes "source") (codes "name") c.args.key.now d ms key refl) ∙ says.source;
        rust_version = ap (maybe_text) (off_key (codes "rust_version") (codes "name") c.args.key.now d ms key refl) ∙ says.rust_version;
      },
    )

pub returns-then-eq-2-clause-value : goal.returns-then-eq-2-clause-value
returns-then-eq-2-clause-value c =
    let key : c.args.key.now ≡ codes "id" = (bytes_eq-Decides c.args.key.now (codes "id")).0 (sym c.eq-2.ensures ∙ c.if-eq-2.true) in
    let d = string c.in_ok-read_text-2.field-0.now in (
      d,
      c.in_ok-read_text-2.ensures.value 124,
      λ ms says. record {
        name = ap (option_and_then as_str) (off_key (codes "name") (codes "id") c.args.key.now d ms key refl) ∙ says.name;
        id = ap (option_and_then as_str) (at_key (codes "id") c.args.key.now d ms key);
        manifest_path = ap (option_and_then as_str) (off_key (codes "manifest_path") (codes "id") c.args.key.now d ms key refl) ∙ says.manifest_path;
        version = ap (option_and_then as_str) (off_key (codes "version") (codes "id") c.args.key.now d ms key refl) ∙ says.version;
        source = ap (maybe_text) (off_key (codes "source") (codes "id") c.args.key.now d ms key refl) ∙ says.source;
        rust_version = ap (maybe_text) (off_key (codes "rust_version") (codes "id") c.args.key.now d ms key refl) ∙ says.rust_version;
      },
    )

pub returns-then-eq-3-clause-value : goal.returns-then-eq-3-clause-value
returns-then-eq-3-clause-value c =
    let key : c.args.key.now ≡ codes "manifest_path" = (bytes_eq-Decides c.args.key.now (codes "manifest_path")).0 (sym c.eq-3.ensures ∙ c.if-eq-3.true) in
    let d = string c.in_ok-read_text-3.field-0.now in (
      d,
      c.in_ok-read_text-3.ensures.value 124,
      λ ms says. record {
        name = ap (option_and_then as_str) (off_key (codes "name") (codes "manifest_path") c.args.key.now d ms key refl) ∙ says.name;
        id = ap (option_and_then as_str) (off_key (codes "id") (codes "manifest_path") c.args.key.now d ms key refl) ∙ says.id;
        manifest_path = ap (option_and_then as_str) (at_key (codes "manifest_path") c.args.key.now d ms key);
        version = ap (option_and_then as_str) (off_key (codes "version") (codes "manifest_path") c.args.key.now d ms key refl) ∙ says.version;
        source = ap (maybe_text) (off_key (codes "source") (codes "manifest_path") c.args.key.now d ms key refl) ∙ says.source;
        rust_version = ap (maybe_text) (off_key (codes "rust_version") (codes "manifest_path") c.args.key.now d ms key refl) ∙ says.rust_version;
      },
    )

pub returns-then-eq-4-clause-value : goal.returns-then-eq-4-clause-value
returns-then-eq-4-clause-value c =
    let key : c.args.key.now ≡ codes "version" = (bytes_eq-Decides c.args.key.now (codes "version")).0 (sym c.eq-4.ensures ∙ c.if-eq-4.true) in
    let d = string c.in_ok-read_text-4.field-0.now in (
      d,
      c.in_ok-read_text-4.ensures.value 124,
      λ ms says. record {
        name = ap (option_and_then as_str) (off_key (codes "name") (codes "version") c.args.key.now d ms key refl) ∙ says.name;
        id = ap (option_and_then as_str) (off_key (codes "id") (codes "version") c.args.key.now d ms key refl) ∙ says.id;
        manifest_path = ap (option_and_then as_str) (off_key (codes "manifest_path") (codes "version") c.args.key.now d ms key refl) ∙ says.manifest_path;
        version = ap (option_and_then as_str) (at_key (codes "version") c.args.key.now d ms key);
        source = ap (maybe_text) (off_key (codes "source") (codes "version") c.args.key.now d ms key refl) ∙ says.source;
        rust_version = ap (maybe_text) (off_key (codes "rust_version") (codes "version") c.args.key.now d ms key refl) ∙ says.rust_version;
      },
    )

pub returns-then-eq-5-clause-value : goal.returns-then-eq-5-clause-value
returns-then-eq-5-clause-value c =
    let key : c.args.key.now ≡ codes "source" = (bytes_eq-Decides c.args.key.now (codes "source")).0 (sym c.eq-5.ensures ∙ c.if-eq-5.true) in
    let found = said c.in_ok-texts.field-0 (λ d. ReadsValue 124 c.args.reader.now d c.read_optional_text.new.reader) (c.in_ok-texts.ensures.value 124) in
    let d = found.0 in (
      d,
      found.1,
      λ ms says. record {
        name = ap (option_and_then as_str) (off_key (codes "name") (codes "source") c.args.key.now d ms key refl) ∙ says.name;
        id = ap (option_and_then as_str) (off_key (codes "id") (codes "source") c.args.key.now d ms key refl) ∙ says.id;
        manifest_path = ap (option_and_then as_str) (off_key (codes "manifest_path") (codes "source") c.args.key.now d ms key refl) ∙ says.manifest_path;
        version = ap (option_and_then as_str) (off_key (codes "version") (codes "source") c.args.key.now d ms key refl) ∙ says.version;
        source = ap (maybe_text) (at_key (codes "source") c.args.key.now d ms key) ∙ found.2;
        rust_version = ap (maybe_text) (off_key (codes "rust_version") (codes "source") c.args.key.now d ms key refl) ∙ says.rust_version;
      },
    )

pub returns-then-eq-6-clause-value : goal.returns-then-eq-6-clause-value
returns-then-eq-6-clause-value c =
    let key : c.args.key.now ≡ codes "rust_version" = (bytes_eq-Decides c.args.key.now (codes "rust_version")).0 (sym c.eq-6.ensures ∙ c.if-eq-6.true) in
    let found = said c.in_ok-texts-2.field-0 (λ d. ReadsValue 124 c.args.reader.now d c.read_optional_text-then-eq-6.new.reader) (c.in_ok-texts-2.ensures.value 124) in
    let d = found.0 in (
      d,
      found.1,
      λ ms says. record {
        name = ap (option_and_then as_str) (off_key (codes "name") (codes "rust_version") c.args.key.now d ms key refl) ∙ says.name;
        id = ap (option_and_then as_str) (off_key (codes "id") (codes "rust_version") c.args.key.now d ms key refl) ∙ says.id;
        manifest_path = ap (option_and_then as_str) (off_key (codes "manifest_path") (codes "rust_version") c.args.key.now d ms key refl) ∙ says.manifest_path;
        version = ap (option_and_then as_str) (off_key (codes "version") (codes "rust_version") c.args.key.now d ms key refl) ∙ says.version;
        source = ap (maybe_text) (off_key (codes "source") (codes "rust_version") c.args.key.now d ms key refl) ∙ says.source;
        rust_version = ap (maybe_text) (at_key (codes "rust_version") c.args.key.now d ms key) ∙ found.2;
      },
    )

pub returns-clause-value : goal.returns-clause-value
returns-clause-value c =
    let d = c.in_ok-skip_value.ensures.value.0 in
    let not_name : c.args.key.now ≡ codes "name" → ⊥ = grind arith in
    let not_id : c.args.key.now ≡ codes "id" → ⊥ = grind arith in
    let not_manifest_path : c.args.key.now ≡ codes "manifest_path" → ⊥ = grind arith in
    let not_version : c.args.key.now ≡ codes "version" → ⊥ = grind arith in
    let not_source : c.args.key.now ≡ codes "source" → ⊥ = grind arith in
    let not_rust_version : c.args.key.now ≡ codes "rust_version" → ⊥ = grind arith in (
      d,
      c.in_ok-skip_value.ensures.value.1,
      λ ms says. record {
        name = ap (option_and_then as_str) (not_key (codes "name") c.args.key.now d ms not_name) ∙ says.name;
        id = ap (option_and_then as_str) (not_key (codes "id") c.args.key.now d ms not_id) ∙ says.id;
        manifest_path = ap (option_and_then as_str) (not_key (codes "manifest_path") c.args.key.now d ms not_manifest_path) ∙ says.manifest_path;
        version = ap (option_and_then as_str) (not_key (codes "version") c.args.key.now d ms not_version) ∙ says.version;
        source = ap (maybe_text) (not_key (codes "source") c.args.key.now d ms not_source) ∙ says.source;
        rust_version = ap (maybe_text) (not_key (codes "rust_version") c.args.key.now d ms not_rust_version) ∙ says.rust_version;
      },
    )
