-- The fields of an index line after one more member was read.
use Rattle.std.proofs.Common.{◌≡◌, ℕ, Bool, List, Option, Some, None, option_map, option_and_then, refl, ap, ◌∙◌}
use Rattle.std.specs.Prelude.{codes, MatchOption}
use Rattle.std.specs.Borrow.{Bor}
use Rattle.serde_json.specs.Data.{Data, Members, boolean, null, put, string}
use Rattle.serde_json.specs.Find.{as_str}
use Rattle.edit_json.proofs.PutMemberLemmas.{at_key, off_key, not_key}
use Rattle.edit_sources.specs.declared.line_reader.Fields.{Fields}
use Rattle.edit_sources.specs.IndexLines.{yanked_of, rust_version_of}
use Rattle.edit_sources.specs.LineFields.{HasFields}

module _ (f : Fields) (key : List ℕ) (ms : Members) (says : HasFields f ms) where
  pub put_name : (s : Bor (List ℕ)) → key ≡ codes "name"
      → HasFields (record { name = Some s; version = f.version; yanked = f.yanked; rust_version = f.rust_version; published = f.published }) (put key (string s.now) ms)
  put_name s is = let d = string s.now in record {
    name = ap (option_and_then as_str) (at_key (codes "name") key d ms is);
    version = ap (option_and_then as_str) (off_key (codes "vers") (codes "name") key d ms is refl) ∙ says.version;
    yanked = ap yanked_of (off_key (codes "yanked") (codes "name") key d ms is refl) ∙ says.yanked;
    rust_version = ap rust_version_of (off_key (codes "rust_version") (codes "name") key d ms is refl) ∙ says.rust_version;
    published = ap (option_and_then as_str) (off_key (codes "pubtime") (codes "name") key d ms is refl) ∙ says.published;
  }

  pub put_version : (s : Bor (List ℕ)) → key ≡ codes "vers"
      → HasFields (record { name = f.name; version = Some s; yanked = f.yanked; rust_version = f.rust_version; published = f.published }) (put key (string s.now) ms)
  put_version s is = let d = string s.now in record {
    name = ap (option_and_then as_str) (off_key (codes "name") (codes "vers") key d ms is refl) ∙ says.name;
    version = ap (option_and_then as_str) (at_key (codes "vers") key d ms is);
    yanked = ap yanked_of (off_key (codes "yanked") (codes "vers") key d ms is refl) ∙ says.yanked;
    rust_version = ap rust_version_of (off_key (codes "rust_version") (codes "vers") key d ms is refl) ∙ says.rust_version;
    published = ap (option_and_then as_str) (off_key (codes "pubtime") (codes "vers") key d ms is refl) ∙ says.published;
  }

  pub put_yanked : (b : Bool) → key ≡ codes "yanked"
      → HasFields (record { name = f.name; version = f.version; yanked = b; rust_version = f.rust_version; published = f.published }) (put key (boolean b) ms)
  put_yanked b is = let d = boolean b in record {
    name = ap (option_and_then as_str) (off_key (codes "name") (codes "yanked") key d ms is refl) ∙ says.name;
    version = ap (option_and_then as_str) (off_key (codes "vers") (codes "yanked") key d ms is refl) ∙ says.version;
    yanked = ap yanked_of (at_key (codes "yanked") key d ms is);
    rust_version = ap rust_version_of (off_key (codes "rust_version") (codes "yanked") key d ms is refl) ∙ says.rust_version;
    published = ap (option_and_then as_str) (off_key (codes "pubtime") (codes "yanked") key d ms is refl) ∙ says.published;
  }

  pub put_rust_version : (o : Option (Bor (List ℕ))) (d : Data) → rust_version_of (Some d) ≡ Some (option_map (λ s. s.now) o) → key ≡ codes "rust_version"
      → HasFields (record { name = f.name; version = f.version; yanked = f.yanked; rust_version = o; published = f.published }) (put key d ms)
  put_rust_version o d reads is = record {
    name = ap (option_and_then as_str) (off_key (codes "name") (codes "rust_version") key d ms is refl) ∙ says.name;
    version = ap (option_and_then as_str) (off_key (codes "vers") (codes "rust_version") key d ms is refl) ∙ says.version;
    yanked = ap yanked_of (off_key (codes "yanked") (codes "rust_version") key d ms is refl) ∙ says.yanked;
    rust_version = ap rust_version_of (at_key (codes "rust_version") key d ms is) ∙ reads;
    published = ap (option_and_then as_str) (off_key (codes "pubtime") (codes "rust_version") key d ms is refl) ∙ says.published;
  }

  pub put_published : (o : Option (Bor (List ℕ))) (d : Data) → as_str d ≡ option_map (λ s. s.now) o → key ≡ codes "pubtime"
      → HasFields (record { name = f.name; version = f.version; yanked = f.yanked; rust_version = f.rust_version; published = o }) (put key d ms)
  put_published o d reads is = record {
    name = ap (option_and_then as_str) (off_key (codes "name") (codes "pubtime") key d ms is refl) ∙ says.name;
    version = ap (option_and_then as_str) (off_key (codes "vers") (codes "pubtime") key d ms is refl) ∙ says.version;
    yanked = ap yanked_of (off_key (codes "yanked") (codes "pubtime") key d ms is refl) ∙ says.yanked;
    rust_version = ap rust_version_of (off_key (codes "rust_version") (codes "pubtime") key d ms is refl) ∙ says.rust_version;
    published = ap (option_and_then as_str) (at_key (codes "pubtime") key d ms is) ∙ reads;
  }

  -- the fields stay as they are
  pub put_other_key : (d : Data) → (key ≡ codes "name" → ⊥) → (key ≡ codes "vers" → ⊥) → (key ≡ codes "yanked" → ⊥) → (key ≡ codes "rust_version" → ⊥)
      → (key ≡ codes "pubtime" → ⊥) → HasFields f (put key d ms)
  put_other_key d not_name not_version not_yanked not_rust not_published = record {
    name = ap (option_and_then as_str) (not_key (codes "name") key d ms not_name) ∙ says.name;
    version = ap (option_and_then as_str) (not_key (codes "vers") key d ms not_version) ∙ says.version;
    yanked = ap yanked_of (not_key (codes "yanked") key d ms not_yanked) ∙ says.yanked;
    rust_version = ap rust_version_of (not_key (codes "rust_version") key d ms not_rust) ∙ says.rust_version;
    published = ap (option_and_then as_str) (not_key (codes "pubtime") key d ms not_published) ∙ says.published;
  }

-- a string or `null` was read
pub text_or_null : (o : Option (Bor (List ℕ))) (Reads : Data → Type 0) → MatchOption o (Reads null) (λ s. Reads (string s.now))
    → (d : Data) × Reads d × (rust_version_of (Some d) ≡ Some (option_map (λ s. s.now) o)) × (as_str d ≡ option_map (λ s. s.now) o)
text_or_null None Reads x = (null, x, refl, refl)
text_or_null (Some s) Reads x = (string s.now, x, refl, refl)
