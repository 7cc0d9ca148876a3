-- The model of the fields of an index line after some of its members were read.
use Rattle.std.specs.Prelude.{◌≡◌, Some, option_and_then, option_map, codes}
use Rattle.serde_json.specs.Data.{Members}
use Rattle.serde_json.specs.Find.{get_member, as_str}
use Rattle.edit_sources.specs.IndexLines.{yanked_of, rust_version_of}
use Rattle.edit_sources.specs.declared.line_reader.Fields.{Fields}

-- the fields are those of the members that were read so far
pub record HasFields (f : Fields) (ms : Members) : Type 0 where
  pub name : option_and_then as_str (get_member (codes "name") ms) ≡ option_map (λ s. s.now) f.name
  pub version : option_and_then as_str (get_member (codes "vers") ms) ≡ option_map (λ s. s.now) f.version
  pub yanked : yanked_of (get_member (codes "yanked") ms) ≡ Some f.yanked
  pub rust_version : rust_version_of (get_member (codes "rust_version") ms)
      ≡ Some (option_map (λ s. s.now) f.rust_version)
  pub published : option_and_then as_str (get_member (codes "pubtime") ms)
      ≡ option_map (λ s. s.now) f.published
