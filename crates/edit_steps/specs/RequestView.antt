-- The manifests and configurations that an upgrade is requested to read.
use Rattle.std.specs.Prelude.{ℕ, List, Option, Some, None, false, true}
use Rattle.edit_metadata.specs.Inputs.{RustOptions}
use Rattle.edit_sources.specs.Configured.{given}
use Rattle.edit_version.specs.RustVersions.{numbers_of}
use Rattle.edit_steps.specs.declared.upgrade_read.source_request.SourceRequest.{SourceRequest}
use Rattle.edit_steps.specs.declared.upgrade_read.source_request.RustChoice.{RustChoice}
use Rattle.edit_steps.specs.declared.upgrade_read.source_request.RustChoice.TheVariants.{Given, Ignored, Own}

-- the request for Rust versions
abbrev pub rust_request : RustChoice → RustOptions
rust_request Own = record { given = None; ignored = false }
rust_request Ignored = record { given = None; ignored = true }
rust_request (Given version) = record { given = Some (numbers_of version); ignored = false }

-- the given paths, as they are written, and the request for Rust versions
pub record RequestView : Type 0 where
  pub manifest : Option (List ℕ)
  pub metadata : Option (List ℕ)
  pub config : Option (List ℕ)
  pub default_config : Option (List ℕ)
  pub rust : RustOptions

-- the request of the program's type
abbrev pub request_view : SourceRequest → RequestView
request_view request = record {
  manifest = given request.manifest_path;
  metadata = given request.metadata_json;
  config = given request.config;
  default_config = given request.default_config;
  rust = rust_request request.rust;
}
