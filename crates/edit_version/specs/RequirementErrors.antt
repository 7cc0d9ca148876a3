-- The results of calls on requirements and Rust versions, and their errors.
use Rattle.std.specs.Prelude.{◌≡◌, List, ℕ, Option, Some, None, Result, Ok, Err, IsErr, IsOk, String, string_bytes}
use Rattle.std.specs.declared.alloc.Global.{Global}
use Rattle.semver.specs.Parse.{Held, req_of}
use Rattle.edit_base.specs.declared.errors.Error.{Error}
use Rattle.edit_base.specs.declared.errors.Error.TheVariants as error
use Rattle.edit_version.specs.Requirement.{UpgradeResult, Unread, Nothing, Unsupported, Text, comparator_text}
use Rattle.edit_version.specs.RustVersions.{rust_of}

-- the error for a text that is no requirement has that text, where memory lasts (own)
abbrev pub IsInvalidRequirement : List ℕ → Error → Type 0
IsInvalidRequirement text (error.InvalidRequirement s) = IsErr (req_of text) × (string_bytes s ≡ text)
IsInvalidRequirement text error.Memory = Unit {0}
IsInvalidRequirement text _ = ⊥

-- the error for a text that is no Rust version: it is no requirement, or another requirement (own)
abbrev pub IsNoRustVersion : List ℕ → Error → Type 0
IsNoRustVersion text (error.InvalidRequirement s) = IsErr (req_of text) × (string_bytes s ≡ text)
IsNoRustVersion text error.BadRustVersion = IsOk (req_of text) × (rust_of text ≡ None)
IsNoRustVersion text error.Memory = Unit {0}
IsNoRustVersion text _ = ⊥

-- why a text is not raised: it is no requirement, or a comparator of it cannot be raised (own)
abbrev pub IsUpgradeError : UpgradeResult → List ℕ → Error → Type 0
IsUpgradeError r text (error.InvalidRequirement s) = (r ≡ Unread) × (string_bytes s ≡ text)
IsUpgradeError r text (error.Unsupported s) =
    (c : Held) × (r ≡ Unsupported c) × (string_bytes s ≡ comparator_text c)
IsUpgradeError r text error.Memory = Unit {0}
IsUpgradeError r text _ = ⊥

-- the answer is what raising the text gives, where memory lasts (own)
abbrev pub IsAnswer : UpgradeResult → List ℕ → Result (Option (String Global)) Error → Type 0
IsAnswer r text (Ok None) = r ≡ Nothing
IsAnswer r text (Ok (Some s)) = r ≡ Text (string_bytes s)
IsAnswer r text (Err e) = IsUpgradeError r text e
