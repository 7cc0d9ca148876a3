-- Versions of Rust, as a manifest or an index names them
-- (Cargo reference, "The Manifest Format", rust-version).
use Rattle.std.specs.Prelude.{ℕ, List, [], ◌∷◌, Bool, nat_lt, ◌==◌, ◌&&◌, ◌||◌, Option, Some, None, Result, Ok, Err, unwrap_or}
use Rattle.semver.specs.Parse.{Held, req_of}
use Rattle.semver.specs.declared.error.Error.{Error}
use Rattle.semver.specs.declared.Op.TheVariants as op
use Rattle.edit_version.specs.declared.rust_version.RustVersion.{RustVersion}

-- major, minor and patch number
abbrev pub Numbers : Type 0
Numbers = ℕ × ℕ × ℕ

-- the three numbers of a Rust version (own)
abbrev pub numbers_of : RustVersion → Numbers
numbers_of v = (v.major, v.minor, v.patch)

-- the numbers that comparators name: those of one caret without pre-release, missing ones being 0 (Cargo
-- reference, "The Manifest Format", rust-version)
abbrev pub rust_numbers : List Held → Option Numbers
rust_numbers ((op.Caret, major, minor, patch, []) ∷ []) = Some (major, unwrap_or minor 0, unwrap_or patch 0)
rust_numbers other = None

-- the numbers of what was read of a text
abbrev rust_read : Result (List Held) Error → Option Numbers
rust_read (Ok comparators) = rust_numbers comparators
rust_read (Err e) = None

-- the Rust version that a text names, none where it is no such text
abbrev pub rust_of : List ℕ → Option Numbers
rust_of text = rust_read (req_of text)

-- whether a Rust version is above another, in list order
abbrev pub is_above : Numbers → Numbers → Bool
is_above a b = nat_lt b.0 a.0 || ((a.0 == b.0) && (nat_lt b.1 a.1 || ((a.1 == b.1) && nat_lt b.2 a.2)))
