-- Calls of `cargo update` adapted to a lock file that has changed (The Cargo Book, "cargo update": a package
-- of `--package` has to be locked, and a call without `--package` updates every package).
use Rattle.std.specs.Prelude.{ℕ, List, [], ◌∷◌, ◌++◌, ◌==◌, ◌&&◌, ◌||◌, Bool, if◌then◌else◌, not, codes, map}
use Rattle.std.specs.List.{before_first, filter, flat_map, list_any}
use Rattle.std.specs.Str.{bytes_eq}
use Rattle.edit_lock.specs.LockFile.{Package, spec_of}

-- the arguments of a call
abbrev pub Call : Type 0
Call = List (List ℕ)

-- whether one of these packages is `name@version`
abbrev pub locks : List Package → List ℕ → Bool
locks packages spec = list_any (λ p. bytes_eq (spec_of p) spec) packages

-- the model of two lock files: the one before the first call, and the current one
pub record Changes : Type 0 where
  -- whether the first lock file has a package `name@version`
  pub had : List ℕ → Bool
  -- whether the current lock file has a package `name@version`
  pub has : List ℕ → Bool
  -- the packages of a name that only the current lock file has
  pub gained : List ℕ → List (List ℕ)

-- the model of two lock files, given the packages of each; the new packages of a name are in the order of
-- the current file
abbrev pub changes : List Package → List Package → Changes
changes before now = record {
  had = locks before;
  has = locks now;
  gained = λ name. map spec_of (filter (λ p. bytes_eq name p.name && not (locks before (spec_of p))) now);
}

-- the name in `name@version`
abbrev pub name_in : List ℕ → List ℕ
name_in spec = before_first (λ b. b == 64) spec

-- the replacements of a package in a call: itself if it is locked, the new packages of its name if it was
-- locked, else none
abbrev pub replacement_specs : Changes → List ℕ → List (List ℕ)
replacement_specs c spec =
    if c.has spec then spec ∷ [] else if c.had spec then c.gained (name_in spec) else []

-- the arguments that select a package
abbrev pub package_arguments : List ℕ → Call
package_arguments spec = codes "--package" ∷ spec ∷ []

-- an argument that is dropped: `--package`, which is written again with its package, and `--offline` unless
-- `offline` is set
abbrev pub is_dropped_argument : Bool → List ℕ → Bool
is_dropped_argument offline argument =
    bytes_eq argument (codes "--package") || (bytes_eq argument (codes "--offline") && not offline)

-- what an argument becomes, given the argument before it
abbrev pub adapted_argument : Changes → Bool → List ℕ → List ℕ → Call
adapted_argument c offline previous argument =
    if bytes_eq previous (codes "--package") then flat_map package_arguments (replacement_specs c argument)
    else if is_dropped_argument offline argument then [] else argument ∷ []

-- what arguments become, given the argument before them
abbrev pub adapted_arguments : Changes → Bool → List ℕ → Call → Call
adapted_arguments c offline previous [] = []
adapted_arguments c offline previous (argument ∷ rest) =
    adapted_argument c offline previous argument ++ adapted_arguments c offline argument rest

-- whether a call has an argument `--package`
abbrev pub names_package : Call → Bool
names_package call = list_any (λ argument. bytes_eq argument (codes "--package")) call

-- calls adapted to a lock file, without those that have no package left
abbrev pub adapt_calls : Changes → Bool → List Call → List Call
adapt_calls c offline calls = filter names_package (map (adapted_arguments c offline []) calls)
