-- Valid calls of `cargo update` (The Cargo Book, "cargo update").
use Rattle.std.specs.Prelude.{◌≡◌, ℕ, List, [], ◌∷◌, true, false, codes}
use Rattle.std.specs.Str.{bytes_eq}
use Rattle.edit_lock.specs.LockFile.{Package}
use Rattle.edit_lock.specs.AdaptedCalls.{Call, locks, names_package}

-- arguments in which a locked package follows each `--package`
pub data NamesLocked (packages : List Package) : Call → Type 0 where
  no_arguments : NamesLocked packages []
  locked : (spec : List ℕ) (rest : Call) → locks packages spec ≡ true → NamesLocked packages rest
      → NamesLocked packages (codes "--package" ∷ spec ∷ rest)
  other : (argument : List ℕ) (rest : Call) → bytes_eq argument (codes "--package") ≡ false
      → NamesLocked packages rest → NamesLocked packages (argument ∷ rest)

-- a call that names at least one package, and only locked ones
pub record IsValidCall (packages : List Package) (call : Call) : Type 0 where
  pub some : names_package call ≡ true
  pub locked : NamesLocked packages call
