-- The statuses that a program ends with.
use Rattle.std.specs.Prelude.{ℤ, pos}
use Rattle.clap.specs.declared.error.kind.ErrorKind.{ErrorKind}
use Rattle.clap.specs.declared.error.kind.ErrorKind.TheVariants.{DisplayHelp, DisplayVersion}

-- the status for a kind of what the command line says itself: 0 for help and the version, else 1 (own)
abbrev pub exit_code_of : ErrorKind → ℤ
exit_code_of DisplayHelp = pos 0
exit_code_of DisplayVersion = pos 0
exit_code_of other = pos 1
