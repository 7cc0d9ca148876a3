-- The arguments that name a command which cargo provides itself.
use Rattle.std.specs.Prelude.{List, Option, Some, None, codes, if◌then◌else◌, option_and_then, slice_get}
use Rattle.std.specs.Str.{bytes_eq}
use Rattle.clap.specs.Words.{Text}
use Rattle.edit_base.specs.declared.errors.details.MergedCommand.{MergedCommand}
use Rattle.edit_base.specs.declared.errors.details.MergedCommand.TheVariants.{Add, Rm}

-- the command of cargo that an argument names
abbrev pub builtin_named : Text → Option MergedCommand
builtin_named arg =
    if bytes_eq arg (codes "add") then Some Add
    else (if bytes_eq arg (codes "rm") then Some Rm else None)

-- the command of cargo that the first argument names
abbrev pub first_builtin : List Text → Option MergedCommand
first_builtin args = option_and_then builtin_named (slice_get args 0)
