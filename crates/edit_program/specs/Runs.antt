-- The exit status of a run, and its effect on the files. The arguments are the given ones, with defaults
-- inserted for options without a value.
use Rattle.std.specs.Prelude.{◌≡◌, ◌⊎◌, ℕ, List, [], Option, Some, None, codes, true}
use Rattle.clap.specs.Words.{IsAmong, Row, Text, fault_of, subcommand_of, takes}
use Rattle.clap.specs.declared.error.kind.ErrorKind.{ErrorKind}
use Rattle.clap.specs.declared.error.kind.ErrorKind.TheVariants.{DisplayHelp, DisplayVersion}
use Rattle.edit_base.specs.Errors.{IsMemory}
use Rattle.edit_base.specs.declared.errors.Error.{Error}
use Rattle.edit_base.specs.declared.errors.Error.TheVariants.{Merged, Output}
use Rattle.edit_base.specs.declared.errors.details.MergedCommand.{MergedCommand}
use Rattle.edit_store.specs.Store.{SameFiles}
use Rattle.edit_words.specs.CommandLine.{edit_app}
use Rattle.edit_program.specs.ParsedOptions.{is_given}
use Rattle.edit_program.specs.Merged.{first_builtin}
use Rattle.edit_program.specs.Run.{Run}
use Rattle.edit_program.specs.Commands.{HasSubcommandUsageError, IsBrokenBy, IsCauseBy, IsDoneBy}

-- the arguments parse, and these are the subcommand and its parsed arguments
pub record HasParsedArgs (args : List Text) (name : Text) (rows : List Row) : Type 0 where
  pub taken : fault_of edit_app args ≡ []
  pub entered : subcommand_of edit_app args ≡ Some (name, rows)

-- the arguments do not parse: they are wrong, or request help or the version
abbrev pub IsNotParsed : List (List ℕ) → Type 0
IsNotParsed args = takes edit_app args ≡ true → ⊥

-- the exit status for a kind of `clap` error: 0 for help and the version, else 2
abbrev pub status_of : ErrorKind → ℕ
status_of DisplayHelp = 0
status_of DisplayVersion = 0
status_of other = 2

-- `clap` prints a message instead, of a kind with this exit status
pub record IsAnswered (args : List (List ℕ)) (status : ℕ) : Type 0 where
  pub not_taken : IsNotParsed args
  pub kind : ErrorKind
  pub among : IsAmong kind (fault_of edit_app args)
  pub is : status ≡ status_of kind

-- the arguments parse, and this holds of the subcommand and its parsed arguments
pub record IsParsedTo (args : List (List ℕ)) (RepresentsNodes : Text → List Row → Type 0) : Type 0 where
  pub name : Text
  pub rows : List Row
  pub entered : HasParsedArgs args name rows
  pub holds : RepresentsNodes name rows

-- the arguments parse, and name no subcommand
pub record HasNoSubcommand (args : List (List ℕ)) : Type 0 where
  pub taken : fault_of edit_app args ≡ []
  pub none : subcommand_of edit_app args ≡ None

-- a wrong command line: it does not parse, it names no subcommand or one that the program does not have, or
-- its arguments cannot be used
abbrev pub HasUsageError : List (List ℕ) → Type 0
HasUsageError args = IsAnswered args 2 ⊎ (HasNoSubcommand args ⊎ IsParsedTo args HasSubcommandUsageError)

-- a run that succeeds: help or the version is printed, or the subcommand succeeds
abbrev pub IsDone : List (List ℕ) → (List ℕ → Type 0) → (List ℕ → Type 0) → Run → Type 0
IsDone args Prints Reports run =
    (IsAnswered args 0 × SameFiles run.old.file_at run.new.file_at)
    ⊎ IsParsedTo args (λ name rows. IsDoneBy name rows 0 Prints Reports run)

-- a check found a change to make: no file changes, and the exit status is 1, since `--check` is given and
-- the plan has an output
pub record HasFound (args : List (List ℕ)) (Prints Reports : List ℕ → Type 0) (run : Run) : Type 0 where
  pub unchanged : SameFiles run.old.file_at run.new.file_at
  pub found : IsParsedTo args (λ name rows. IsDoneBy name rows 1 Prints Reports run)

-- the arguments name a subcommand, and have `--check`
abbrev pub HasCheckFlag : List (List ℕ) → Type 0
HasCheckFlag args = IsParsedTo args (λ name rows. is_given (codes "check") rows ≡ true)

-- with `--check`, a change to make was found
abbrev pub IsChecked : List (List ℕ) → (List ℕ → Type 0) → (List ℕ → Type 0) → Run → Type 0
IsChecked args Prints Reports run =
    HasCheckFlag args × (run.old.tells ≡ true → HasFound args Prints Reports run)

-- a run with an exit status of its own: it succeeds, or a check found a change to make
abbrev pub IsEnded : List (List ℕ) → ℕ → (List ℕ → Type 0) → (List ℕ → Type 0) → Run → Type 0
IsEnded args status Prints Reports run =
    ((status ≡ 0) × IsDone args Prints Reports run)
    ⊎ ((status ≡ 1) × HasFound args Prints Reports run)

-- a run that fails: each file is unchanged, or the subcommand failed at a write or after all of them
abbrev pub IsRunFailure : List (List ℕ) → (List ℕ → Type 0) → (List ℕ → Type 0) → Run → Type 0
IsRunFailure args Prints Reports run =
    SameFiles run.old.file_at run.new.file_at
    ⊎ IsParsedTo args (λ name rows. IsBrokenBy name rows Prints Reports run)

-- the arguments name a command that cargo provides itself, and the error says so
pub record HasBuiltinCause (args : List (List ℕ)) (e : Error) : Type 0 where
  pub command : MergedCommand
  pub named : first_builtin args ≡ Some command
  pub is : e ≡ Merged command

-- the cause of an error before a subcommand runs: help or the version could not be printed, or cargo
-- provides the command itself
abbrev pub IsCauseAtOnce : List (List ℕ) → Error → Type 0
IsCauseAtOnce args e = ((e ≡ Output) × IsAnswered args 0) ⊎ HasBuiltinCause args e

-- the cause of an error of a run, and its effect on the files: out of memory; no subcommand runs, and each
-- file is unchanged; or the subcommand has a cause
abbrev pub IsRunCause : List (List ℕ) → (List ℕ → Type 0) → Run → Error → Type 0
IsRunCause args Prints run e =
    IsMemory e
    ⊎ ((SameFiles run.old.file_at run.new.file_at × IsCauseAtOnce args e)
    ⊎ IsParsedTo args (λ name rows. IsCauseBy name rows Prints run e))

-- a failed run: its cause, whether it is counted, and the contents of standard error and the files before
-- the error was printed
pub record HasFailed (args : List (List ℕ)) (Prints : List ℕ → Type 0)
    (Grows : Option (List ℕ) → List ℕ → Type 0) (Counts : Error → Type 0) (run : Run) : Type 0 where
  pub error : Error
  pub cause : IsRunCause args Prints run error
  pub counted : Counts error
  pub printed : Option (List ℕ)
  pub left : run.old.tells ≡ true → IsRunFailure args Prints (Grows printed) run
