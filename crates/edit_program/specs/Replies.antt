-- What each subcommand answers, by its parsed arguments.
use Rattle.std.specs.Prelude.{◌≡◌, ◌⊎◌, ℕ, List, Option, codes, string_bytes, true}
use Rattle.clap.specs.Words.{Row, Text}
use Rattle.edit_store.specs.Store.{StoreView}
use Rattle.edit_program.specs.Commands.{HasSubcommandUsageError}
use Rattle.edit_program.specs.ParsedOptions.{is_given}
use Rattle.edit_program.specs.ParsedSetVersion.{HasSetVersionArgs, HaveVersionFault}
use Rattle.edit_program.specs.ParsedUpgrade.{HasUpgradeArgs, HaveUpgradeFault}
use Rattle.edit_program.specs.PrintedLookups.{AreLookupsPrinted}
use Rattle.edit_program.specs.Run.{Run}
use Rattle.edit_program.specs.Runs.{HasUsageError, IsAnswered, IsParsedTo}
use Rattle.edit_program.specs.UpgradeEffects.{AreUpgradeEffects}
use Rattle.edit_program.specs.VersionEffects.{IsSetting}
use Rattle.edit_program.specs.declared.effects.Effects.{Effects}
use Rattle.edit_program.specs.declared.effects.Reply.{Reply}
use Rattle.edit_program.specs.declared.effects.Reply.TheVariants as reply
use Rattle.edit_program.specs.declared.set_version_run.set_version_args.SetVersionArgs.{SetVersionArgs}
use Rattle.edit_program.specs.declared.upgrade_run.upgrade_args.UpgradeArgs.{UpgradeArgs}

-- what an upgrade with these arguments prints and writes
pub record HasUpgradeEffects (rows : List Row) (run : Run) (e : Effects) : Type 0 where
  pub args : UpgradeArgs
  pub asks : HasUpgradeArgs rows args
  pub check : e.check ≡ is_given (codes "check") rows
  pub effects : AreUpgradeEffects args run.current run.home run.index_files run.old e

-- the lines of the lookups that an upgrade with these arguments needs
pub record HasLookupsText (rows : List Row) (current : List ℕ) (home : Option (List ℕ)) (old : StoreView)
    (text : List ℕ) : Type 0 where
  pub args : UpgradeArgs
  pub asks : HasUpgradeArgs rows args
  pub printed : old.tells ≡ true → AreLookupsPrinted (λ t. t ≡ text) args current home old.file_at

-- what `set-version` with these arguments prints and writes
pub record HasVersionEffects (rows : List Row) (current : List ℕ) (old : StoreView) (e : Effects)
    : Type 0 where
  pub args : SetVersionArgs
  pub asks : HasSetVersionArgs rows args
  pub check : e.check ≡ is_given (codes "check") rows
  pub effects : IsSetting args current old e

-- the answer of `upgrade`
abbrev pub IsUpgradeReply : List Row → Run → Reply → Type 0
IsUpgradeReply rows run (reply.Usage text) = HaveUpgradeFault rows
IsUpgradeReply rows run (reply.Text text) = ⊥
IsUpgradeReply rows run (reply.Effects e) = HasUpgradeEffects rows run e

-- the answer of `looks`
abbrev pub IsLookupsReply : List Row → List ℕ → Option (List ℕ) → StoreView → Reply → Type 0
IsLookupsReply rows current home old (reply.Usage text) = HaveUpgradeFault rows
IsLookupsReply rows current home old (reply.Text text) =
    HasLookupsText rows current home old (string_bytes text)
IsLookupsReply rows current home old (reply.Effects e) = ⊥

-- the answer of `set-version`
abbrev pub IsVersionReply : List Row → List ℕ → StoreView → Reply → Type 0
IsVersionReply rows current old (reply.Usage text) = HaveVersionFault rows
IsVersionReply rows current old (reply.Text text) = ⊥
IsVersionReply rows current old (reply.Effects e) = HasVersionEffects rows current old e

-- the answer of a subcommand
abbrev pub IsReplyBy : Text → List Row → Run → Reply → Type 0
IsReplyBy name rows run (reply.Usage text) = HasSubcommandUsageError name rows
IsReplyBy name rows run (reply.Text text) =
    (name ≡ codes "looks") × HasLookupsText rows run.current run.home run.old (string_bytes text)
IsReplyBy name rows run (reply.Effects e) =
    ((name ≡ codes "upgrade") × HasUpgradeEffects rows run e)
    ⊎ ((name ≡ codes "set-version") × HasVersionEffects rows run.current run.old e)

-- the answer to arguments: a usage error, the help or the version, or what the subcommand answers
abbrev pub IsReplyTo : List Text → Run → Reply → Type 0
IsReplyTo args run (reply.Usage text) = HasUsageError args
IsReplyTo args run (reply.Text text) =
    IsAnswered args 0 ⊎ IsParsedTo args (λ name rows. IsReplyBy name rows run (reply.Text text))
IsReplyTo args run (reply.Effects e) =
    IsParsedTo args (λ name rows. IsReplyBy name rows run (reply.Effects e))
