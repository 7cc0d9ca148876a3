-- Words of command lines as the code lists them, and the rules of what they become.
use Rattle.std.specs.Prelude.{◌≡◌, List, [], ◌∷◌, Option, Some, None, false}
use Rattle.std.specs.Borrow.{Bor}
use Rattle.clap.specs.Words.{App, Rule, Text, app_of, new_rule}
use Rattle.clap.specs.declared.builder.action.ArgAction.TheVariants.{Count, Set}
use Rattle.clap.specs.declared.builder.command.Command.{Command}
use Rattle.clap.specs.declared.builder.command.Command.TheViews.{out-Command}
use Rattle.clap.specs.declared.builder.value_parser.ValueParser.TheVariants as value
use Rattle.edit_words.specs.Rules.{choice_rule, flag_rule, list_rule, option_rule, path_rule}
use Rattle.edit_words.specs.declared.rules.Form.{Form}
use Rattle.edit_words.specs.declared.rules.Form.TheVariants as form
use Rattle.edit_words.specs.declared.rules.ArgSpec.{ArgSpec}

-- what stands alone, with one value
abbrev pub positional_rule : Text → Rule
positional_rule id =
    record (new_rule id) { action = Some Set; value_names = 1; parser = Some value.String }

-- the rule of an argument with neither a letter nor a default
abbrev pub form_rule : Form → Text → Rule
form_rule (form.Alone _) id = positional_rule id
form_rule (form.Path _) id = path_rule id
form_rule (form.Needed _) id = option_rule id
form_rule (form.Choice _) id = choice_rule id
form_rule (form.Truth _) id = record (choice_rule id) { parser = Some value.Bool }
form_rule (form.List _) id = list_rule id
form_rule form.Flag id = flag_rule id
form_rule form.Counted id = record (flag_rule id) { action = Some Count }

-- the value of an option that is not given, as a list
abbrev pub default_list : Option (Bor Text) → List Text
default_list (Some value) = value.now ∷ []
default_list None = []

-- the rule of an argument
abbrev pub arg_rule : ArgSpec → Rule
arg_rule arg_spec =
    record (form_rule arg_spec.form arg_spec.id.now) {
      short = arg_spec.letter;
      defaults = default_list arg_spec.default;
    }

-- the command is this one, and none of its arguments is global
abbrev pub IsLocal : App → Command → Type 0
IsLocal app command = (app_of command ≡ app) × ((out-Command command).has_globals ≡ false)
