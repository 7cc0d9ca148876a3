-- The rules of arguments, and commands to which arguments are added.
use Rattle.std.proofs.Common.{◌≡◌, ◌∙◌, ◌<◌, ◌≤◌, ◌+◌, ◌||◌, ◌∷◌}
use Rattle.std.proofs.Common.{IfOk, List, None, Some, [], add-one, ap, ap₂, drop, drop_of_length-le, false}
use Rattle.std.proofs.Common.{length, map, refl, subst, sym, ℕ}
use Rattle.std.proofs.Math.Seq.{drop-cons}
use Rattle.std.specs.List.{slice_index_or}
use Rattle.std.specs.Prelude.{Result}
use Rattle.clap.specs.Words.{AddsArg, App, Rule, Text, app_of, rule_of, with_rule}
use Rattle.clap.specs.declared.builder.arg.Arg.{Arg}
use Rattle.clap.specs.declared.builder.command.Command.{Command}
use Rattle.clap.specs.declared.builder.command.Command.TheViews.{out-Command}
use Rattle.edit_words.specs.declared.rules.Form.{Form}
use Rattle.edit_words.specs.declared.rules.Form.TheVariants as form
use Rattle.edit_words.specs.declared.rules.ArgSpec.{ArgSpec}
use Rattle.edit_words.specs.Rules.{with_rules}
use Rattle.edit_words.specs.Tables.{IsLocal, default_list, form_rule, arg_rule}

-- no form has a letter or a default
plain_rule : (f : Form) (id : Text) → form_rule f id ≡ record (form_rule f id) { short = None; defaults = [] }
plain_rule (form.Alone _) id = refl
plain_rule (form.Path _) id = refl
plain_rule (form.Needed _) id = refl
plain_rule (form.Choice _) id = refl
plain_rule (form.Truth _) id = refl
plain_rule (form.List _) id = refl
plain_rule form.Flag id = refl
plain_rule form.Counted id = refl

-- a word with neither
pub plain_arg : (arg_spec : ArgSpec) (r : Rule) → r ≡ form_rule arg_spec.form arg_spec.id.now → arg_spec.letter ≡ None
    → arg_spec.default ≡ None → r ≡ arg_rule arg_spec
plain_arg arg_spec r rule letter default = rule ∙ (plain_rule arg_spec.form arg_spec.id.now
    ∙ ap₂ (λ l d. record (form_rule arg_spec.form arg_spec.id.now) { short = l; defaults = default_list d })
    (sym letter) (sym default))

-- a word with a letter alone
pub lettered_arg : (arg_spec : ArgSpec) (r : Rule) (l : ℕ) → r ≡ form_rule arg_spec.form arg_spec.id.now
    → arg_spec.letter ≡ Some l → arg_spec.default ≡ None → record r { short = Some l } ≡ arg_rule arg_spec
lettered_arg arg_spec r l rule letter default =
    ap (λ (r : Rule). record r { short = Some l }) (rule ∙ plain_rule arg_spec.form arg_spec.id.now)
    ∙ ap₂ (λ l d. record (form_rule arg_spec.form arg_spec.id.now) { short = l; defaults = default_list d })
    (sym letter) (sym default)

-- a command gets one more word
pub next_arg : (old new : Command) (arg : Arg) (arg_specs : List ArgSpec) (i : ℕ) (d : ArgSpec) (all : App)
    → AddsArg old arg new → rule_of arg ≡ arg_rule (slice_index_or arg_specs i d) → arg.global ≡ false
    → i < length arg_specs
    → (with_rules (app_of old) (map arg_rule (drop i arg_specs)) ≡ all) × ((out-Command old).has_globals ≡ false)
    → (with_rules (app_of new) (map arg_rule (drop (i + 1) arg_specs)) ≡ all)
    × ((out-Command new).has_globals ≡ false)
next_arg old new arg arg_specs i d all adds rule local lt is =
    let rest = map arg_rule (drop (i + 1) arg_specs) in
    let cut : drop i arg_specs ≡ slice_index_or arg_specs i d ∷ drop (i + 1) arg_specs =
    rw (add-one, drop-cons arg_specs i d) refl in (
      ap (λ (a : App). with_rules a rest) (adds.shape local ∙ ap (with_rule (app_of old)) rule)
          ∙ (ap (λ ws. with_rules (app_of old) (map arg_rule ws)) (sym cut) ∙ is.0),
      adds.globals ∙ ap₂ (λ x y. x || y) is.1 local,
    )

-- behind the last word
pub no_arg_left : (command : Command) (arg_specs : List ArgSpec) (i : ℕ) (all : App) → length arg_specs ≤ i
    → (with_rules (app_of command) (map arg_rule (drop i arg_specs)) ≡ all)
    × ((out-Command command).has_globals ≡ false)
    → (app_of command ≡ all) × ((out-Command command).has_globals ≡ false)
no_arg_left command arg_specs i all le is = (
  ap (λ ws. with_rules (app_of command) (map arg_rule ws)) (sym (drop_of_length-le arg_specs le))
      ∙ is.0,
  is.1,
)

-- a command gets words of which the rules are known
pub args_added : {E : Type 0} (old new : Result Command E) (arg_specs : List ArgSpec) (rules : List Rule)
    (app : App)
    → ((a : App) → IfOk old (IsLocal a) → IfOk new (IsLocal (with_rules a (map arg_rule arg_specs))))
    → map arg_rule arg_specs ≡ rules → IfOk old (IsLocal app) → IfOk new (IsLocal (with_rules app rules))
args_added old new arg_specs rules app adds e is =
    subst (λ (rs : List Rule). IfOk new (IsLocal (with_rules app rs))) e (adds app is)
