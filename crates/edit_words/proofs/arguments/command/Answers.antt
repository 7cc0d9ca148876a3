use Rattle.std.proofs.Common.{rules, ap, ap₂, codes, [], ◌≡◌, ◌∙◌}
use Rattle.std.proofs.lemmas.Result.{IfOk-weaker}
use Rattle.clap.specs.Words.{App, app_of, is_simple, is_simple_and_free, with_subcommand}
use Rattle.edit_words.specs.CommandLine.{edit_app, top_shape, upgrade_app}
use Rattle.edit_words.proofs.CommandLemmas.{edit_app_is_free, edit_app_is_simple}
use Rattle.edit_words.proofs.arguments.command.Goals as goal

pub returns-clause-app : goal.returns-clause-app
unfolding edit_app
returns-clause-app c =
    let top : App = record { top = top_shape; subs = [] } in
    let top_is : app_of c.subcommand_required.result ≡ top = search rules in
    let one : app_of c.in_ok-subcommand.field-0 ≡ with_subcommand top (upgrade_app (codes "upgrade")).top
    = c.in_ok-subcommand.ensures.shape c.in_ok-upgrade_command.ensures.1
    ∙ ap₂ with_subcommand top_is (ap (λ (a : App). a.top) c.in_ok-upgrade_command.ensures.0) in
    let two : app_of c.in_ok-subcommand-2.field-0
    ≡ with_subcommand (with_subcommand top (upgrade_app (codes "upgrade")).top)
    (upgrade_app (codes "looks")).top =
    c.in_ok-subcommand-2.ensures.shape c.in_ok-upgrade_command-2.ensures.1
    ∙ ap₂ with_subcommand one (ap (λ (a : App). a.top) c.in_ok-upgrade_command-2.ensures.0) in
    IfOk-weaker c.subcommand-3.result _ _ (λ r h. h.shape c.in_ok-set_version_command.ensures.1
    ∙ ap₂ with_subcommand two (ap (λ (a : App). a.top) c.in_ok-set_version_command.ensures.0))
    c.subcommand-3.ensures

pub returns-clause-simple : goal.returns-clause-simple
returns-clause-simple c = IfOk-weaker c.subcommand-3.result _ _
    (λ (r : _) (h : app_of r ≡ edit_app). ap is_simple h ∙ edit_app_is_simple) (returns-clause-app c)

pub returns-clause-free : goal.returns-clause-free
returns-clause-free c = IfOk-weaker c.subcommand-3.result _ _
    (λ (r : _) (h : app_of r ≡ edit_app). ap is_simple_and_free h ∙ edit_app_is_free) (returns-clause-app c)
