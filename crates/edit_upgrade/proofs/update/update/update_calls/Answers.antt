use Rattle.std.proofs.Common.{◌≡◌, ◌∙◌, [], List, ap, cond, rules, string_bytes, sym, true}
use Rattle.std.specs.Prelude.{Bool, codes}
use Rattle.edit_base.specs.Paths.{joined}
use Rattle.edit_metadata.specs.Workspaces.{packages_view}
use Rattle.edit_metadata.specs.declared.workspace.Package.{Package}
use Rattle.edit_upgrade.specs.ParsedOptions.{call_options, is_due}
use Rattle.edit_upgrade.specs.UpdateCalls.{calls_for}
use Rattle.edit_upgrade.proofs.update.update.update_calls.Goals as goal

pub returns-clause-calls : goal.returns-clause-calls
returns-clause-calls c =
    let due_options = call_options c.args.plan.now c.args.options.now in
    let due : is_due due_options ≡ true = search rules in
    let manifest = c.as_str-2.ensures.value ∙ c.in_ok-manifest.ensures.text
    ∙ ap (λ root. joined root (codes "Cargo.toml")) c.as_str.ensures.value in
    let packages = packages_view c.args.workspace.now.packages.items in
    let path = joined (string_bytes c.args.workspace.now.root) (codes "Cargo.toml") in
    c.in_ok-calls.ensures
    ∙ ap (λ (ps : List Package). calls_for c.as_str-2.result.now due_options (packages_view ps))
    c.deref-2.ensures.value
    ∙ ap (λ m. calls_for m due_options packages) manifest
    ∙ sym (ap (λ (b : Bool). cond b (calls_for path due_options packages) []) due)
