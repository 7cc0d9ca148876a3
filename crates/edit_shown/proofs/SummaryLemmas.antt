-- The members of the summary, from the calls' texts.
use Rattle.std.proofs.Common.{◌≡◌, ◌∙◌, List, [], ◌∷◌, ap, map, refl}
use Rattle.std.specs.Prelude.{String, Vec, codes, string_bytes}
use Rattle.std.specs.declared.alloc.Global.{Global}
use Rattle.serde_json.specs.Data.{array, boolean, string}
use Rattle.serde_json.specs.View.{items_of}
use Rattle.edit_upgrade.specs.declared.decision.options.Options.{Options}
use Rattle.edit_shown.specs.Fields.{list_data, text_data}
use Rattle.edit_shown.specs.JsonMessages as json_messages
use Rattle.edit_shown.specs.declared.json.messages.Summary.{Summary}
use Rattle.edit_upgrade.specs.declared.upgrade.UpgradePlan.{UpgradePlan}
use Rattle.edit_shown.specs.Messages.{call_texts, summary_members}

-- the arguments of a call
args_data : (args : List (String Global)) → map text_data args ≡ map string (map string_bytes args)
args_data [] = refl
args_data (arg ∷ args) = ap (λ ds. text_data arg ∷ ds) (args_data args)

-- calls, each as a list of its arguments
calls_data : (calls : List (Vec (String Global) Global))
    → map (λ l. list_data text_data l.items) calls ≡ map (λ call. list_data string call) (call_texts calls)
calls_data [] = refl
calls_data (call ∷ calls) = λ k. array (items_of (args_data call.items k)) ∷ calls_data calls k

-- what is said last has what the plan and the options have
pub summary_is : (s : Summary) (plan : UpgradePlan) (o : Options) (calls : List (Vec (String Global) Global))
    → s.dry_run ≡ o.dry_run → s.modified.now ≡ plan.modified.items
    → s.git_crates.now ≡ plan.git_crates.items → s.missing.now ≡ plan.missing.items
    → s.pinned_present ≡ plan.pinned_present → s.incompatible_present ≡ plan.incompatible_present
    → s.update_calls.now ≡ calls
    → json_messages.summary_members s ≡ summary_members plan o (call_texts calls)
summary_is s plan o calls dry modified git missing pinned incompatible update =
    let lists = ap (λ cs. map (λ l. list_data text_data l.items) cs) update ∙ calls_data calls in
    λ k. (codes "reason", string (codes "upgrade-summary"))
    ∷ (codes "dry_run", boolean (dry k))
    ∷ (codes "modified", list_data text_data (modified k))
    ∷ (codes "git_crates", list_data text_data (git k))
    ∷ (codes "missing", list_data text_data (missing k))
    ∷ (codes "pinned_present", boolean (pinned k))
    ∷ (codes "incompatible_present", boolean (incompatible k))
    ∷ (codes "update_calls", array (items_of (lists k)))
    ∷ []
