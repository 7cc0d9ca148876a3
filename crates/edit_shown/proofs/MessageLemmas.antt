-- The messages of an upgrade, one kind after the other.
use Rattle.std.proofs.Common.{◌≡◌, ◌∙◌, ℕ, ◌<◌, ◌+◌, List, [], ◌++◌, ap, append_assoc, get_or, length, sym, take}
use Rattle.std.specs.List.{flat_map}
use Rattle.std.proofs.lemmas.List.{flat_map_more, take_more}
use Rattle.edit_upgrade.specs.declared.decision.options.Options.{Options}
use Rattle.edit_metadata.specs.declared.input.Input.{Input}
use Rattle.edit_report.specs.declared.output.Output.{Output}
use Rattle.edit_report.specs.declared.row.Row.{Row}
use Rattle.edit_upgrade.specs.declared.upgrade.UpgradePlan.{UpgradePlan}
use Rattle.edit_upgrade.specs.declared.upgrade.Warning.{Warning}
use Rattle.edit_shown.specs.HeldBack.{held_back}
use Rattle.edit_shown.specs.Messages.{file_message, held_back_message, messages, row_message, summary_message, warning_message}

-- a text that has those of so many entries has those of one more
pub texts_more : {A : Type 0} (show : A → List ℕ) (xs : List A) (i : ℕ) (x : A) (a b c : List ℕ)
    → i < length xs → x ≡ get_or xs i x → b ≡ a ++ flat_map show (take i xs) → c ≡ b ++ show x
    → c ≡ a ++ flat_map show (take (i + 1) xs)
texts_more show xs i x a b c within is before one =
    one ∙ ap (λ t. t ++ show x) before ∙ append_assoc a (flat_map show (take i xs)) (show x)
    ∙ ap (λ t. a ++ t)
    (ap (λ y. flat_map show (take i xs) ++ show y) is
    ∙ flat_map_more show [] (take i xs) (get_or xs i x)
    ∙ sym (ap (flat_map show) (take_more xs i x within)))

-- five parts, appended one after the other
five : (a b c d e v w x y z : List ℕ) → v ≡ a → w ≡ v ++ b → x ≡ w ++ c → y ≡ x ++ d → z ≡ y ++ e
    → z ≡ a ++ (b ++ (c ++ (d ++ e)))
five a b c d e v w x y z first second third fourth fifth =
    fifth ∙ ap (λ t. t ++ e) (fourth ∙ ap (λ t. t ++ d) (third ∙ ap (λ t. t ++ c)
    (second ∙ ap (λ t. t ++ b) first)))
    ∙ append_assoc ((a ++ b) ++ c) d e ∙ append_assoc (a ++ b) c (d ++ e)
    ∙ append_assoc a b (c ++ (d ++ e))

-- an upgrade, from its parts
pub messages_all : (plan : UpgradePlan) (inputs : List Input) (o : Options) (calls : List (List (List ℕ)))
    (rows : List Row) (warnings : List Warning) (outputs : List Output) (v w x y z : List ℕ)
    → rows ≡ plan.rows.items → warnings ≡ plan.warnings.items → outputs ≡ plan.outputs.items
    → v ≡ flat_map (row_message inputs) rows → w ≡ v ++ flat_map (warning_message inputs) warnings
    → x ≡ w ++ flat_map (file_message o) outputs → y ≡ x ++ held_back_message (held_back plan o)
    → z ≡ y ++ summary_message plan o calls → z ≡ messages plan inputs o calls
messages_all plan inputs o calls rows warnings outputs v w x y z rs ws os first second third fourth fifth =
    five (flat_map (row_message inputs) plan.rows.items)
    (flat_map (warning_message inputs) plan.warnings.items)
    (flat_map (file_message o) plan.outputs.items) (held_back_message (held_back plan o))
    (summary_message plan o calls) v w x y z
    (first ∙ ap (flat_map (row_message inputs)) rs)
    (second ∙ ap (λ (xs : List Warning). v ++ flat_map (warning_message inputs) xs) ws)
    (third ∙ ap (λ (xs : List Output). w ++ flat_map (file_message o) xs) os) fourth fifth
