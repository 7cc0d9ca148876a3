-- The rows of the plan that is carried out are in order, and its outputs go to paths of their own.
use Rattle.std.proofs.Common.{◌≡◌, ◌∙◌, ◌<◌, ◌≤◌, ◌∷◌, [], ℕ, Bool, List, None, Option, Some, ap, arith, false, get_or, length, map, refl, string_bytes, subst, suc, sym, true}
use Rattle.std.specs.Prelude.{◌&&◌, ◌==◌, if◌then◌else◌, is_some, not}
use Rattle.std.specs.Global.{Vec}
use Rattle.std.specs.List.Sorted.{IsNonDecreasingBy}
use Rattle.std.specs.Str.{bytes_eq}
use Rattle.std.proofs.lemmas.List.{get_or-map, length-map}
use Rattle.edit_choice.specs.ChosenRows.{AreChosenFrom, IsTaken}
use Rattle.edit_choice.specs.Choices.{is_chosen}
use Rattle.edit_choice.specs.declared.items.RowChoice.{RowChoice}
use Rattle.edit_metadata.specs.Inputs.{HaveOwnPaths}
use Rattle.edit_metadata.specs.declared.input.Input.{Input}
use Rattle.edit_report.specs.Applied.{HaveDistinctPaths}
use Rattle.edit_report.specs.declared.output.Output.{Output}
use Rattle.edit_report.specs.declared.row.Row.{Row}
use Rattle.edit_sources.specs.declared.config.Config.{Config}
use Rattle.edit_steps.proofs.DistinctPaths.{outputs_differ}
use Rattle.edit_unify.specs.Stands.{Required, stands_of}
use Rattle.edit_unify.specs.Unified.{AreEach, IsRowWith, IsUnified}
use Rattle.edit_upgrade.proofs.RevisedOutputs.{outputs_in_order}
use Rattle.edit_upgrade.specs.OptionLevels.{level_in}
use Rattle.edit_upgrade.specs.Drafts.{outputs_on}
use Rattle.edit_upgrade.specs.Inputs.{OutputsInOrder, RowsInOrder}
use Rattle.edit_upgrade.specs.Revisions.{HasRevisedOutputs}
use Rattle.edit_upgrade.specs.declared.upgrade.UpgradePlan.{UpgradePlan}
use Rattle.edit_version.specs.Levels.{CrateBounds}
use Rattle.edit_program.specs.Choosing.{IsChosenOrSame}
use Rattle.edit_program.specs.Revising.{IsRevised}
use Rattle.edit_program.specs.Tables.{AreInOrder}
use Rattle.edit_program.specs.Unifying.{IsUnifiedOrSame}
use Rattle.edit_program.specs.declared.upgrade_run.upgrade_args.UpgradeArgs.{UpgradeArgs}
use Rattle.edit_program.proofs.OrderLemmas.{rows_in_order}

-- ---- rows

-- items with the numbers of items that are in order are in order
same_order : {A : Type 0} (number : A → ℕ) (xs ys : List A) → map number ys ≡ map number xs
    → IsNonDecreasingBy number xs → IsNonDecreasingBy number ys
same_order number xs ys same sorted i j d before within =
    let long : length ys ≡ length xs = sym (length-map ys number) ∙ ap length same ∙ length-map xs number in
    let at : (k : ℕ) → k < length ys → number (get_or xs k d) ≡ number (get_or ys k d)
    = λ k low. sym (get_or-map number xs k d (number d) (omega (arith, low, long)))
    ∙ ap (λ (ns : List ℕ). get_or ns k (number d)) (sym same)
    ∙ get_or-map number ys k d (number d) low in
    subst (λ (n : ℕ). n ≤ number (get_or ys j d)) (at i (omega (arith, before, within)))
    (subst (λ (n : ℕ). number (get_or xs i d) ≤ n) (at j within)
    (sorted i j d before (omega (arith, within, long))))

-- the inputs of rows
abbrev inputs_of : List Row → List ℕ
inputs_of rows = map (λ (row : Row). row.input) rows

-- a row that takes a text is one of the same input
text_input : (kept : Bool) (text : List ℕ) (row after : Row) → IsRowWith kept text row after
    → after.input ≡ row.input
text_input true text row after same = ap (λ (r : Row). r.input) same
text_input false text row after takes = takes.input

-- as is one that is unified
unified_input : (level : CrateBounds) (stands : List (Option Required)) (own : Option Required)
    (row after : Row) → IsUnified level stands own row after → after.input ≡ row.input
unified_input level stands None row after same = ap (λ (r : Row). r.input) same
unified_input level stands (Some own) row after unified =
    text_input (bytes_eq unified.0 own.text) unified.0 row after unified.2

each_input : (level : CrateBounds) (stands owns : List (Option Required)) (rows after : List Row)
    → AreEach level stands owns rows after → inputs_of after ≡ inputs_of rows
each_input level stands [] [] [] each = refl
each_input level stands [] [] (a ∷ after) each = absurd each
each_input level stands [] (row ∷ rows) [] each = absurd each
each_input level stands [] (row ∷ rows) (a ∷ after) each = absurd each
each_input level stands (own ∷ owns) [] [] each = absurd each
each_input level stands (own ∷ owns) [] (a ∷ after) each = absurd each
each_input level stands (own ∷ owns) (row ∷ rows) [] each = absurd each
each_input level stands (own ∷ owns) (row ∷ rows) (a ∷ after) each =
    ap (λ (i : ℕ). i ∷ inputs_of after) (unified_input level stands own row a each.0)
    ∙ ap (λ (is : List ℕ). row.input ∷ is) (each_input level stands owns rows after each.1)

unified_inputs : (due : Bool) (level : CrateBounds) (inputs : List Input) (configs : List (Vec Config))
    (single p : UpgradePlan) (addresses : List (Option (List ℕ)))
    → IsUnifiedOrSame due level inputs configs single p addresses
    → inputs_of p.rows.items ≡ inputs_of single.rows.items
unified_inputs true level inputs configs single p addresses unified =
    let stands = stands_of addresses single.rows.items in
    each_input level stands stands single.rows.items p.rows.items unified.rows
unified_inputs false level inputs configs single p addresses same =
    ap (λ (plan : UpgradePlan). inputs_of plan.rows.items) same.0

-- and so is one whose change is taken back
taken_input : (taken : Bool) (row after : Row) → IsTaken taken row after → after.input ≡ row.input
taken_input true row after unchanged = unchanged.input
taken_input false row after same = ap (λ (r : Row). r.input) same

from_input : (choice : RowChoice) (n : ℕ) (rows after : List Row) → AreChosenFrom choice n rows after
    → inputs_of after ≡ inputs_of rows
from_input choice n [] [] chosen = refl
from_input choice n [] (a ∷ after) chosen = absurd chosen
from_input choice n (row ∷ rows) [] chosen = absurd chosen
from_input choice n (row ∷ rows) (a ∷ after) chosen =
    ap (λ (i : ℕ). i ∷ inputs_of after)
    (taken_input (is_some row.change && not (is_chosen choice (suc n) (string_bytes row.name))) row a
    chosen.0)
    ∙ ap (λ (is : List ℕ). row.input ∷ is)
    (from_input choice (if is_some row.change then suc n else n) rows after chosen.1)

chosen_inputs : (choice : Option RowChoice) (inputs : List Input) (whole p : UpgradePlan)
    → IsChosenOrSame choice inputs whole p → inputs_of p.rows.items ≡ inputs_of whole.rows.items
chosen_inputs (Some choice) inputs whole p chosen =
    from_input choice 0 whole.rows.items p.rows.items chosen.rows
chosen_inputs None inputs whole p same = ap (λ (plan : UpgradePlan). inputs_of plan.rows.items) same

-- the rows of the plan that is carried out are in order
pub revised_rows : (args : UpgradeArgs) (inputs : List Input) (configs : List (Vec Config))
    (single p : UpgradePlan) (apart : List (List ℕ)) → RowsInOrder inputs single
    → IsRevised args inputs configs single p apart → AreInOrder p.rows.items
revised_rows args inputs configs single p apart turns revised =
    same_order (λ (row : Row). row.input) single.rows.items p.rows.items
    (chosen_inputs args.rows inputs revised.unified p revised.chosen
    ∙ unified_inputs args.unify (level_in args.options) inputs configs single revised.unified revised.addresses
    revised.unifies)
    (rows_in_order inputs single turns)

-- ---- outputs

-- outputs that are made again from rows go to paths of their own
made_apart : (inputs : List Input) (rows : List Row) (outputs : List Output) → HaveOwnPaths inputs
    → HasRevisedOutputs inputs rows outputs → HaveDistinctPaths outputs
made_apart inputs rows outputs own made =
    outputs_differ (λ path. not (length (outputs_on path outputs) == 0)) inputs outputs own
    (outputs_in_order inputs rows outputs own made)

unified_outputs : (due : Bool) (level : CrateBounds) (inputs : List Input) (configs : List (Vec Config))
    (single p : UpgradePlan) (addresses : List (Option (List ℕ))) → HaveOwnPaths inputs
    → OutputsInOrder inputs single → IsUnifiedOrSame due level inputs configs single p addresses
    → HaveDistinctPaths p.outputs.items
unified_outputs true level inputs configs single p addresses own turns unified =
    made_apart inputs p.rows.items p.outputs.items own unified.outputs
unified_outputs false level inputs configs single p addresses own turns same =
    subst (λ (plan : UpgradePlan). HaveDistinctPaths plan.outputs.items) (sym same.0)
    (outputs_differ (λ path. not (length (outputs_on path single.outputs.items) == 0)) inputs
    single.outputs.items own turns)

chosen_outputs : (choice : Option RowChoice) (inputs : List Input) (whole p : UpgradePlan)
    → HaveOwnPaths inputs → HaveDistinctPaths whole.outputs.items → IsChosenOrSame choice inputs whole p
    → HaveDistinctPaths p.outputs.items
chosen_outputs (Some choice) inputs whole p own distinct chosen =
    made_apart inputs p.rows.items p.outputs.items own chosen.outputs
chosen_outputs None inputs whole p own distinct same =
    subst (λ (plan : UpgradePlan). HaveDistinctPaths plan.outputs.items) (sym same) distinct

-- the outputs of the plan that is carried out go to paths of their own
pub revised_outputs : (args : UpgradeArgs) (inputs : List Input) (configs : List (Vec Config))
    (single p : UpgradePlan) (apart : List (List ℕ)) → HaveOwnPaths inputs → OutputsInOrder inputs single
    → IsRevised args inputs configs single p apart → HaveDistinctPaths p.outputs.items
revised_outputs args inputs configs single p apart own turns revised =
    chosen_outputs args.rows inputs revised.unified p own
    (unified_outputs args.unify (level_in args.options) inputs configs single revised.unified revised.addresses own
    turns revised.unifies)
    revised.chosen
