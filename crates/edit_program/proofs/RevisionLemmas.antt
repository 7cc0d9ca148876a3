-- The plan that is carried out, from the plan of each entry by itself.
use Rattle.std.proofs.Common.{◌≡◌, ◌∙◌, ℕ, Bool, List, [], ◌∷◌, Option, Some, None, ap, false, inl, inr, subst, sym, true}
use Rattle.std.specs.Prelude.{◌⊎◌}
use Rattle.std.specs.Str.{bytes_eq}
use Rattle.std.specs.Global.{Vec}
use Rattle.edit_base.specs.Errors.{IsMemory, number_of}
use Rattle.edit_base.specs.declared.errors.Error.{Error}
use Rattle.edit_base.specs.declared.errors.Error.TheVariants as error
use Rattle.edit_choice.specs.ChosenRows.{AreChosen, AreChosenFrom, IsTaken, missing_texts}
use Rattle.edit_choice.specs.declared.items.RowChoice.{RowChoice}
use Rattle.edit_metadata.specs.declared.input.Input.{Input}
use Rattle.edit_report.specs.declared.row.Row.{Row}
use Rattle.edit_sources.specs.declared.config.Config.{Config}
use Rattle.edit_steps.specs.Sources.{AreDocuments}
use Rattle.edit_tree.specs.DocumentViews.{DocumentViews}
use Rattle.edit_unify.specs.Stands.{Required}
use Rattle.edit_unify.specs.Unified.{AreEach, AreUnified, HasOneText, IsRowWith, IsUnified}
use Rattle.edit_upgrade.specs.OptionLevels.{level_in}
use Rattle.edit_upgrade.specs.ConfigLists.{chosen_lists}
use Rattle.edit_upgrade.specs.Lists.{HasRowLists}
use Rattle.edit_upgrade.specs.Revisions.{AreRowsOf, AreUtf8, HasRevisedOutputs, HasRowAddresses}
use Rattle.edit_upgrade.specs.declared.upgrade.UpgradePlan.{UpgradePlan}
use Rattle.edit_upgrade.proofs.RevisedRows.{HaveSameInputs, rows_same}
use Rattle.edit_version.specs.Levels.{CrateBounds}
use Rattle.edit_program.specs.Choosing.{AreRowsListedIn, HasMissingRow, IsChosenOrSame, IsChosenPlan}
use Rattle.edit_program.specs.Revising.{IsRevised, IsRevisionError}
use Rattle.edit_program.specs.Unifying.{IsUnifiedOrSame, IsUnifiedOver}
use Rattle.edit_program.specs.declared.upgrade_run.upgrade_args.UpgradeArgs.{UpgradeArgs}
use Rattle.edit_program.proofs.CountLemmas.{memory_counts}

-- the warnings of a unified plan
unified_warnings : (due : Bool) (level : CrateBounds) (inputs : List Input) (configs : List (Vec Config))
    (single p : UpgradePlan) (addresses : List (Option (List ℕ)))
    → IsUnifiedOrSame due level inputs configs single p addresses → p.warnings ≡ single.warnings
unified_warnings true level inputs configs single p addresses unified = unified.warnings
unified_warnings false level inputs configs single p addresses (same, none) =
    ap (λ (plan : UpgradePlan). plan.warnings) same

-- the warnings of a plan of chosen rows
chosen_warnings : (choice : Option RowChoice) (inputs : List Input) (whole p : UpgradePlan)
    → IsChosenOrSame choice inputs whole p → p.warnings ≡ whole.warnings
chosen_warnings (Some choice) inputs whole p chosen = chosen.warnings
chosen_warnings None inputs whole p same = ap (λ (plan : UpgradePlan). plan.warnings) same

-- the warnings of the plan that is carried out
pub revised_warnings : (args : UpgradeArgs) (inputs : List Input) (configs : List (Vec Config))
    (single p : UpgradePlan) (apart : List (List ℕ)) → IsRevised args inputs configs single p apart
    → p.warnings ≡ single.warnings
revised_warnings args inputs configs single p apart revised =
    chosen_warnings args.rows inputs revised.unified p revised.chosen
    ∙ unified_warnings args.unify (level_in args.options) inputs configs single revised.unified revised.addresses
    revised.unifies

-- an error that lists rows is not the device's
listed_counts : {P : Type 0} (missing : List (List ℕ)) (e : Error) → AreRowsListedIn missing e
    → number_of e ≡ 3 → P
listed_counts missing (error.Device _) listed device = absurd listed
listed_counts missing other listed device = cc device

-- an error of a choice is not the device's
missing_counts : {P : Type 0} (choice : Option RowChoice) (rows : List Row) (e : Error)
    → HasMissingRow choice rows e → number_of e ≡ 3 → P
missing_counts (Some choice) rows e missing device = listed_counts _ e missing.1 device
missing_counts None rows e none device = absurd none

-- an error of the plan that is carried out is not the device's
pub revision_counts : {P : Type 0} (args : UpgradeArgs) (inputs : List Input) (configs : List (Vec Config))
    (single : UpgradePlan) (e : Error) → IsMemory e ⊎ IsRevisionError args inputs configs single e
    → number_of e ≡ 3 → P
revision_counts args inputs configs single e (inl memory) device = memory_counts e memory device
revision_counts args inputs configs single e (inr wrong) device =
    missing_counts args.rows wrong.unified.rows.items e wrong.missing device

-- ---- the rows of a revised plan are of the same inputs

taken_input : (b : Bool) (row a : Row) → IsTaken b row a → a.input ≡ row.input
taken_input true row a taken = taken.input
taken_input false row a taken = ap (λ (r : Row). r.input) taken

chosen_inputs : (choice : RowChoice) (n : ℕ) (rows after : List Row) → AreChosenFrom choice n rows after
    → HaveSameInputs rows after
chosen_inputs choice n [] [] are = tt
chosen_inputs choice n [] (a ∷ after) are = absurd are
chosen_inputs choice n (row ∷ rows) [] are = absurd are
chosen_inputs choice n (row ∷ rows) (a ∷ after) are =
    (taken_input _ row a are.0, chosen_inputs choice _ rows after are.1)

-- rows of which the chosen ones change
pub chosen_rows_of : (choice : RowChoice) (inputs : List Input) (rows after : List Row)
    → AreChosen choice rows after → AreRowsOf inputs rows → AreRowsOf inputs after
chosen_rows_of choice inputs rows after chosen are =
    rows_same 0 inputs rows after (chosen_inputs choice 0 rows after chosen) are

with_input : (b : Bool) (text : List ℕ) (row a : Row) → IsRowWith b text row a → a.input ≡ row.input
with_input true text row a same = ap (λ (r : Row). r.input) same
with_input false text row a with = with.input

unified_input : (level : CrateBounds) (stands : List (Option Required)) (own : Option Required) (row a : Row)
    → IsUnified level stands own row a → a.input ≡ row.input
unified_input level stands None row a same = ap (λ (r : Row). r.input) same
unified_input level stands (Some own) row a unified =
    with_input (bytes_eq unified.0 own.text) unified.0 row a unified.2

unified_inputs : (level : CrateBounds) (stands owns : List (Option Required)) (rows after : List Row)
    → AreEach level stands owns rows after → HaveSameInputs rows after
unified_inputs level stands [] [] [] are = tt
unified_inputs level stands [] [] (a ∷ after) are = absurd are
unified_inputs level stands [] (row ∷ rows) [] are = absurd are
unified_inputs level stands [] (row ∷ rows) (a ∷ after) are = absurd are
unified_inputs level stands (own ∷ owns) [] [] are = absurd are
unified_inputs level stands (own ∷ owns) [] (a ∷ after) are = absurd are
unified_inputs level stands (own ∷ owns) (row ∷ rows) [] are = absurd are
unified_inputs level stands (own ∷ owns) (row ∷ rows) (a ∷ after) are =
    (unified_input level stands own row a are.0, unified_inputs level stands owns rows after are.1)

-- rows that are unified
pub unified_rows_of : (level : CrateBounds) (addresses : List (Option (List ℕ))) (inputs : List Input)
    (rows after : List Row) → AreUnified level addresses rows after → AreRowsOf inputs rows
    → AreRowsOf inputs after
unified_rows_of level addresses inputs rows after unified are =
    rows_same 0 inputs rows after (unified_inputs level _ _ rows after unified) are

-- the rows of a plan that is unified where that is requested
pub plan_rows_of : (due : Bool) (level : CrateBounds) (inputs : List Input) (configs : List (Vec Config))
    (single p : UpgradePlan) (addresses : List (Option (List ℕ)))
    → IsUnifiedOrSame due level inputs configs single p addresses → AreRowsOf inputs single.rows.items
    → AreRowsOf inputs p.rows.items
plan_rows_of true level inputs configs single p addresses unified are =
    unified_rows_of level addresses inputs single.rows.items p.rows.items unified.rows are
plan_rows_of false level inputs configs single p addresses same are =
    subst (λ (plan : UpgradePlan). AreRowsOf inputs plan.rows.items) (sym same.0) are

-- ---- the facts of a revision, over the slices that it was made from

-- documents of inputs, as the slices of both have them
pub documents_of : (all : List DocumentViews) (inputs : List Input) (docs : List DocumentViews) (is : List Input)
    → docs ≡ all → is ≡ inputs → AreDocuments all inputs → AreDocuments docs is
documents_of all inputs docs is one two h =
    subst (AreDocuments docs) (sym two) (subst (λ (ds : List DocumentViews). AreDocuments ds inputs) (sym one) h)

-- inputs that are UTF-8 where they have no documents, as the slices of both have them
pub utf8_of : (all : List DocumentViews) (inputs : List Input) (docs : List DocumentViews) (is : List Input)
    → docs ≡ all → is ≡ inputs → AreUtf8 inputs all → AreUtf8 is docs
utf8_of all inputs docs is one two h =
    subst (λ (xs : List Input). AreUtf8 xs docs) (sym two)
    (subst (λ (ds : List DocumentViews). AreUtf8 inputs ds) (sym one) h)

-- something of inputs and their lists, and of the slices of both
pub over_slices : (P : List Input → List (Vec Config) → Type 0) (inputs is : List Input)
    (lists ls : List (Vec Config)) (which js : List ℕ) → is ≡ inputs → ls ≡ lists → js ≡ which
    → P inputs (chosen_lists lists which) → P is (chosen_lists ls js)
over_slices P inputs is lists ls which js one two three h =
    subst (λ (xs : List Input). P xs (chosen_lists ls js)) (sym one)
    (subst (λ (cs : List (Vec Config)). P inputs (chosen_lists cs js)) (sym two)
    (subst (λ (ns : List ℕ). P inputs (chosen_lists lists ns)) (sym three) h))

-- a unified plan, from what the rows, the addresses and the outputs are
pub unified_over : (level : CrateBounds) (inputs again : List Input) (configs : List (Vec Config))
    (single p : UpgradePlan) (rows : List Row) (addresses shown : List (Option (List ℕ))) → again ≡ inputs
    → shown ≡ addresses → HasRowAddresses inputs configs addresses
    → AreUnified level shown single.rows.items rows → HasOneText level shown rows → p.rows.items ≡ rows
    → HasRevisedOutputs again rows p.outputs.items → HasRowLists p
    → (p.looks ≡ single.looks) × (p.warnings ≡ single.warnings) × (p.missing ≡ single.missing)
    → IsUnifiedOver level inputs configs single p addresses
unified_over level inputs again configs single p rows addresses shown same shown_is are unified one rows_are
    outputs lists others = record {
      are = are;
      rows = subst (λ (rs : List Row). AreUnified level addresses single.rows.items rs) (sym rows_are)
          (subst (λ (known : List (Option (List ℕ))). AreUnified level known single.rows.items rows) shown_is unified);
      one = subst (λ (rs : List Row). HasOneText level addresses rs) (sym rows_are)
          (subst (λ (known : List (Option (List ℕ))). HasOneText level known rows) shown_is one);
      outputs = subst (λ (rs : List Row). HasRevisedOutputs inputs rs p.outputs.items) (sym rows_are)
          (subst (λ (xs : List Input). HasRevisedOutputs xs rows p.outputs.items) same outputs);
      lists = lists;
      looks = others.0;
      warnings = others.1;
      missing = others.2;
    }

-- a plan of chosen rows, from what the rows and the outputs are
pub chosen_over : (choice : RowChoice) (inputs again : List Input) (whole p : UpgradePlan) (shown rows : List Row)
    → again ≡ inputs → shown ≡ whole.rows.items → missing_texts choice shown ≡ []
    → AreChosen choice whole.rows.items rows → p.rows.items ≡ rows
    → HasRevisedOutputs again rows p.outputs.items → HasRowLists p
    → (p.looks ≡ whole.looks) × (p.warnings ≡ whole.warnings) × (p.missing ≡ whole.missing)
    → IsChosenPlan choice inputs whole p
chosen_over choice inputs again whole p shown rows same shown_is there chosen rows_are outputs lists others = record {
  there = ap (missing_texts choice) (sym shown_is) ∙ there;
  rows = subst (λ (rs : List Row). AreChosen choice whole.rows.items rs) (sym rows_are) chosen;
  outputs = subst (λ (rs : List Row). HasRevisedOutputs inputs rs p.outputs.items) (sym rows_are)
      (subst (λ (xs : List Input). HasRevisedOutputs xs rows p.outputs.items) same outputs);
  lists = lists;
  looks = others.0;
  warnings = others.1;
  missing = others.2;
}
