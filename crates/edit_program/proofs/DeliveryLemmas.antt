-- Printing and writing a plan, from its steps.
use Rattle.std.proofs.Common.{◌≡◌, ◌∙◌, ◌+◌, ◌≤◌, ℕ, suc, List, [], ◌∷◌, ◌++◌, Some, ap, append-nil, append_assoc, arith, inl, inr, refl, sym, ⊎_elim}
use Rattle.std.proofs.Math.Nat.{eq-or-lt_of_le}
use Rattle.std.specs.Prelude.{◌⊎◌, ◌||◌, ◌==◌, ℤ, pos, int_le, if◌then◌else◌, not, slice_get, string_bytes}
use Rattle.std.specs.List.{flat_map}
use Rattle.std.specs.Option.{option_map_or}
use Rattle.std.proofs.lemmas.Bool.{and_right}
use Rattle.std.proofs.lemmas.Grind.{flat_map-append}
use Rattle.edit_base.specs.Errors.{IsMemory}
use Rattle.edit_base.specs.declared.errors.DeviceCall.{DeviceCall}
use Rattle.edit_base.specs.declared.errors.Error.{Error}
use Rattle.edit_metadata.specs.declared.input.Input.{Input}
use Rattle.edit_store.specs.Store.{IsCallError, StoreView, IsRaisedCount}
use Rattle.edit_upgrade.specs.Inputs.{below}
use Rattle.edit_upgrade.specs.declared.upgrade.Warning.{Warning}
use Rattle.edit_program.specs.DeliveryCauses.{HasBadPackageArg, IsDeliveryCause}
use Rattle.edit_program.specs.Delivery.{Delivery}
use Rattle.edit_program.specs.StderrText.{input_report, input_report_at, warning, warning_on, warnings_at}
use Rattle.edit_program.proofs.PartLemmas.{made_of_part}

-- one number more
below_more : (f : ℕ → List ℕ) (i : ℕ) → flat_map f (below (i + 1)) ≡ flat_map f (below i) ++ f i
below_more f i =
    let next : i + 1 ≡ suc i = omega arith in
    ap (λ n. flat_map f (below n)) next
    ∙ flat_map-append f (below i) (i ∷ [])
    ∙ ap (λ text. flat_map f (below i) ++ text) (append-nil (f i))

-- and so a text grows by what belongs to it
pub text_more : (f : ℕ → List ℕ) (i : ℕ) (old mid new : List ℕ) → mid ≡ old ++ flat_map f (below i)
    → new ≡ mid ++ f i → new ≡ old ++ flat_map f (below (i + 1))
text_more f i old mid new before one =
    one ∙ ap (λ text. text ++ f i) before ∙ append_assoc old (flat_map f (below i)) (f i)
    ∙ ap (λ text. old ++ text) (sym (below_more f i))

-- what is said of the input that stands at a number
pub check_is : (verbosity : ℤ) (warnings : List Warning) (inputs : List Input) (i : ℕ) (input : Input)
    → slice_get inputs i ≡ Some input
    → input_report_at verbosity warnings inputs i ≡ input_report verbosity warnings i (string_bytes input.name)
check_is verbosity warnings inputs i input is =
    ap (λ o. option_map_or (λ (x : Input). input_report verbosity warnings i (string_bytes x.name)) o []) is

-- what is said of the warnings on an input is what is said of it by all warnings
pub said_of_own : (verbosity : ℤ) (i : ℕ) (warnings : List Warning)
    → flat_map (warning_on verbosity i) (warnings_at i warnings) ≡ flat_map (warning_on verbosity i) warnings
said_of_own verbosity i warnings =
    made_of_part (λ w. w.input == i) (warning_on verbosity i) warnings
    (λ w other. ap (λ heard. if heard then warning (string_bytes w.text) else [])
    (and_right (not w.verbose || int_le (pos 1) verbosity) (w.input == i) other))

-- the calls are not known, and no file has changed
pub calls_cause : (HasFields : List ℕ → Type 0) (d : Delivery) (files : StoreView) (e : Error)
    → IsMemory e ⊎ HasBadPackageArg d.plan d.options e → IsDeliveryCause HasFields d files files e
calls_cause HasFields d files e (inl memory) = inl (inl memory)
calls_cause HasFields d files e (inr arg) = inr (inr (inl ((λ path. refl), inr arg)))

raised_later : (a b c : ℕ) → a ≤ b → IsRaisedCount b c → IsRaisedCount a c
raised_later a b c le (inl lt) = inl (omega arith)
raised_later a b c le (inr ends) = ⊎_elim (λ same. inr (same ∙ ends.0, ends.1)) (λ lt. inl (omega arith))
    (eq-or-lt_of_le le)

-- an error of the device after a count of faults is one after an earlier count
pub refused_later : (of : DeviceCall) (old mid new : StoreView) (e : Error) → old.faults ≤ mid.faults
    → IsCallError of mid new e → IsCallError of old new e
refused_later of old mid new e later (inl memory) = inl memory
refused_later of old mid new e later (inr failed) =
    inr (failed.0, raised_later old.faults mid.faults new.faults later failed.1)
