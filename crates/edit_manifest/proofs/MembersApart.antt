-- No two keys of a table of a manifest are equal.
use Rattle.std.proofs.Common.{◌≡◌, ◌∷◌, [], List, ℕ, Option, Some, None, Bool, true, false, refl, inl, inr}
use Rattle.std.specs.Prelude.{not, option_map}
use Rattle.std.specs.List.{AllByRecursion, filter}
use Rattle.std.proofs.lemmas.Bool.{cases_Bool}
use Rattle.edit_tree.specs.Assertions.{Assertion, Kind, Place, Step, array_kind, assertions, dotted, element_kind, header_kind, index, key, leaf, same_bytes, same_step, super}
use Rattle.edit_syntax.specs.Grammar.{Value, array, basic, boolean, datetime, float, inline, integer, literal, multi_basic, multi_literal}
use Rattle.edit_syntax.specs.Grammar as grammar
use Rattle.edit_document.specs.Items.{key_names}
use Rattle.edit_tree.specs.Tree.{kind_at, members_of, once, view_at, view_of_kind}
use Rattle.edit_manifest.specs.Tables.{member_names}

abbrev pub AreNamesApart : List (List ℕ) → Type 0
AreNamesApart [] = Unit {0}
AreNamesApart (n ∷ ns) = AllByRecursion (λ m. same_bytes n m ≡ false) ns × AreNamesApart ns

abbrev AreStepsApart : List Step → Type 0
AreStepsApart [] = Unit {0}
AreStepsApart (s ∷ ss) = AllByRecursion (λ t. same_step s t ≡ false) ss × AreStepsApart ss

filter-all : (P : Step → Type 0) (p : Step → Bool) (ss : List Step) → AllByRecursion P ss
    → AllByRecursion P (filter p ss)
filter-all P p [] h = tt
filter-all P p (s ∷ ss) h = elim (cases_Bool (p s)) [
  | inl holds ↦ rw holds (h.0, filter-all P p ss h.1)
  | inr fails ↦ rw fails (filter-all P p ss h.1)
]

filter-apart : (p : Step → Bool) (ss : List Step) → AreStepsApart ss → AreStepsApart (filter p ss)
filter-apart p [] h = tt
filter-apart p (s ∷ ss) h = elim (cases_Bool (p s)) [
  | inl holds ↦ rw holds (filter-all (λ t. same_step s t ≡ false) p ss h.0, filter-apart p ss h.1)
  | inr fails ↦ rw fails (filter-apart p ss h.1)
]

not-false : (b : Bool) → not b ≡ true → b ≡ false
not-false true h = cc h
not-false false h = refl

filter-differs : (s : Step) (ss : List Step)
    → AllByRecursion (λ t. same_step s t ≡ false) (filter (λ t. not (same_step s t)) ss)
filter-differs s [] = tt
filter-differs s (t ∷ ss) = elim (cases_Bool (not (same_step s t))) [
  | inl holds ↦ rw holds (not-false (same_step s t) holds, filter-differs s ss)
  | inr fails ↦ rw fails (filter-differs s ss)
]

once-apart : (ss : List Step) → AreStepsApart (once ss)
once-apart [] = tt
once-apart (s ∷ ss) =
    (filter-differs s (once ss), filter-apart (λ t. not (same_step s t)) (once ss) (once-apart ss))

names-distinct : (n : List ℕ) (ss : List Step) → AllByRecursion (λ t. same_step (key n) t ≡ false) ss
    → AllByRecursion (λ m. same_bytes n m ≡ false) (key_names ss)
names-distinct n [] h = tt
names-distinct n (key m ∷ ss) h = (h.0, names-distinct n ss h.1)
names-distinct n (index i ∷ ss) h = names-distinct n ss h.1

names-apart : (ss : List Step) → AreStepsApart ss → AreNamesApart (key_names ss)
names-apart [] h = tt
names-apart (key n ∷ ss) h = (names-distinct n ss h.0, names-apart ss h.1)
names-apart (index i ∷ ss) h = names-apart ss h.1

value-apart : (made : List Assertion) (place : Place) (v : Value)
    → AreNamesApart (member_names (Some (view_of_kind made place (leaf v))))
value-apart made place (basic ps) = tt
value-apart made place (literal text) = tt
value-apart made place (multi_basic ps) = tt
value-apart made place (multi_literal ps) = tt
value-apart made place (boolean b) = tt
value-apart made place (integer n) = tt
value-apart made place (float f) = tt
value-apart made place (datetime d) = tt
value-apart made place (array g es) = tt
value-apart made place (inline ws ms) = names-apart (members_of made place) (once-apart _)

kind-apart : (made : List Assertion) (place : Place) (o : Option Kind)
    → AreNamesApart (member_names (option_map (view_of_kind made place) o))
kind-apart made place None = tt
kind-apart made place (Some (leaf v)) = value-apart made place v
kind-apart made place (Some (dotted true)) = names-apart (members_of made place) (once-apart _)
kind-apart made place (Some (dotted false)) = names-apart (members_of made place) (once-apart _)
kind-apart made place (Some super) = names-apart (members_of made place) (once-apart _)
kind-apart made place (Some header_kind) = names-apart (members_of made place) (once-apart _)
kind-apart made place (Some element_kind) = names-apart (members_of made place) (once-apart _)
kind-apart made place (Some array_kind) = tt

-- the keys of the item at a place of a document are distinct
pub form-names : (form : grammar.Text) (place : Place) → AreNamesApart (member_names (view_at form place))
form-names form [] = names-apart (members_of (assertions form) []) (once-apart _)
form-names form (s ∷ ss) = kind-apart (assertions form) (s ∷ ss) (kind_at (assertions form) (s ∷ ss))
