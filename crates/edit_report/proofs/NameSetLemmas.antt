-- Sets of names.
use Rattle.std.proofs.Common.{◌≡◌, ◌∙◌, ℕ, List, Bool, true, false, ap, cond, refl}
use Rattle.std.specs.Prelude.{◌||◌}
use Rattle.std.specs.Borrow.{Bor}
use Rattle.std.specs.BTreeSet.{BTreeSet, UpdatesBy}
use Rattle.std.specs.Cmp.Lexicographic.{slice_cmp}
use Rattle.std.specs.Ordering.{nat_cmp}
use Rattle.std.specs.Str.{bytes_eq}
use Rattle.std.proofs.lemmas.Map.Text.{is_eq-slice_cmp}
use Rattle.edit_report.specs.NameSets.{has_name}

cond_or : (a b : Bool) → cond b true a ≡ (a || b)
cond_or true true = refl
cond_or true false = refl
cond_or false true = refl
cond_or false false = refl

-- a set that got a name
pub name_more : (key : List ℕ) (old new : BTreeSet (Bor (List ℕ)))
    → UpdatesBy (λ (x y : Bor (List ℕ)). slice_cmp nat_cmp x.now y.now)
    (λ (k : Bor (List ℕ)). slice_cmp nat_cmp key k.now) old new true
    → (name : List ℕ) → has_name new name ≡ (has_name old name || bytes_eq key name)
name_more key old new updates name =
    updates.0 (record { ref_ptr = (0, 0); now = name }) ∙ ap (λ b. cond b true (has_name old name))
    (is_eq-slice_cmp key name) ∙ cond_or (has_name old name) (bytes_eq key name)
