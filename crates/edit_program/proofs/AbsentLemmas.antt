-- The crates without an index entry.
use Rattle.std.proofs.Common.{◌≡◌, ◌∙◌, ℕ, Bool, false, List, [], ◌∷◌, ◌++◌, ap, map, refl, sym}
use Rattle.std.specs.Prelude.{String, ◌&&◌, codes, if◌then◌else◌, is_none, not, string_bytes}
use Rattle.std.specs.declared.alloc.Global.{Global}
use Rattle.edit_upgrade.specs.declared.decision.options.Options.{Options}
use Rattle.edit_upgrade.specs.declared.upgrade.Look.{Look}
use Rattle.edit_upgrade.specs.declared.upgrade.UpgradePlan.{UpgradePlan}
use Rattle.edit_upgrade.specs.UpdateCalls.{is_among}
use Rattle.edit_program.specs.Absent.{absent_names, absent_at, absent_note}
use Rattle.edit_program.specs.NameLists.{list_note}
use Rattle.edit_program.specs.declared.upgrade_output.name_lists.Noun.TheVariants.{Crate}

-- tests that agree on each name leave the same crates
pub same_absent : (one other : List ℕ → Bool) (lookups : List Look) → ((name : List ℕ) → one name ≡ other name)
    → absent_names one lookups ≡ absent_names other lookups
same_absent one other [] same = refl
same_absent one other (lookup ∷ lookups) same =
    ap (λ b. (if is_none lookup.answer && not b then string_bytes lookup.name ∷ [] else []) ++ absent_names one lookups)
    (same (string_bytes lookup.name))
    ∙ ap (λ names. absent_at other lookup ++ names) (same_absent one other lookups same)

-- the note on these names
abbrev note_on : List (List ℕ) → List ℕ
note_on names = list_note (codes "no index entry was found") Crate names

-- the note on the crates without an index entry
pub absent_said : (p : UpgradePlan) (o : Options) (offline : Bool) (exclude : List (String Global))
    (lookups : List Look) (names slice : List (String Global)) → offline ≡ false
    → exclude ≡ o.exclude.items → lookups ≡ p.looks.items
    → map string_bytes names ≡ absent_names (is_among (map string_bytes exclude)) lookups
    → slice ≡ names → note_on (map string_bytes slice) ≡ absent_note p o offline
absent_said p o offline exclude lookups names slice online excluded same_lookups are is =
    ap (λ (xs : List (String Global)). note_on (map string_bytes xs)) is
    ∙ ap note_on are
    ∙ ap (λ (xs : List (String Global)). note_on (absent_names (is_among (map string_bytes xs)) lookups))
    excluded
    ∙ ap (λ (xs : List Look). note_on (absent_names (is_among (map string_bytes o.exclude.items)) xs))
    same_lookups
    ∙ sym (ap (λ b. if b then []
    else note_on (absent_names (is_among (map string_bytes o.exclude.items)) p.looks.items)) online)
