-- The note on crates that an index does not have (own).
use Rattle.std.specs.Prelude.{ℕ, List, [], ◌∷◌, Bool, ◌&&◌, codes, if◌then◌else◌, is_none, map, not, string_bytes}
use Rattle.std.specs.List.{flat_map}
use Rattle.edit_upgrade.specs.UpdateCalls.{is_among}
use Rattle.edit_upgrade.specs.declared.decision.options.Options.{Options}
use Rattle.edit_upgrade.specs.declared.upgrade.Look.{Look}
use Rattle.edit_upgrade.specs.declared.upgrade.UpgradePlan.{UpgradePlan}
use Rattle.edit_program.specs.NameLists.{list_note}
use Rattle.edit_program.specs.declared.upgrade_output.name_lists.Noun.TheVariants.{Crate}

-- whether the index has no entry for a crate, and its name is not excluded (own)
abbrev pub is_absent : (List ℕ → Bool) → Look → Bool
is_absent is_excluded lookup = is_none lookup.answer && not (is_excluded (string_bytes lookup.name))

-- the name of a crate that the index does not have and that is not excluded, as a list (own)
abbrev pub absent_at : (List ℕ → Bool) → Look → List (List ℕ)
absent_at is_excluded lookup = if is_absent is_excluded lookup then string_bytes lookup.name ∷ [] else []

-- the names of the crates that the index does not have and that are not excluded, in the order of the
-- lookups (own)
abbrev pub absent_names : (List ℕ → Bool) → List Look → List (List ℕ)
absent_names is_excluded lookups = flat_map (absent_at is_excluded) lookups

-- the note on a plan; offline there is none, since the tool that fills the index reports the missing
-- entries (own)
abbrev pub absent_note : UpgradePlan → Options → Bool → List ℕ
absent_note plan options offline =
    if offline then []
    else list_note (codes "no index entry was found") Crate
    (absent_names (is_among (map string_bytes options.exclude.items)) plan.looks.items)
