-- The notes on what was held back for the age of versions (own).
use Rattle.std.specs.Prelude.{ℕ, List, ◌++◌, codes}
use Rattle.edit_shown.specs.HeldBack.{Lists, held_back}
use Rattle.edit_upgrade.specs.declared.decision.options.Options.{Options}
use Rattle.edit_upgrade.specs.declared.upgrade.UpgradePlan.{UpgradePlan}
use Rattle.edit_program.specs.NameLists.{list_note}
use Rattle.edit_program.specs.declared.upgrade_output.name_lists.Noun.TheVariants.{Crate, Registry}

-- the notes on these lists: the crates with versions that were published too late, those with versions of
-- unknown time, and the registries that have the time of no version (own)
abbrev pub notes_on : Lists → List ℕ
notes_on lists =
    list_note (codes "younger versions were held back") Crate lists.younger
    ++ (list_note (codes "versions without a publication time were held back") Crate lists.undated
    ++ list_note (codes "no publication times were found") Registry lists.registries)

-- the notes on what an upgrade held back (own)
abbrev pub held_back_notes : UpgradePlan → Options → List ℕ
held_back_notes plan options = notes_on (held_back plan options)
