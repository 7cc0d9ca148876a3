-- The notes on what was held back, from their parts.
use Rattle.std.proofs.Common.{◌≡◌, ℕ, List, Option, map, string_bytes, subst}
use Rattle.std.specs.Prelude.{String, codes}
use Rattle.std.specs.Io.KnownBytes.{Appends}
use Rattle.std.specs.declared.alloc.Global.{Global}
use Rattle.std.proofs.KnownBytes.{Appends-trans}
use Rattle.edit_shown.specs.HeldBack.{held_back, lists_of}
use Rattle.edit_shown.specs.declared.held_back.HeldBack.{HeldBack}
use Rattle.edit_upgrade.specs.declared.decision.options.Options.{Options}
use Rattle.edit_upgrade.specs.declared.upgrade.UpgradePlan.{UpgradePlan}
use Rattle.edit_program.specs.HeldBackNotes.{held_back_notes, notes_on}
use Rattle.edit_program.specs.NameLists.{list_note}
use Rattle.edit_program.specs.declared.upgrade_output.name_lists.Noun.TheVariants.{Crate, Registry}

-- the notes, one after the other
pub held_back_said : (p : UpgradePlan) (o : Options) (h : HeldBack)
    (younger undated registries : List (String Global)) (a b c d : Option (List ℕ))
    → lists_of h ≡ held_back p o
    → younger ≡ h.younger.items → undated ≡ h.undated.items → registries ≡ h.registries.items
    → Appends a b (list_note (codes "younger versions were held back") Crate (map string_bytes younger))
    → Appends b c (list_note (codes "versions without a publication time were held back") Crate
    (map string_bytes undated))
    → Appends c d (list_note (codes "no publication times were found") Registry (map string_bytes registries))
    → Appends a d (held_back_notes p o)
held_back_said p o h younger undated registries a b c d are ys us rs first second third =
    subst (λ lists. Appends a d (notes_on lists)) are
    (Appends-trans a b d _ _
    (subst (λ (xs : List (String Global)).
    Appends a b (list_note (codes "younger versions were held back") Crate (map string_bytes xs))) ys first)
    (Appends-trans b c d _ _
    (subst (λ (xs : List (String Global)).
    Appends b c (list_note (codes "versions without a publication time were held back") Crate
    (map string_bytes xs))) us second)
    (subst (λ (xs : List (String Global)).
    Appends c d (list_note (codes "no publication times were found") Registry (map string_bytes xs))) rs third)))
