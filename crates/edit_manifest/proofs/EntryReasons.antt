-- The error of an unsupported entry: at equal places, and where there is no item.
use Rattle.std.proofs.Common.{◌≡◌, ℕ, List, None, Err, refl, subst, sym}
use Rattle.edit_tree.specs.Assertions.{Place}
use Rattle.edit_tree.specs.DocumentViews.{DocumentViews, tree_of}
use Rattle.edit_record.specs.EntryRecords.{unknown_entry}
use Rattle.edit_record.specs.ReadEntries.{below, entry_record, record_of}
use Rattle.edit_manifest.specs.EntryViews.{IsReason}
use Rattle.edit_manifest.specs.declared.entries.found.ReadEntry.{ReadEntry}

-- the error of an item, seen in an equal document, at an equal place and under an equal key
pub reason_at : (d d' : DocumentViews) (p p' : Place) (root name name' : List ℕ) (s : ReadEntry)
    → d ≡ d' → p ≡ p' → name ≡ name'
    → IsReason (record_of (tree_of d) p root name) s → IsReason (record_of (tree_of d') p' root name') s
reason_at d d' p p' root name name' s same_document same_place same_name reason =
    subst (λ x. IsReason (record_of (tree_of x) p' root name') s) same_document
    (subst (λ x. IsReason (record_of (tree_of d) x root name') s) same_place
    (subst (λ x. IsReason (record_of (tree_of d) p root x) s) same_name reason))

-- the error where there is no item
pub reason_nowhere : (d : DocumentViews) (p p' : Place) (root name name' : List ℕ) (s : ReadEntry)
    → tree_of d p ≡ None → p ≡ p' → name ≡ name' → IsReason (Err (unknown_entry name)) s
    → IsReason (record_of (tree_of d) p' root name') s
reason_nowhere d p p' root name name' s nothing same_place same_name reason =
    reason_at d d p p' root name name' s refl same_place same_name
    (subst (λ o. IsReason (entry_record (below (tree_of d) p) root name o) s) (sym nothing) reason)
