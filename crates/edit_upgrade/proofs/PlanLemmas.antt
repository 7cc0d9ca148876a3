-- The plan of a manifest, from its rows and their edits.
use Rattle.std.proofs.Common.{◌≡◌, ◌∷◌, ◌++◌, [], List, ℕ, Option, Some, None, map, ap, ◌∙◌, sym, subst}
use Rattle.std.specs.Prelude.{MatchOption, String, string_bytes}
use Rattle.edit_tree.specs.Replaces.{Edits, Replaces}
use Rattle.edit_tree.specs.DocumentViews.{DocumentViews}
use Rattle.edit_upgrade.specs.Found.{row_entry_view}
use Rattle.edit_upgrade.specs.Lines.{line_of}
use Rattle.edit_upgrade.specs.Outputs.{AreOutputs, HasOutputs, IsOnlyOutput, IsRewritten, changed, unchanged}
use Rattle.edit_upgrade.specs.PlannedView.{IsPlannedView}
use Rattle.edit_upgrade.specs.Records.{RowEntry}
use Rattle.edit_upgrade.specs.Rows.{writes}
use Rattle.edit_upgrade.specs.declared.planned.Planned.{Planned}
use Rattle.edit_upgrade.specs.declared.entries_with_rows.Entry.{Entry}
use Rattle.edit_report.specs.declared.output.Output.{Output}
use Rattle.edit_report.specs.declared.row.Row.{Row}

-- the one output that was added to none
pub only-output : {Y : Type 0} (path : List ℕ) (text : Option (String Y)) (s : String Y)
    (old outputs : List Output) (o : Output) → text ≡ Some s
    → old ≡ [] → outputs ≡ old ++ o ∷ [] → string_bytes o.path ≡ path → o.bytes.items ≡ string_bytes s
    → MatchOption text (outputs ≡ []) (λ t. IsOnlyOutput path (string_bytes t) outputs)
only-output {Y} path text s old outputs o e none one at bytes =
    let is = one ∙ ap (λ (os : List Output). os ++ o ∷ []) none in
    subst (λ (t : Option (String Y)). MatchOption t (outputs ≡ [])
    (λ x. IsOnlyOutput path (string_bytes x) outputs)) (sym e) (o, is, at, bytes)

-- the one output of a text that differs, or none
pub outputs-are : {Y : Type 0} (path bytes : List ℕ) (d : DocumentViews) (edits : Edits) (text : Option (String Y))
    (outputs : List Output) → d.bytes ≡ bytes
    → MatchOption text (edits ≡ []) (λ s. IsRewritten d edits (string_bytes s))
    → MatchOption text (outputs ≡ []) (λ s. IsOnlyOutput path (string_bytes s) outputs)
    → AreOutputs path bytes edits outputs
outputs-are path bytes d edits None outputs b w o =
    subst (λ (os : List Output). AreOutputs path bytes edits os) (sym o) (unchanged w)
outputs-are path bytes d edits (Some s) outputs b w o =
    let replaced = subst (λ (old : List ℕ). Replaces edits old (string_bytes s)) b w.replaced in
    let written = subst (λ (new : List ℕ). Replaces edits bytes new) (sym o.3) replaced in
    subst (λ (os : List Output). AreOutputs path bytes edits os) (sym o.1) (changed o.0 w.some o.2 written)

-- what is written of a plan
pub outputs-of : {Y : Type 0} (path here bytes : List ℕ) (d : DocumentViews) (p : Planned) (entries : List Entry)
    (rows : List Row) (text : Option (String Y)) (outputs : List Output)
    → here ≡ path → IsPlannedView bytes d p → entries ≡ p.entries.items → rows ≡ p.rows.items
    → MatchOption text (writes (map row_entry_view entries) (map line_of rows) ≡ [])
    (λ s. IsRewritten d (writes (map row_entry_view entries) (map line_of rows)) (string_bytes s))
    → MatchOption text (outputs ≡ []) (λ s. IsOnlyOutput here (string_bytes s) outputs)
    → HasOutputs path bytes (map line_of p.rows.items) outputs
outputs-of path here bytes d p entries rows text outputs a h e r w o =
    let edits = writes (map row_entry_view entries) (map line_of rows) in
    let at = subst (λ (x : List ℕ). MatchOption text (outputs ≡ [])
    (λ s. IsOnlyOutput x (string_bytes s) outputs)) a o in
    let are = outputs-are path bytes d edits text outputs h.same w at in
    record {
      form = h.form;
      manifest = h.manifest;
      are = subst (λ (es : List RowEntry). AreOutputs path bytes (writes es (map line_of p.rows.items)) outputs)
          (ap (map row_entry_view) e ∙ h.entries)
          (subst (λ (rs : List Row). AreOutputs path bytes
          (writes (map row_entry_view entries) (map line_of rs)) outputs) r are);
    }
