-- Rows exist for each list of entries.
use Rattle.std.proofs.Common.{◌≡◌, ◌++◌, ◌∷◌, [], List, ℕ, Option, Some, None, Bool, false, refl, ap, ◌∙◌, sym, subst, append-nil, append_assoc}
use Rattle.std.specs.List.{AllZip}
use Rattle.std.proofs.lemmas.List.Elements.{All-nil}
use Rattle.semver.specs.Parse.{Parts}
use Rattle.edit_version.specs.Greatest.{IsGreatest, advance}
use Rattle.edit_version.specs.Levels.{versions_within}
use Rattle.edit_version.specs.Selection.{is_admitted, is_offered}
use Rattle.edit_version.specs.VersionOrder.{full_order}
use Rattle.edit_version.proofs.Greatests.{advanced}
use Rattle.edit_version.proofs.Orders.{full_total}
use Rattle.url.specs.Parts.{serialize}
use Rattle.edit_upgrade.specs.OptionLevels.{level_in}
use Rattle.edit_upgrade.specs.Decision.{decision}
use Rattle.edit_upgrade.specs.Inputs.{Setting}
use Rattle.edit_upgrade.specs.Records.{RowEntry}
use Rattle.edit_upgrade.specs.Rows.{AreVersionsFor, Basis, IsDecided, IsRowOver, Line, case_for, dashes, elsewhere, is_elsewhere, line_for, at_address}
use Rattle.edit_upgrade.specs.Upgraded.{IsRow, basis_of}
use Rattle.edit_upgrade.specs.declared.decision.options.Options.{Options}
use Rattle.edit_upgrade.proofs.WrittenEntries.{renew, renewed}

-- a list after another has a greatest version that satisfies the condition, or none
some-after : (keep : Parts → Bool) (back front : List Parts) (o : Option Parts)
    → IsGreatest keep full_order front o
    → (best : Option Parts) × IsGreatest keep full_order (front ++ back) best
some-after keep [] front o h =
    (o, subst (λ (l : List Parts). IsGreatest keep full_order l o) (sym (append-nil front)) h)
some-after keep (x ∷ back) front o h =
    let more = some-after keep back (front ++ x ∷ []) (advance keep full_order o x)
    (advanced keep full_order full_total front x o h) in (
      more.0,
      subst (λ (l : List Parts). IsGreatest keep full_order l more.0)
          (append_assoc front (x ∷ []) back) more.1,
    )

-- a list has a greatest version that satisfies the condition, or none
some-greatest : (keep : Parts → Bool) (xs : List Parts)
    → (best : Option Parts) × IsGreatest keep full_order xs best
some-greatest keep xs = some-after keep xs [] None (All-nil (λ x. keep x ≡ false))

-- each entry with a requirement has a row
some-line : (i : ℕ) (o : Options) (xs : List Parts) (e : RowEntry) (old : List ℕ)
    → (line : Line) × IsDecided i o xs e old line
some-line i o xs e old =
    let near = some-greatest (is_admitted old) xs in
    let far = some-greatest (is_offered old) xs in (
      line_for i e old near.0 far.0 (decision o (case_for o e old near.0 far.0)),
      record { near = near.0; far = far.0; compatible = near.1; latest = far.1; is = refl },
    )

-- so has each
some-row : (i : ℕ) (o : Options) (xs : List Parts) (e : RowEntry) (old : Option (List ℕ))
    → (line : Line) × IsRowOver i o xs e old line
some-row i o xs e None = (dashes i o e, refl)
some-row i o xs e (Some old) = some-line i o (versions_within (level_in o e.name) old xs) e old

-- an entry with another requirement takes the same versions
pub other-versions : (b : Basis) (e f : RowEntry) (xs : List Parts) → f.name ≡ e.name → f.source ≡ e.source
    → AreVersionsFor b e xs → AreVersionsFor b f xs
other-versions b e f xs name source (at_address address needs are) =
    at_address address
    (record { named = needs.named; source = source ∙ needs.source; has = needs.has; crate_name = refl })
    (are ∙ ap (b.versions (serialize address)) (sym name))
other-versions b e f xs name source (elsewhere other none) = elsewhere (ap is_elsewhere source ∙ other) none

-- the entries that rows leave have rows
pub some-again : (s : Setting) (es : List RowEntry) (ls : List Line) → AllZip (IsRow s) es ls
    → (ms : List Line) × AllZip (IsRow s) (renewed es ls) ms
some-again s [] [] h = ([], tt)
some-again s [] (l ∷ ls) h = absurd h
some-again s (e ∷ es) [] h = absurd h
some-again s (e ∷ es) (l ∷ ls) h =
    let next = renew e l in
    let first = some-row s.input s.options h.0.versions next next.old in
    let row : IsRow s next first.0 = record {
      versions = h.0.versions;
      offered = other-versions (basis_of s) e next h.0.versions refl refl h.0.offered;
      decided = first.1;
    } in
    let rest = some-again s es ls h.1 in
    (first.0 ∷ rest.0, (row, rest.1))
