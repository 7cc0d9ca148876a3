-- Notes, from their parts.
use Rattle.std.proofs.Common.{◌≡◌, ◌∙◌, ◌<◌, ◌+◌, ℕ, ℤ, false, Bor, Option, List, [], ◌∷◌, ◌++◌, ap, get_or, length, map, refl, subst, sym, take}
use Rattle.std.specs.Prelude.{◌==◌, codes}
use Rattle.std.specs.Io.KnownBytes.{Appends}
use Rattle.std.specs.List.{flat_map}
use Rattle.std.proofs.KnownBytes.{Appends-trans}
use Rattle.std.proofs.lemmas.Bool.{true≢false}
use Rattle.std.proofs.lemmas.List.{flat_map_more, get_or-map, length-map, take_more}
use Rattle.edit_report.specs.declared.row.Row.{Row}
use Rattle.edit_program.specs.Delivery.{Delivery}
use Rattle.edit_program.specs.Absent.{absent_note}
use Rattle.edit_program.specs.HeldBackNotes.{held_back_notes}
use Rattle.edit_program.specs.NameLists.{list_note}
use Rattle.edit_program.specs.StderrText.{hidden_rows, hidden_note, hidden_text, is_dry_run_noted, note, notes, reason_line, warning, message_if}
use Rattle.edit_program.specs.declared.upgrade_output.name_lists.Noun.TheVariants.{Crate}

-- the line of one reason more
pub line_more : (rows : List Row) (texts : List (List ℕ)) (items : List (Bor (List ℕ))) (i : ℕ)
    (d : Bor (List ℕ)) (head old new : List ℕ) → map (λ x. x.now) items ≡ texts → i < length items
    → old ≡ head ++ flat_map (reason_line rows) (take i texts)
    → new ≡ old ++ reason_line rows (get_or items i d).now
    → new ≡ head ++ flat_map (reason_line rows) (take (i + 1) texts)
line_more rows texts items i d head old new are within before inserted_values =
    let now = λ (x : Bor (List ℕ)). x.now in
    let low : i < length texts = subst (λ n. i < n) (sym (length-map items now) ∙ ap length are) within in
    let one : (get_or items i d).now ≡ get_or texts i d.now =
    sym (get_or-map now items i d d.now within) ∙ ap (λ xs. get_or xs i d.now) are in
    inserted_values ∙ ap (λ xs. xs ++ reason_line rows (get_or items i d).now) before
    ∙ ap (λ t. (head ++ flat_map (reason_line rows) (take i texts)) ++ reason_line rows t) one
    ∙ flat_map_more (reason_line rows) head (take i texts) (get_or texts i d.now)
    ∙ sym (ap (λ xs. head ++ flat_map (reason_line rows) xs) (take_more texts i d.now low))

-- the note on rows of which there are some
some_hidden : (v : ℤ) (items : List (Bor Row)) → (length items == 0) ≡ false
    → note (hidden_text v (map (λ r. r.now) items)) ≡ hidden_note v (map (λ r. r.now) items)
some_hidden v [] none = absurd (true≢false none)
some_hidden v (r ∷ items) some = refl

-- the note on the rows that are not shown
pub hidden_said : (v w : ℤ) (all : List Row) (items slice : List (Bor Row)) (text message : List ℕ) → w ≡ v
    → map (λ r. r.now) items ≡ hidden_rows w all → (length items == 0) ≡ false → slice ≡ items
    → text ≡ hidden_text w (map (λ r. r.now) slice) → message ≡ text
    → note message ≡ hidden_note v (hidden_rows v all)
hidden_said v w all items slice text message known are some is said shown =
    ap note (shown ∙ said)
    ∙ ap (λ (xs : List (Bor Row)). note (hidden_text w (map (λ r. r.now) xs))) is
    ∙ some_hidden w items some
    ∙ ap (hidden_note w) are
    ∙ ap (λ n. hidden_note n (hidden_rows n all)) known

-- all notes on a plan
pub notes_said : (n : Delivery) (a b c d e f g h : Option (List ℕ))
    → Appends a b (message_if n.plan.pinned_present
    (note (codes "Re-run with `--pinned` to upgrade pinned version requirements")))
    → Appends b c (message_if n.plan.incompatible_present
    (note (codes "Re-run with `--incompatible` to upgrade incompatible version requirements")))
    → Appends c d (hidden_note n.options.verbosity (hidden_rows n.options.verbosity n.plan.rows.items))
    → Appends d e (list_note (codes "incompatible ranges are required") Crate n.apart)
    → Appends e f (message_if (is_dry_run_noted n.options n.presentation.format)
    (warning (codes "aborting upgrade due to dry run")))
    → Appends f g (absent_note n.plan n.options n.offline) → Appends g h (held_back_notes n.plan n.options)
    → Appends a h (notes n)
notes_said n a b c d e f g h first second third fourth fifth sixth seventh =
    Appends-trans a b h _ _ first (Appends-trans b c h _ _ second
    (Appends-trans c d h _ _ third (Appends-trans d e h _ _ fourth
    (Appends-trans e f h _ _ fifth (Appends-trans f g h _ _ sixth seventh)))))
