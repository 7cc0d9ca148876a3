-- Notes that list names.
use Rattle.std.proofs.Common.{◌≡◌, ◌≤◌, ◌-◌, ◌∙◌, ℕ, false, List, [], ◌∷◌, ◌++◌, ap, arith, le-leb, length, map, refl, sym, take}
use Rattle.std.specs.Prelude.{String, ◌==◌, codes, decimal, if◌then◌else◌, string_bytes}
use Rattle.std.specs.List.{join_by}
use Rattle.std.specs.declared.alloc.Global.{Global}
use Rattle.std.proofs.lemmas.List.{length-map}
use Rattle.std.proofs.lemmas.Bool.{true≢false}
use Rattle.edit_report.specs.Messages.{message_text}
use Rattle.edit_program.specs.NameLists.{abbreviate_names, list_note, list_text}
use Rattle.edit_program.specs.declared.upgrade_output.name_lists.Noun.{Noun}

-- the names in a row, as the note has them where it has all
abbrev join_names : List (List ℕ) → List ℕ
join_names names = join_by (λ name. name) (codes ", ") names

-- the names as the note has them where it has not all
abbrev cut : List (List ℕ) → List ℕ
cut names = join_names (take 5 names) ++ (codes " and " ++ (decimal (length names - 5) ++ codes " more"))

-- at most five names
pub few_listed : (names : List (String Global)) → length names ≤ 5
    → join_names (map string_bytes names) ≡ abbreviate_names (map string_bytes names)
few_listed names few =
    let count = length-map names string_bytes in
    let is_few = le-leb (length (map string_bytes names)) 5 (omega (arith, few, count)) in
    sym (ap (λ b. if b then join_names (map string_bytes names) else cut (map string_bytes names)) is_few)

-- the note on names of which there are some
some_listed : (what : List ℕ) (noun : Noun) (names : List (String Global)) → (length names == 0) ≡ false
    → message_text false (codes "note") (list_text what noun (map string_bytes names))
    ≡ list_note what noun (map string_bytes names)
some_listed what noun [] none = absurd (true≢false none)
some_listed what noun (name ∷ names) some = refl

-- the note on names
pub list_said : (what : List ℕ) (noun : Noun) (names : List (String Global)) (text message : List ℕ)
    → (length names == 0) ≡ false → text ≡ list_text what noun (map string_bytes names) → message ≡ text
    → message_text false (codes "note") message ≡ list_note what noun (map string_bytes names)
list_said what noun names text message some said shown =
    ap (message_text false (codes "note")) (shown ∙ said) ∙ some_listed what noun names some
