-- Notes that list names (own).
use Rattle.std.specs.Prelude.{ℕ, ◌-◌, List, [], ◌∷◌, ◌++◌, false, ◌==◌, codes, decimal, if◌then◌else◌, length, nat_le, take}
use Rattle.std.specs.List.{join_by}
use Rattle.edit_report.specs.Messages.{message_text}
use Rattle.edit_program.specs.declared.upgrade_output.name_lists.Noun.{Noun}
use Rattle.edit_program.specs.declared.upgrade_output.name_lists.Noun.TheVariants.{Crate, Registry}

-- names as a note lists them: at most five, and the number of the others (own)
abbrev pub abbreviate_names : List (List ℕ) → List ℕ
abbreviate_names names =
    if nat_le (length names) 5 then join_by (λ name. name) (codes ", ") names
    else join_by (λ name. name) (codes ", ") (take 5 names)
    ++ (codes " and " ++ (decimal (length names - 5) ++ codes " more"))

-- the first word for one, and the other one for another number (own)
abbrev pub one_or_many : ℕ → List ℕ → List ℕ → List ℕ
one_or_many count one many = if count == 1 then one else many

-- a noun, in the singular or the plural (own)
abbrev pub noun_text : Noun → ℕ → List ℕ
noun_text Crate count = one_or_many count (codes "crate") (codes "crates")
noun_text Registry count = one_or_many count (codes "registry") (codes "registries")

-- the text of a note: what it says, of how many, and their names (own)
abbrev pub list_text : List ℕ → Noun → List (List ℕ) → List ℕ
list_text what noun names =
    what ++ (codes " for " ++ (decimal (length names) ++ (codes " " ++ (noun_text noun (length names)
    ++ (codes ": " ++ abbreviate_names names)))))

-- a note with names, where there are any (own)
abbrev pub list_note : List ℕ → Noun → List (List ℕ) → List ℕ
list_note what noun [] = []
list_note what noun (name ∷ names) = message_text false (codes "note") (list_text what noun (name ∷ names))
