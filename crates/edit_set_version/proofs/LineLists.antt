-- Lists of lines to which lines are appended, by the index of their bump.
use Rattle.std.proofs.Common.{◌≡◌, ◌∙◌, ◌+◌, ◌<◌, ℕ, zero, suc, arith, List, [], ◌∷◌, ◌++◌, false, Some, None, refl, sym, ap, ap₂, inl, inr, length, map, get_or, slice_set, ◌≤◌}
use Rattle.std.specs.Prelude.{◌==◌}
use Rattle.std.specs.List.{filter_map}
use Rattle.std.proofs.lemmas.Bool.{cases_Bool, eq-eqb, eqb-true}
use Rattle.std.proofs.lemmas.List.{append_assoc, append-nil, map_push}
use Rattle.std.proofs.lemmas.List.Elements.{filter_map-append}
use Rattle.std.specs.Global.{Vec}
use Rattle.std.specs.declared.alloc.Global.{Global}
use Rattle.edit_set_version.specs.PlanLines.{Owner, Reported}
use Rattle.edit_set_version.specs.declared.lines.Line.{Line}
use Rattle.edit_set_version.specs.SetVersioned.{Dependent}
use Rattle.edit_set_version.specs.LineViews.{dependent_number, line_lists_view, line_view, update_line_view, update_lines_view, with_line, with_updates}

-- the lines of requirements in two parts
updates_append : (name : Owner) (xs ys : List (ℕ × Dependent)) (n : ℕ)
    → update_lines_view name (xs ++ ys) n ≡ update_lines_view name xs n ++ update_lines_view name ys n
updates_append name xs ys n =
    ap (filter_map (update_line_view name)) (filter_map-append (dependent_number n) xs ys)
    ∙ filter_map-append (update_line_view name) (filter_map (dependent_number n) xs)
    (filter_map (dependent_number n) ys)

-- lists grow by one part and then by the other
pub updates_in_parts : (name : Owner) (xs ys : List (ℕ × Dependent)) (n : ℕ) (ls : List (List Reported))
    → with_updates name (xs ++ ys) n ls ≡ with_updates name ys n (with_updates name xs n ls)
updates_in_parts name xs ys n [] = refl
updates_in_parts name xs ys n (l ∷ ls) =
    ap (λ us. (l ++ us) ∷ with_updates name (xs ++ ys) (suc n) ls) (updates_append name xs ys n)
    ∙ ap (λ l. l ∷ with_updates name (xs ++ ys) (suc n) ls)
    (sym (append_assoc l (update_lines_view name xs n) (update_lines_view name ys n)))
    ∙ ap (λ ls. ((l ++ update_lines_view name xs n) ++ update_lines_view name ys n) ∷ ls)
    (updates_in_parts name xs ys (suc n) ls)

-- without requirements they stay
pub no_updates : (name : Owner) (n : ℕ) (ls : List (List Reported)) → with_updates name [] n ls ≡ ls
no_updates name n [] = refl
no_updates name n (l ∷ ls) =
    ap (λ l. l ∷ with_updates name [] (suc n) ls) (append-nil l)
    ∙ ap (λ ls. l ∷ ls) (no_updates name (suc n) ls)

-- a number is not another
other_number : (m n : ℕ) → m < n → (m == n) ≡ false
other_number m n less = elim (cases_Bool (m == n)) [
  | inl same ↦
      let e = eqb-true m n same in
      absurd (omega (arith, less, e))
  | inr other ↦ other
]

-- a requirement that stays has no line
pub stays_unlisted : (name : Owner) (m : ℕ) (f : Dependent) (n : ℕ) (ls : List (List Reported))
    → update_line_view name f ≡ None → with_updates name ((m, f) ∷ []) n ls ≡ ls
stays_unlisted name m f n [] none = refl
stays_unlisted name m f n (l ∷ ls) none = elim (cases_Bool (m == n)) [
  | inl same ↦ rw (same, none) (ap₂ (λ x xs. x ∷ xs) (append-nil l) (stays_unlisted name m f (suc n) ls none))
  | inr other ↦ rw other (ap₂ (λ x xs. x ∷ xs) (append-nil l) (stays_unlisted name m f (suc n) ls none))
]

-- nor to later lists
past_unlisted : (name : Owner) (m : ℕ) (f : Dependent) (n : ℕ) (ls : List (List Reported)) → m < n
    → with_updates name ((m, f) ∷ []) n ls ≡ ls
past_unlisted name m f n [] less = refl
past_unlisted name m f n (l ∷ ls) less =
    rw (other_number m n less) (ap₂ (λ x xs. x ∷ xs) (append-nil l)
    (past_unlisted name m f (suc n) ls (omega (arith, less))))

-- one that becomes another text has one line
pub rise_listed : (name : Owner) (m k n : ℕ) (f : Dependent) (line : Reported) (ls : List (List Reported))
    → m ≡ k + n → update_line_view name f ≡ Some line
    → with_updates name ((m, f) ∷ []) n ls ≡ with_line k line ls
rise_listed name m k n f line [] at is = refl
rise_listed name m zero n f line (l ∷ ls) at is =
    rw (eq-eqb m n (omega (arith, at)), is) (ap (λ xs. (l ++ line ∷ []) ∷ xs)
    (past_unlisted name m f (suc n) ls (omega (arith, at))))
rise_listed name m (suc k) n f line (l ∷ ls) at is =
    rw later (ap₂ (λ x xs. x ∷ xs) (append-nil l)
    (rise_listed name m k (suc n) f line ls (omega (arith, at)) is))
  where
    later : (m == n) ≡ false
    later = elim (cases_Bool (m == n)) [
      | inl same ↦
          let e = eqb-true m n same in
          absurd (omega (arith, at, e))
      | inr other ↦ other
    ]

-- ---- lists in memory

-- lines in memory
abbrev pub Lines : Type 0
Lines = Vec Line

-- a number past the last list
pub line_past : (ls : List Lines) (n : ℕ) (line : Reported) → length ls ≤ n
    → line_lists_view ls ≡ with_line n line (line_lists_view ls)
line_past [] n line past = refl
line_past (l ∷ ls) zero line past = absurd (omega (arith, past))
line_past (l ∷ ls) (suc n) line past =
    ap (λ xs. map line_view l.items ∷ xs) (line_past ls n line (omega (arith, past)))

-- a line more at the end of a list
pub line_put : (ls : List Lines) (n : ℕ) (old new : Lines) (line : Line)
    → n < length ls → old ≡ get_or ls n old → new.items ≡ old.items ++ line ∷ []
    → line_lists_view (slice_set ls n new) ≡ with_line n (line_view line) (line_lists_view ls)
line_put [] n old new line within is more = absurd (omega (arith, within))
line_put (l ∷ ls) zero old new line within is more =
    ap (λ x. x ∷ line_lists_view ls) (ap (map line_view) more ∙ map_push line_view old.items line
    ∙ ap (λ (x : Lines). map line_view x.items ++ line_view line ∷ []) is)
line_put (l ∷ ls) (suc n) old new line within is more =
    ap (λ xs. map line_view l.items ∷ xs) (line_put ls n old new line (omega (arith, within)) is more)
