-- The functions on paths agree with their definitions.
use Rattle.std.proofs.Common.{◌≡◌, ◌≢◌, ℕ, zero, suc, true, false, List, [], ◌∷◌, ◌++◌, length, drop, take, replicate, refl, ap, sym, ◌∙◌, inl, inr, append-nil, arith}
use Rattle.std.specs.Prelude.{codes, filter, All, ◌==◌}
use Rattle.std.specs.List.{join_by}
use Rattle.std.specs.Str.{NoCharPasses}
use Rattle.std.specs.Str.Pattern.{FindsChar, HasCharAt}
use Rattle.std.specs.Str.Replace.{ReplacesMatches}
use Rattle.std.proofs.lemmas.Bool.{cases_Bool, eqb-true}
use Rattle.std.proofs.lemmas.List.{map-append, take-append-drop, get_or_default}
use Rattle.std.proofs.lemmas.Str.{len_utf8_ascii}
use Rattle.std.proofs.lemmas.List.Elements.{All-head, All-tail, filter-append}
use Rattle.std.proofs.lemmas.Str.Pattern.{NoCharPasses-char, drop_at_char}
use Rattle.edit_tree.specs.Assertions.{same_bytes}
use Rattle.edit_tree.proofs.SamePlace.{same_bytes_self, same_bytes_is}
use Rattle.edit_base.specs.Paths.{parts_of, IsEmptyOrDot, Named, none, drop as named_drop, take as named_take, BeginApart, IsRelative}
use Rattle.edit_record.specs.RelativePaths.{is_name_segment, names_of, steps_between, relative_of, slash_for, replace_backslashes}

-- ---- relative paths

-- a segment that is empty or `.` is left out
idle-lost : (part : List ℕ) → IsEmptyOrDot part → is_name_segment part ≡ false
idle-lost part (inl e) = rw e refl
idle-lost part (inr e) = rw e refl

-- a segment that is neither empty nor `.` stays
other-remains : (part : List ℕ) → (IsEmptyOrDot part → ⊥) → is_name_segment part ≡ true
other-remains part h = elim (cases_Bool (same_bytes part [])) [
  | inl e ↦ absurd (h (inl (same_bytes_is part [] e)))
  | inr e ↦ elim (cases_Bool (same_bytes part (codes "."))) [
    | inl f ↦ absurd (h (inr (same_bytes_is part (codes ".") f)))
    | inr f ↦ rw e (rw f refl)
  ]
]

-- the segments that are names are those that stay
named-filter : (parts names : List (List ℕ)) → Named parts names → filter is_name_segment parts ≡ names
named-filter _ _ none = refl
named-filter _ _ (named_drop parts names part n idle) =
    filter-append is_name_segment parts (part ∷ [])
    ∙ rw (idle-lost part idle) (rw (named-filter parts names n) (append-nil names))
named-filter _ _ (named_take parts names part n other) =
    filter-append is_name_segment parts (part ∷ [])
    ∙ rw (other-remains part other) (rw (named-filter parts names n) refl)

-- after the common prefix the path goes up and down
steps-common : (common down up : List (List ℕ)) → BeginApart down up
    → steps_between (common ++ down) (common ++ up) ≡ replicate (length up) (codes "..") ++ down
steps-common [] [] up apart = refl
steps-common [] (d ∷ down) [] apart = refl
steps-common [] (d ∷ down) (u ∷ up) apart = elim (cases_Bool (same_bytes d u)) [
  | inl e ↦ absurd (apart (same_bytes_is d u e))
  | inr e ↦ rw e refl
]
steps-common (c ∷ common) down up apart = rw (same_bytes_self c) (steps-common common down up apart)

-- the relation holds for the text of the function
pub relative-is : (to from text : List ℕ) → IsRelative to from text → text ≡ relative_of to from
relative-is to from text r =
    r.writes ∙ ap (join_by (λ step. step) (codes "/")) (sym (steps-common r.common r.down r.up r.longest)
    ∙ ap (λ ns. steps_between ns (r.common ++ r.up))
    (sym (named-filter (parts_of to) (r.common ++ r.down) r.reads_to))
    ∙ ap (λ ns. steps_between (names_of to) ns)
    (sym (named-filter (parts_of from) (r.common ++ r.up) r.reads_from)))

-- ---- slashes

-- a text without a backslash is unchanged
pub replace_backslashes-none : (text : List ℕ) → All (λ b. b ≢ 92) text → replace_backslashes text ≡ text
replace_backslashes-none [] h = refl
replace_backslashes-none (b ∷ bs) h = elim (cases_Bool (b == 92)) [
  | inl e ↦ absurd (All-head (λ x. x ≢ 92) b bs h (eqb-true b 92 e))
  | inr e ↦ rw e (ap (λ l. b ∷ l) (replace_backslashes-none bs (All-tail (λ x. x ≢ 92) b bs h)))
]

-- the text before the first backslash has none
no-backslash : (p : ℕ) (text : List ℕ) → p ≡ 92 → NoCharPasses (λ d. d == p) text → All (λ b. b ≢ 92) text
no-backslash p text is h = λ k d l e.
    NoCharPasses-char p text k h (omega arith) l (get_or_default text k 0 d l ∙ e ∙ sym is)

-- a text around its first backslash
replace_backslashes-at : (p a b : ℕ) (text : List ℕ) → p ≡ 92 → NoCharPasses (λ d. d == p) (take a text)
    → HasCharAt p text a b → replace_backslashes text ≡ take a text ++ 47 ∷ replace_backslashes (drop b text)
replace_backslashes-at p a b text is lacks at =
    let split : text ≡ take a text ++ 92 ∷ drop b text =
    sym (take-append-drop a text)
    ∙ ap (λ t. take a text ++ t) (drop_at_char p text a b at (omega arith) ∙ ap (λ c. c ∷ drop b text) is) in
    ap replace_backslashes split ∙ map-append slash_for (take a text) (92 ∷ drop b text)
    ∙ ap (λ t. t ++ 47 ∷ replace_backslashes (drop b text))
    (replace_backslashes-none (take a text) (no-backslash p (take a text) is lacks))

-- after each backslash is replaced, the text has only slashes
pub replaced-replace_backslashes : (n p : ℕ) (text out : List ℕ) → p ≡ 92
    → ReplacesMatches FindsChar (λ a b. b ≡ a) (codes "/") n p text out → out ≡ replace_backslashes text
replaced-replace_backslashes zero p text out is h = h.1 ∙ sym (replace_backslashes-none text (no-backslash p text is h.0))
replaced-replace_backslashes (suc n) p text out is (a, b, q, rest, finds, same, inl more, made) =
    made ∙ ap (λ t. take a text ++ 47 ∷ t) (replaced-replace_backslashes n q (drop b text) rest (same ∙ is) more.1)
    ∙ sym (replace_backslashes-at p a b text is finds.0 finds.1)
replaced-replace_backslashes (suc n) p text out is (a, b, q, rest, finds, same, inr more, made) =
    absurd (omega (arith, more.0, finds.1.ends, len_utf8_ascii p (omega (arith, is))))
