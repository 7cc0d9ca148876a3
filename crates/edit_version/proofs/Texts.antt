-- The text of a list of comparators after one more, and texts with a leading `^`.
use Rattle.std.proofs.Common.{◌≡◌, ◌<◌, ◌+◌, ◌++◌, ◌∷◌, [], List, ℕ, length, take, get_or, map, refl, ap, ◌∙◌, sym, append_assoc, append-nil, inl, inr}
use Rattle.std.specs.Prelude.{codes, ◌==◌}
use Rattle.std.proofs.lemmas.Bool.{cases_Bool, eqb-true}
use Rattle.std.proofs.lemmas.List.{map-append, take_more}
use Rattle.semver.specs.Identifiers.{comparator_view}
use Rattle.semver.specs.Parse.{Held, Parts}
use Rattle.semver.specs.declared.Comparator.{Comparator}
use Rattle.edit_version.specs.Requirement.{comparator_text, more_text, upgraded_comparator, without_caret}

pub more_text-append : (cs ds : List Held) → more_text (cs ++ ds) ≡ more_text cs ++ more_text ds
more_text-append [] ds = refl
more_text-append (c ∷ cs) ds =
    rw (more_text-append cs ds) (simp append_assoc)

-- the text with one comparator more
pub grown : (v : Parts) (xs : List Comparator) (i : ℕ) (x : Comparator) (start now mid next : List ℕ)
    → i < length xs → x ≡ get_or xs i x
    → now ≡ start ++ more_text (map (upgraded_comparator v) (map comparator_view (take i xs)))
    → mid ≡ now ++ codes ", " → next ≡ mid ++ comparator_text (upgraded_comparator v (comparator_view x))
    → next ≡ start ++ more_text (map (upgraded_comparator v) (map comparator_view (take (i + 1) xs)))
grown v xs i x start now mid next lt at h m n =
    let one : take (i + 1) xs ≡ take i xs ++ x ∷ [] = take_more xs i x lt ∙
    ap (λ y. take i xs ++ y ∷ []) (sym at) in
    let cs = map (upgraded_comparator v) (map comparator_view (take i xs)) in
    let d = upgraded_comparator v (comparator_view x) in
    let two : map (upgraded_comparator v) (map comparator_view (take (i + 1) xs)) ≡ cs ++ d ∷ [] =
    rw (one, map-append, map-append) refl in
    let three : more_text (cs ++ d ∷ []) ≡ more_text cs ++ (codes ", " ++ comparator_text d) =
    more_text-append cs (d ∷ []) ∙ ap (λ t. more_text cs ++ (codes ", " ++ t))
    (append-nil (comparator_text d)) in
    n ∙ ap (λ t. t ++ comparator_text d) (m ∙ ap (λ t. t ++ codes ", ") h)
    ∙ append_assoc (start ++ more_text cs) (codes ", ") (comparator_text d)
    ∙ append_assoc start (more_text cs) (codes ", " ++ comparator_text d)
    ∙ ap (λ t. start ++ t) (sym three)
    ∙ ap (λ l. start ++ more_text l) (sym two)

-- what is left after the `^`
pub caret_stripped : (bs rest : List ℕ) → bs ≡ 94 ∷ rest → rest ≡ without_caret bs
caret_stripped bs rest e = rw e refl

-- no `^` leads the text
pub caret_absent : (bs : List ℕ) → ((rest : List ℕ) → (bs ≡ 94 ∷ rest) → ⊥) → bs ≡ without_caret bs
caret_absent [] h = refl
caret_absent (b ∷ r) h = elim (cases_Bool (b == 94)) [
  | inl same ↦ absurd (h r (ap (λ (x : ℕ). x ∷ r) (eqb-true b 94 same)))
  | inr other ↦ rw other refl
]
