-- A value set at a place: the bytes written.
use Rattle.std.proofs.Common.{◌≡◌, ℕ, ◌-◌, Bool, true, false, cond, List, [], ◌∷◌, ◌++◌, length, take, drop, Option, None, Some, option_map, refl, sym, ap, ap₂, ◌∙◌, subst, true≢false, append_assoc, length-append, arith}
use Rattle.std.proofs.Math.Seq.{take-append_seam, drop-append_seam}
use Rattle.std.specs.List.{filter_map, cons_option}
use Rattle.edit_syntax.specs.Grammar.{value, Text, text}
use Rattle.edit_syntax.proofs.Cases.{by_test}
use Rattle.edit_syntax.proofs.ValueEdges.{value_rest}
use Rattle.edit_tree.specs.Assertions.{Place, same_place, IsDocument}
use Rattle.edit_tree.specs.EditBytes.{Splice, first_of, first_result, set_text}
use Rattle.edit_tree.specs.NewItems.{NewValue, new_value}
use Rattle.edit_tree.specs.Replaces.{Writer, replaced_by, edited, Swaps, rest, next}
use Rattle.edit_document.specs.Splices.{Range, ranges_of}
use Rattle.edit_tree.specs.Tree.{is_value_at}
use Rattle.edit_tree.specs.Written.{PlacedValue, values, start_of, end_of, IsWrittenAt}
use Rattle.edit_document.proofs.LocatedEdits.{first_of_distinct}
use Rattle.edit_tree.proofs.ReplacedStrings.{value_written, one_apart}
use Rattle.edit_document.proofs.ReplacementLaws.{one_range}
use Rattle.edit_tree.proofs.SamePlace.{same_place_self, same_place_is}
use Rattle.edit_document.proofs.SortedRanges.{ranges_are}
use Rattle.edit_tree.proofs.SwappedTexts.{apart_none, replaced_swaps, edit_of}
use Rattle.edit_tree.proofs.WidenedForms.{one, turned}

-- the form with the value at the place
abbrev pub form_set : Place → NewValue → Text → Text
form_set p v form = replaced_by (turned (new_value v)) (one p) form

-- ---- the bytes

none_swapped : (write : Writer) (edits : List (PlacedValue × List ℕ)) (old new : List ℕ)
    → Swaps write edits old new → edits ≡ [] → new ≡ old
none_swapped write edits old new (rest t) e = refl
none_swapped write edits old new (next t w said more now s) e = absurd cc

-- one value that gives way, with the text before it
pub record OneSwap (write : Writer) (c : PlacedValue × List ℕ) (old new : List ℕ) : Type 0 where
  pub before : List ℕ
  pub was : old ≡ before ++ value c.0.value c.0.after
  pub is : new ≡ before ++ value (write c.1) c.0.after

pub one_swap : (write : Writer) (edits : List (PlacedValue × List ℕ)) (c : PlacedValue × List ℕ) (old new : List ℕ)
    → Swaps write edits old new → edits ≡ c ∷ [] → OneSwap write c old new
one_swap write edits c old new (rest t) e = absurd cc
one_swap write edits c old new (next t w said more now s) e =
    let first : (w, said) ≡ c = head_is e in
    let left : more ≡ [] = tail_is e in
    let all = none_swapped write more w.after now s left in
    subst (λ (d : PlacedValue × List ℕ). OneSwap write d (t ++ value w.value w.after)
    (t ++ value (write said) now)) first
    (record { before = t; was = refl; is = ap (λ (l : List ℕ). t ++ value (write said) l) all })
  where
    head_is : (w, said) ∷ more ≡ c ∷ [] → (w, said) ≡ c
    head_is h = let k : Some (w, said) ≡ Some c = ap first_there h in some_same (w, said) c k
      where
        first_there : List (PlacedValue × List ℕ) → Option (PlacedValue × List ℕ)
        first_there [] = None
        first_there (d ∷ ds) = Some d

        some_same : (a b : PlacedValue × List ℕ) → Some a ≡ Some b → a ≡ b
        some_same a b h = cc

    tail_is : (w, said) ∷ more ≡ c ∷ [] → more ≡ []
    tail_is h = ap others h
      where
        others : List (PlacedValue × List ℕ) → List (PlacedValue × List ℕ)
        others [] = []
        others (d ∷ ds) = ds

one_edited : (total : ℕ) (r : Range) (cs : List (PlacedValue × List ℕ)) → r ∷ [] ≡ ranges_of total cs
    → (c : PlacedValue × List ℕ) × (cs ≡ c ∷ []) × (r.0 ≡ start_of total c.0) × (r.1 ≡ end_of total c.0)
one_edited total r [] e = absurd cc
one_edited total r (c ∷ []) e =
    let same : r ≡ (start_of total c.0, end_of total c.0, c.1) = first_is e in
    (c, refl, ap (λ (z : Range). z.0) same, ap (λ (z : Range). z.1) same)
  where
    first_is : r ∷ [] ≡ (start_of total c.0, end_of total c.0, c.1) ∷ []
        → r ≡ (start_of total c.0, end_of total c.0, c.1)
    first_is h = some_same r _ (ap first_there h)
      where
        first_there : List Range → Option Range
        first_there [] = None
        first_there (d ∷ ds) = Some d

        some_same : (a b : Range) → Some a ≡ Some b → a ≡ b
        some_same a b h = cc
one_edited total r (c ∷ d ∷ cs) e = absurd cc

-- the range of the value at the place is the one that gives way
pub found_edit : (form : Text) (p : Place) (start end : ℕ) (old : List ℕ) → IsDocument old form
    → is_value_at form p ≡ true → IsWrittenAt form p start end
    → (c : PlacedValue × List ℕ) × (edited (one p) form ≡ c ∷ []) × (start ≡ start_of (length (text form)) c.0) ×
    (end ≡ end_of (length (text form)) c.0)
found_edit form p start end old document is_value range =
    let apart = one_apart form p [] (value_written form p document.no_clash is_value) in
    let r : Range = (start, end, []) in
    one_edited (length (text form)) r (edited (one p) form)
    (ranges_are form (one p) (r ∷ []) document.no_clash document.grammar.well_formed
    (apart_none (one p) form apart) (first_of_distinct (one p) (tt, tt))
    (one_range form p [] r (range, refl)) (tt, tt))

pub same_flip : (p q : Place) → same_place p q ≡ same_place q p
same_flip p q =
    by_test (same_place p q)
    (λ h. h ∙ sym (ap (λ r. same_place q r) (same_place_is p q h) ∙ same_place_self q))
    (λ h. h ∙ sym (by_test (same_place q p)
    (λ g. absurd
    (true≢false (sym (ap (λ r. same_place r q) (sym (same_place_is q p g)) ∙ same_place_self q) ∙ h)))
    (λ g. g)))

-- what is written there
abbrev splice_at : NewValue → PlacedValue → Splice
splice_at v w = record { from = value w.value w.after; to = w.after; now = value (new_value v) [] }

abbrev splice_for : Place → NewValue → PlacedValue → Option Splice
splice_for p v w = cond (same_place w.place p) (Some (splice_at v w)) None

pub only_one : (o : Option Splice) → first_of (o ∷ []) ≡ o
only_one None = refl
only_one (Some s) = refl

first_edit : (p : Place) (v : NewValue) (ws : List PlacedValue) (c : PlacedValue × List ℕ)
    (more : List (PlacedValue × List ℕ)) → filter_map (edit_of (one p)) ws ≡ c ∷ more
    → first_result (splice_for p v) ws ≡ Some (splice_at v c.0)
first_edit p v [] c more e = absurd cc
first_edit p v (w ∷ ws) c more e = go (same_place p w.place) (same_flip w.place p) e
    (first_edit p v ws c more)
  where
    first_there : List (PlacedValue × List ℕ) → Option (PlacedValue × List ℕ)
    first_there [] = None
    first_there (d ∷ ds) = Some d

    some_same : (a b : PlacedValue × List ℕ) → Some a ≡ Some b → a ≡ b
    some_same a b h = cc

    go : (b : Bool) → same_place w.place p ≡ b
        → cons_option (option_map (λ said. (w, said)) (cond b (Some []) None))
        (filter_map (edit_of (one p)) ws) ≡ c ∷ more
        → (filter_map (edit_of (one p)) ws ≡ c ∷ more
        → first_result (splice_for p v) ws ≡ Some (splice_at v c.0))
        → first_result (splice_for p v) (w ∷ ws) ≡ Some (splice_at v c.0)
    go true h k ih =
        let same : (w, []) ≡ c = some_same (w, []) c (ap first_there k) in
        ap (λ b. first_of (cond b (Some (splice_at v w)) None ∷ first_result (splice_for p v) ws ∷ [])) h
        ∙ ap (λ (d : PlacedValue × List ℕ). Some (splice_at v d.0)) same
    go false h k ih =
        ap (λ b. first_of (cond b (Some (splice_at v w)) None ∷ first_result (splice_for p v) ws ∷ [])) h
        ∙ only_one (first_result (splice_for p v) ws) ∙ ih k

-- what the code writes and what the definition says are the text of the new form
pub record SetAt (p : Place) (v : NewValue) (form : Text) (start end : ℕ) : Type 0 where
  pub written : take start (text form) ++ (value (new_value v) [] ++ drop end (text form)) ≡ text
      (form_set p v form)
  pub meant : set_text p v form ≡ text (form_set p v form)

cut_front : (whole front back : List ℕ) → whole ≡ front ++ back → length whole - length back ≡ length front
cut_front whole front back e = let all = ap length e in let one = length-append front back in omega arith

pub take_front : (whole front back : List ℕ) → whole ≡ front ++ back
    → take (length whole - length back) whole ≡ front
take_front whole front back e = ap₂ (λ n (l : List ℕ). take n l) (cut_front whole front back e) e
    ∙ take-append_seam front back

pub drop_front : (whole front back : List ℕ) → whole ≡ front ++ back
    → drop (length whole - length back) whole ≡ back
drop_front whole front back e = ap₂ (λ n (l : List ℕ). drop n l) (cut_front whole front back e) e
    ∙ drop-append_seam front back

pub set_at : (form : Text) (p : Place) (v : NewValue) (start end : ℕ) (old : List ℕ) → IsDocument old form
    → is_value_at form p ≡ true → IsWrittenAt form p start end → SetAt p v form start end
set_at form p v start end old document is_value range =
    let u = new_value v in
    let f = found_edit form p start end old document is_value range in
    let c = f.0 in
    let apart = one_apart form p [] (value_written form p document.no_clash is_value) in
    let swap = one_swap (turned u) (edited (one p) form) c (text form) (text (form_set p v form))
    (replaced_swaps (turned u) (one p) form (apart_none (one p) form apart)) f.1 in
    let t = swap.before in
    let after = c.0.after in
    let inner : text form ≡ (t ++ value c.0.value []) ++ after =
    swap.was ∙ ap (λ (l : List ℕ). t ++ l) (value_rest c.0.value after)
    ∙ sym (append_assoc t (value c.0.value []) after) in
    let front = take_front (text form) t (value c.0.value after) swap.was in
    let back = drop_front (text form) (t ++ value c.0.value []) after inner in
    let whole : t ++ (value u [] ++ after) ≡ text (form_set p v form) =
    ap (λ (l : List ℕ). t ++ l) (sym (value_rest u after)) ∙ sym swap.is in
    record {
      written =
          ap₂ (λ (a : List ℕ) (b : List ℕ). a ++ (value u [] ++ b))
          (ap (λ n. take n (text form)) f.2 ∙ front) (ap (λ n. drop n (text form)) f.3 ∙ back) ∙ whole;
      meant =
          ap (λ (o : Option Splice). spliced o) (first_edit p v (values form) c [] f.1)
          ∙ ap (λ (a : List ℕ). a ++ (value u [] ++ after)) front ∙ whole;
    }
  where
    spliced : Option Splice → List ℕ
    spliced None = text form
    spliced (Some s) = take (length (text form) - length s.from) (text form) ++ (s.now ++ s.to)
