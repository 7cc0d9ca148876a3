-- After a replacement the bytes are a document, only the literals differ, and the tree is the intended one.
use Rattle.std.proofs.Common.{◌≡◌, ℕ, zero, suc, arith, String, Global, ◌+◌, ◌<◌, ◌≤◌, true, List, [], ◌∷◌, ◌++◌, map, length, get_or, take, take_all, Option, None, Some, refl, sym, ap, ap₂, ◌∙◌, subst, inl, ⊎_elim}
use Rattle.std.specs.Global.{Vec}
use Rattle.std.specs.Prelude.{string_bytes, is_some}
use Rattle.std.proofs.lemmas.List.{map-append, length-map}
use Rattle.edit_syntax.proofs.Members.{contained_among}
use Rattle.edit_tree.proofs.UniqueValues.{listed_value}
use Rattle.edit_document.specs.declared.replace.Rewrite.{Rewrite}
use Rattle.edit_syntax.specs.Grammar.{Text, text}
use Rattle.edit_tree.specs.Assertions.{IsDocument, Place}
use Rattle.edit_tree.specs.Tree.{is_value_at}
use Rattle.edit_tree.specs.declared.place.Step.{Step as WrittenStep}
use Rattle.edit_document.specs.Items.{place_view}
use Rattle.edit_document.specs.Ranges.{HasRange, edit_views}
use Rattle.edit_tree.specs.Written.{values}
use Rattle.edit_tree.specs.Literals.{literal_of}
use Rattle.edit_tree.specs.Replaces.{Edits, replaced, edited, Swaps, Replaces, AreValues}
use Rattle.edit_document.specs.Splices.{Range, range_of, IsRangeFor, AreRanges}
use Rattle.edit_tree.proofs.ReplacedTree.{AreApart, replaced_document, replaced_view}
use Rattle.edit_tree.proofs.ReplacedStrings.{value_written, one_apart}
use Rattle.edit_document.proofs.SortedRanges.{AreRangesFor, Rewrites, ranges_rewrite}
use Rattle.edit_document.proofs.LocatedEdits.{first_of_distinct}
use Rattle.std.specs.Str.{IsUtf8}
use Rattle.edit_tree.proofs.SwappedTexts.{apart_none, replaced_swaps}

-- a document's replacement at places none of which lies below another
pub replaces_apart : (edits : Edits) (old new : List ℕ) (form : Text) → IsDocument old form
    → AreApart edits form → new ≡ text (replaced edits form) → Replaces edits old new
replaces_apart edits old new form manifest apart e = record {
  form = form;
  was = manifest;
  bytes = e;
  swaps = subst (λ (b : List ℕ). Swaps literal_of (edited edits form) b new)
      (sym manifest.grammar.spelled)
      (subst (λ (b : List ℕ). Swaps literal_of (edited edits form) (text form) b) (sym e)
      (replaced_swaps literal_of edits form (apart_none edits form apart)));
  is = subst (λ (b : List ℕ). IsDocument b (replaced edits form)) (sym e)
      (replaced_document edits old form manifest);
  tree = replaced_view edits old form manifest apart;
}

-- ---- one range more

pub ranges_push : (form : Text) (edits : Edits) (rs : List Range) (e : Place × List ℕ) (r : Range)
    → AreRanges form edits rs → IsRangeFor form e r → AreRanges form (edits ++ e ∷ []) (rs ++ r ∷ [])
ranges_push form [] [] e r h is = (is, tt)
ranges_push form [] (q ∷ rs) e r h is = absurd h
ranges_push form (f ∷ edits) [] e r h is = absurd h
ranges_push form (f ∷ edits) (q ∷ rs) e r h is = (h.0, ranges_push form edits rs e r h.1 is)

-- ---- ranges and edits of the code

pub range_tells : (form : Text) (p : Place) (r : Option (ℕ × ℕ)) → HasRange form p r
    → is_some r ≡ is_value_at form p
range_tells form p None h = sym h
range_tells form p (Some q) h = sym (ap (λ (z : Place). is_value_at form z) (sym h.there) ∙
    listed_value form h.placed_value (contained_among h.placed_value (values form) h.listed))

abbrev Written : Type 0
Written = Vec WrittenStep × String Global

abbrev pub seen : Written → Place × List ℕ
seen e = (place_view e.0.items, string_bytes e.1)

pub value_at : (form : Text) (edits : List Written) (i : ℕ) (e : Written) → i < length edits
    → e ≡ get_or edits i e → AreValues (edit_views edits) form
    → is_value_at form (place_view e.0.items) ≡ true
value_at form [] i e lt is all = absurd (omega arith)
value_at form (x ∷ edits) zero e lt is all =
    ap (λ (z : Written). is_value_at form (place_view z.0.items)) is ∙ all.0
value_at form (x ∷ edits) (suc i) e lt is all = value_at form edits i e (omega arith) is all.1

more_seen : (edits : List Written) (i : ℕ) (e : Written) → i < length edits → e ≡ get_or edits i e
    → take (suc i) (edit_views edits) ≡ take i (edit_views edits) ++ seen e ∷ []
more_seen [] i e lt is = absurd (omega arith)
more_seen (x ∷ edits) zero e lt is = ap (λ (z : Written). seen z ∷ []) (sym is)
more_seen (x ∷ edits) (suc i) e lt is = ap (λ (l : Edits). seen x ∷ l) (more_seen edits i e (omega arith) is)

pub seen_more : (edits : List Written) (i : ℕ) (e : Written) → i < length edits → e ≡ get_or edits i e
    → take (i + 1) (edit_views edits) ≡ take i (edit_views edits) ++ seen e ∷ []
seen_more edits i e lt is = let n : i + 1 ≡ suc i = omega arith in
    ap (λ k. take k (edit_views edits)) n ∙ more_seen edits i e lt is

pub ranged_more : (form : Text) (edits : List Written) (i : ℕ) (e : Written) (old new : List Rewrite)
    (r : Rewrite) → i < length edits → e ≡ get_or edits i e → new ≡ old ++ r ∷ []
    → AreRanges form (take i (edit_views edits)) (map range_of old) → IsRangeFor form (seen e) (range_of r)
    → AreRanges form (take (i + 1) (edit_views edits)) (map range_of new)
ranged_more form edits i e old new r lt is pushed h range =
    subst (λ (l : Edits). AreRanges form l (map range_of new)) (sym (seen_more edits i e lt is))
    (subst (λ (l : List Range). AreRanges form (take i (edit_views edits) ++ seen e ∷ []) l)
    (sym (ap (map range_of) pushed ∙ map-append range_of old (r ∷ [])))
    (ranges_push form (take i (edit_views edits)) (map range_of old) (seen e) (range_of r) h range))

pub range_seen : (form : Text) (e : Written) (steps : List WrittenStep) (listed : List ℕ) (r : Range)
    → steps ≡ e.0.items → listed ≡ string_bytes e.1 → IsRangeFor form (place_view steps, listed) r
    → IsRangeFor form (seen e) r
range_seen form e steps listed r place said h =
    subst (λ (p : Place × List ℕ). IsRangeFor form p r)
    (ap₂ (λ (l : List WrittenStep) (t : List ℕ). edit_of l t) place said) h
  where
    edit_of : List WrittenStep → List ℕ → Place × List ℕ
    edit_of l t = (place_view l, t)

pub all_ranges : (form : Text) (edits : List Written) (i : ℕ) (rs qs : List Rewrite) → length edits ≤ i
    → qs ≡ rs → AreRanges form (take i (edit_views edits)) (map range_of rs)
    → AreRanges form (edit_views edits) (map range_of qs)
all_ranges form edits i rs qs whole same h =
    subst (λ (l : List Rewrite). AreRanges form (edit_views edits) (map range_of l)) (sym same)
    (subst (λ (l : Edits). AreRanges form l (map range_of rs))
    (take_all i (edit_views edits) (omega (arith, length-map edits seen))) h)

-- ---- one value

-- the one range is that of the one edit
pub one_range : (form : Text) (p : Place) (said : List ℕ) (r : Range) → IsRangeFor form (p, said) r
    → AreRangesFor form ((p, said) ∷ []) (r ∷ [])
one_range form p said r range = record {
  each = λ q m. ⊎_elim (λ e. ((p, said), inl refl, subst (λ z. IsRangeFor form (p, said) z) (sym e) range))
      (λ n. absurd n) m;
  all = λ e m. ⊎_elim (λ h. (r, inl refl, subst (λ z. IsRangeFor form z r) (sym h) range)) (λ n. absurd n) m;
}

pub one_rewrite : (whole : List ℕ) (form : Text) (p : Place) (said : List ℕ) (r : Range)
    → IsDocument whole form → IsUtf8 whole → is_value_at form p ≡ true → IsRangeFor form (p, said) r
    → Rewrites whole (r ∷ []) (text (replaced ((p, said) ∷ []) form))
one_rewrite whole form p said r d utf8 listed range =
    let spelled = d.grammar.spelled in
    let edits : Edits = (p, said) ∷ [] in
    let apart = one_apart form p said (value_written form p d.no_clash listed) in
    let are = one_range form p said r range in
    subst (λ (l : List ℕ). Rewrites l (r ∷ []) (text (replaced edits form))) (sym spelled)
    (ranges_rewrite form edits (r ∷ []) d.no_clash d.grammar.well_formed (apart_none edits form apart)
    (first_of_distinct edits (tt, tt)) are (tt, tt) (subst IsUtf8 spelled utf8))

pub replaces_one : (old new : List ℕ) (form : Text) (p : Place) (said : List ℕ) → IsDocument old form
    → is_value_at form p ≡ true → new ≡ text (replaced ((p, said) ∷ []) form)
    → Replaces ((p, said) ∷ []) old new
replaces_one old new form p said manifest listed e =
    replaces_apart ((p, said) ∷ []) old new form manifest
    (one_apart form p said (value_written form p manifest.no_clash listed)) e
