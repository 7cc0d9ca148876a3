-- Sets of texts, and the lists that they were built from.
use Rattle.std.proofs.Common.{◌≡◌, ◌≢◌, ℕ, zero, suc, ◌<◌, List, [], ◌∷◌, ◌++◌, length, get_or, Bool, true, false, cond, BTreeSet, Bor, refl, ap, sym, ◌∙◌, subst, arith}
use Rattle.std.specs.Prelude.{◌||◌, AllPairs, Contains, slice_index_or}
use Rattle.std.specs.BTreeSet.{UpdatesBy}
use Rattle.std.specs.Cmp.Lexicographic.{slice_cmp}
use Rattle.std.specs.Ordering.{nat_cmp}
use Rattle.std.specs.Str.{bytes_eq}
use Rattle.std.proofs.lemmas.List.Folds.{Any-from_list_any, list_any-append}
use Rattle.std.proofs.lemmas.List.Quantifiers.{all_pairs_push}
use Rattle.std.proofs.lemmas.Map.Text.{is_eq-slice_cmp}
use Rattle.std.proofs.lemmas.Slice.Eq.{bytes_eq-Decides}
use Rattle.edit_metadata.specs.Metadata.{is_listed}
use Rattle.edit_metadata.specs.Reading.{holds}

-- a set that got a text
pub holds-more : (key : List ℕ) (old new : BTreeSet (Bor (List ℕ)))
    → UpdatesBy (λ (x y : Bor (List ℕ)). slice_cmp nat_cmp x.now y.now)
    (λ (k : Bor (List ℕ)). slice_cmp nat_cmp key k.now) old new true
    → (text : List ℕ) → holds new text ≡ cond (bytes_eq key text) true (holds old text)
holds-more key old new updates text =
    updates.0 (record { ref_ptr = (0, 0); now = text }) ∙ ap (λ b. cond b true (holds old text))
    (is_eq-slice_cmp key text)

either : (a b : Bool) → (a || (b || false)) ≡ cond b true a
either true true = refl
either true false = refl
either false true = refl
either false false = refl

-- a list with a text more
pub is_listed-more : (ids : List (List ℕ)) (key text : List ℕ)
    → is_listed (ids ++ key ∷ []) text ≡ cond (bytes_eq key text) true (is_listed ids text)
is_listed-more ids key text =
    list_any-append (λ listed. bytes_eq listed text) ids (key ∷ [])
    ∙ either (is_listed ids text) (bytes_eq key text)

-- what a list has is listed
listed-at : (ids : List (List ℕ)) (k : ℕ) (d text : List ℕ) → k < length ids → get_or ids k d ≡ text
    → is_listed ids text ≡ true
listed-at [] k d text within is = absurd (omega arith)
listed-at (id ∷ ids) zero d text within is = ap (λ b. b || is_listed ids text)
    ((bytes_eq-Decides id text).1 is)
listed-at (id ∷ ids) (suc k) d text within is =
    ap (λ b. bytes_eq id text || b) (listed-at ids k d text (omega (arith, within)) is)
    ∙ or-true (bytes_eq id text)
  where
    or-true : (a : Bool) → (a || true) ≡ true
    or-true true = refl
    or-true false = refl

-- and what is listed it has
pub listed-has : (ids : List (List ℕ)) (text : List ℕ) → is_listed ids text ≡ true → Contains ids text
listed-has ids text listed =
    let found = Any-from_list_any (λ listed. bytes_eq listed text) ids listed in (
      found.0,
      found.2,
      subst (λ z. slice_index_or ids found.0 z ≡ z)
          ((bytes_eq-Decides found.1 text).0 found.4) found.3,
    )

-- a text that is not listed comes behind texts that differ
pub apart-more : (ids : List (List ℕ)) (text : List ℕ) → AllPairs (λ (a b : List ℕ). a ≢ b) ids
    → is_listed ids text ≡ false
    → AllPairs (λ (a b : List ℕ). a ≢ b) (ids ++ text ∷ [])
apart-more ids text apart none =
    all_pairs_push (λ (a b : List ℕ). a ≢ b) ids text apart
    (λ k d within same. cc (sym (listed-at ids k d text within same) ∙ none))
