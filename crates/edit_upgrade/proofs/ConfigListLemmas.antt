-- Lists that inputs share: the list of each input.
use Rattle.std.proofs.Common.{◌≡◌, ◌∙◌, ◌<◌, ◌∷◌, [], ℕ, List, Option, Some, zero, suc, ap, length, refl, sym}
use Rattle.std.specs.Prelude.{All, slice_get}
use Rattle.std.specs.List.{cons_option, filter_map}
use Rattle.std.proofs.lemmas.List.Elements.{All-head, All-tail}
use Rattle.edit_upgrade.proofs.EndLemmas.{get-some}

-- there are as many of them as indices
pub chosen-length : {A : Type 0} (lists : List A) (which : List ℕ) → All (λ j. j < length lists) which
    → length (filter_map (slice_get lists) which) ≡ length which
chosen-length lists [] within = refl
chosen-length {A} lists (k ∷ ks) within =
    let own = get-some lists k (All-head (λ j. j < length lists) k ks within) in
    ap (λ (o : Option A). length (cons_option o (filter_map (slice_get lists) ks))) own.1
    ∙ ap suc (chosen-length lists ks (All-tail (λ j. j < length lists) k ks within))

same-index : (k j : ℕ) → Some k ≡ Some j → k ≡ j
same-index k j e = cc e

-- the one of an input is that at its index
pub chosen-at : {A : Type 0} (lists : List A) (which : List ℕ) (i j : ℕ) → All (λ k. k < length lists) which
    → slice_get which i ≡ Some j → slice_get (filter_map (slice_get lists) which) i ≡ slice_get lists j
chosen-at lists [] i j within is = cc is
chosen-at {A} lists (k ∷ ks) zero j within is =
    let own = get-some lists k (All-head (λ n. n < length lists) k ks within) in
    ap (λ (o : Option A). slice_get (cons_option o (filter_map (slice_get lists) ks)) zero) own.1
    ∙ sym own.1 ∙ ap (slice_get lists) (same-index k j is)
chosen-at {A} lists (k ∷ ks) (suc i) j within is =
    let own = get-some lists k (All-head (λ n. n < length lists) k ks within) in
    ap (λ (o : Option A). slice_get (cons_option o (filter_map (slice_get lists) ks)) (suc i)) own.1
    ∙ chosen-at lists ks i j (All-tail (λ n. n < length lists) k ks within) is
