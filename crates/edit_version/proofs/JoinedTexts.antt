-- The text of characters joined by commas, after one more.
use Rattle.std.proofs.Common.{◌≡◌, ◌<◌, ◌+◌, ◌++◌, ◌∷◌, [], List, ℕ, length, take, get_or, ap, refl, ◌∙◌, sym, append_assoc, append-nil}
use Rattle.std.specs.Prelude.{codes, encode_utf8}
use Rattle.std.proofs.lemmas.List.{take_more}
use Rattle.edit_version.specs.CrateSpecs.{after_comma}

after_comma-append : (cs ds : List ℕ) → after_comma (cs ++ ds) ≡ after_comma cs ++ after_comma ds
after_comma-append [] ds = refl
after_comma-append (c ∷ cs) ds = rw (after_comma-append cs ds) (simp append_assoc)

-- the text with one character more
pub listed-grown : (xs : List ℕ) (i x : ℕ) (start now mid next : List ℕ) → i < length xs → x ≡ get_or xs i x
    → now ≡ start ++ after_comma (take i xs) → mid ≡ now ++ codes ", " → next ≡ mid ++ encode_utf8 x
    → next ≡ start ++ after_comma (take (i + 1) xs)
listed-grown xs i x start now mid next lt at h m n =
    let one : take (i + 1) xs ≡ take i xs ++ x ∷ [] = take_more xs i x lt ∙
    ap (λ (y : ℕ). take i xs ++ y ∷ []) (sym at) in
    let cs = take i xs in
    let three : after_comma (cs ++ x ∷ []) ≡ after_comma cs ++ (codes ", " ++ encode_utf8 x) =
    after_comma-append cs (x ∷ []) ∙ ap (λ (t : List ℕ). after_comma cs ++ (codes ", " ++ t))
    (append-nil (encode_utf8 x)) in
    n ∙ ap (λ (t : List ℕ). t ++ encode_utf8 x) (m ∙ ap (λ (t : List ℕ). t ++ codes ", ") h)
    ∙ append_assoc (start ++ after_comma cs) (codes ", ") (encode_utf8 x)
    ∙ append_assoc start (after_comma cs) (codes ", " ++ encode_utf8 x)
    ∙ ap (λ (t : List ℕ). start ++ t) (sym three)
    ∙ ap (λ (l : List ℕ). start ++ after_comma l) (sym one)
