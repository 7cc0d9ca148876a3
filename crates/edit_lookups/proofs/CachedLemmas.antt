-- The first line of a text, and the texts of cached entries.
use Rattle.std.proofs.Common.{◌≡◌, ◌∙◌, ℕ, suc, ◌+◌, ◌<◌, ◌≤◌, List, [], ◌∷◌, ◌++◌, Bool, false, cond, not, eqb, Some, None, length, take, drop, get_or, refl, ap, sym, subst, arith}
use Rattle.std.specs.Prelude.{codes}
use Rattle.std.specs.List.{after_first, position, position_or_len}
use Rattle.std.proofs.lemmas.Grind.{common_steps}
use Rattle.std.proofs.lemmas.Bool.{eqb-true, false≢true, ne_eqb}
use Rattle.std.proofs.lemmas.List.{drop_more, get_or-take, length-take-le, take-append-drop}
use Rattle.std.proofs.lemmas.List.Sums.{fails_before_first, passes_at_first}
use Rattle.edit_lookups.specs.CachedTexts.{IsEtag, cached_body, cached_text}
use Rattle.edit_lookups.specs.Lookups.{HasNo}
use Rattle.edit_lookups.proofs.CutLemmas.{HasNo-append, HasNo-cons, HasNo-tail}

abbrev pub is_feed : ℕ → Bool
is_feed b = eqb b 10

-- the offset of the first line feed is where `position` finds it
found-at : (text : List ℕ) (n : ℕ) → position is_feed text ≡ Some n
    → (position_or_len is_feed text ≡ n) × (n < length text)
found-at text n e = (grind (arith, common_steps), grind (arith, common_steps))

not-found : (text : List ℕ) → position is_feed text ≡ None → length text ≤ position_or_len is_feed text
not-found text e = grind (arith, common_steps)

before-first : (text : List ℕ) (i : ℕ) → i < position_or_len is_feed text → get_or text i 0 ≡ 10 → ⊥
before-first text i w is = false≢true (sym (fails_before_first is_feed text i 0 w) ∙ ap is_feed is)

-- a text is its first line, a line feed and the rest
pub line-cut : (text : List ℕ) (n : ℕ) → position is_feed text ≡ Some n
    → text ≡ take n text ++ 10 ∷ drop (n + 1) text
line-cut text n e =
    let at = found-at text n e in
    let feed : get_or text n 0 ≡ 10 = subst (λ k. get_or text k 0 ≡ 10) at.0
    (eqb-true _ 10 (passes_at_first is_feed text 0 (omega (arith, at.0, at.1)))) in
    sym (take-append-drop n text) ∙ (ap (λ l. take n text ++ l) (drop_more text n 0 at.1)
    ∙ ap (λ b. take n text ++ b ∷ drop (n + 1) text) feed)

-- the first line of a text has no line feed
pub line-free : (text : List ℕ) (n : ℕ) → position is_feed text ≡ Some n → HasNo 10 (take n text)
line-free text n e i w is =
    let at = found-at text n e in
    let len = length-take-le n text (omega arith) in
    before-first text i (omega arith) (sym (get_or-take n text i 0 (omega arith)) ∙ is)

-- a text in which no line feed is found has none
pub no-feed : (text : List ℕ) → position is_feed text ≡ None → HasNo 10 text
no-feed text e i w is = let past = not-found text e in before-first text i (omega arith) is

-- what follows the first line feed of a text
after-line : (xs body : List ℕ) → HasNo 10 xs → after_first is_feed (xs ++ 10 ∷ body) ≡ body
after-line [] body h = refl
after-line (x ∷ xs) body h =
    let rest = xs ++ 10 ∷ body in
    let other : eqb x 10 ≡ false = ne_eqb x 10 (h 0 (omega arith)) in
    let step : position_or_len is_feed (x ∷ rest) ≡ 1 + position_or_len is_feed rest =
    ap (λ t. cond (not t) (1 + position_or_len is_feed rest) 0) other in
    let more : position_or_len is_feed (x ∷ rest) + 1 ≡ suc (position_or_len is_feed rest + 1) =
    omega arith in
    ap (λ k. drop k (x ∷ rest)) more ∙ after-line xs body (HasNo-tail 10 x xs h)

label-free : HasNo 10 (codes "ETag: ")
label-free =
    let other : (x : ℕ) (xs : List ℕ) → 10 < x → HasNo 10 xs → HasNo 10 (x ∷ xs) =
    λ x xs w h. HasNo-cons 10 x xs (λ e. omega arith) h in
    other 69 (codes "Tag: ") (omega arith) (other 84 (codes "ag: ") (omega arith)
    (other 97 (codes "g: ") (omega arith) (other 103 (codes ": ") (omega arith)
    (other 58 (codes " ") (omega arith) (other 32 [] (omega arith) (λ i w e. omega arith))))))

-- the body in the text of a cached entry is that with which the text was made
pub cached_body-cached_text : (etag body : List ℕ) → IsEtag etag → cached_body (cached_text etag body) ≡ body
cached_body-cached_text etag body valid =
    after-line (codes "ETag: " ++ etag) body (HasNo-append 10 (codes "ETag: ") etag label-free valid.one_line)
