-- Comparisons of texts.
use Rattle.std.proofs.Common.{◌≡◌, ◌≢◌, ℕ, ◌<◌, List, ◌∷◌, ◌++◌, Bool, true, false, length, get_or, take, sym, ◌∙◌, ap, subst, arith, length-append}
use Rattle.std.proofs.Math.Seq.{take-append_seam, get_or-append_seam}
use Rattle.std.specs.Str.{IsUtf8, bytes_eq}
use Rattle.std.proofs.lemmas.Bool.{false≢true}
use Rattle.std.proofs.lemmas.Slice.Eq.{bytes_eq-Decides}
use Rattle.std.proofs.lemmas.Str.{IsUtf8-take, IsCharBoundary-before_ascii}

pub eq-yes : (r : Bool) (a b : List ℕ) → r ≡ bytes_eq a b → r ≡ true → a ≡ b
eq-yes r a b is holds = (bytes_eq-Decides a b).0 (sym is ∙ holds)

pub eq-no : (r : Bool) (a b : List ℕ) → r ≡ bytes_eq a b → r ≡ false → a ≢ b
eq-no r a b is fails same = false≢true (sym fails ∙ (is ∙ (bytes_eq-Decides a b).1 same))

-- the text before an ASCII byte is UTF-8
pub front-utf8 : (s before after : List ℕ) → IsUtf8 s → s ≡ before ++ 10 ∷ after → IsUtf8 before
front-utf8 s before after u e =
    let within : length before < length s = omega (arith, ap length e, length-append before (10 ∷ after)) in
    let at : get_or s (length before) 0 ≡ 10 =
    ap (λ t. get_or t (length before) 0) e ∙ get_or-append_seam before 10 after 0 in
    subst IsUtf8 (ap (take (length before)) e ∙ take-append_seam before (10 ∷ after))
    (IsUtf8-take s (length before) u (IsCharBoundary-before_ascii s (length before) within
    (omega (arith, at))))
