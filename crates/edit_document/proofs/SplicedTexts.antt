-- The replaced values do not overlap, and the text with literals in their ranges is that of the replaced
-- syntax tree.
use Rattle.std.proofs.Common.{◌≡◌, ℕ, ◌+◌, ◌-◌, ◌<◌, ◌≤◌, List, [], ◌∷◌, ◌++◌, length, take, drop, get_or, refl, sym, ap, ap₂, ◌∙◌, subst, append_assoc, length-append, arith}
use Rattle.std.proofs.Math.Seq.{take-append_seam, drop-append_seam, get_or-append_seam}
use Rattle.std.proofs.lemmas.Str.{IsCharBoundary-before_ascii, IsCharBoundary-after_ascii}
use Rattle.std.specs.Prelude.{slice_range}
use Rattle.std.specs.Str.{IsCharBoundary, IsUtf8}
use Rattle.std.specs.List.{AllByRecursion}
use Rattle.edit_syntax.specs.Grammar.{value}
use Rattle.edit_tree.specs.Literals.{literal_of, literal_bytes}
use Rattle.edit_tree.specs.Written.{PlacedValue, start_of}
use Rattle.edit_tree.specs.Replaces.{Swaps, rest, next}
use Rattle.edit_document.specs.Splices.{Range, spliced, AreInOrder, ranges_of}
use Rattle.edit_syntax.proofs.ValueEdges.{value_rest, IsEnclosed}

-- ---- the bytes

-- where a value begins, behind this much of the text
start_behind : (whole front t : List ℕ) (w : PlacedValue) → whole ≡ front ++ (t ++ value w.value w.after)
    → start_of (length whole) w ≡ length (front ++ t)
start_behind whole front t w e =
    let all = ap length e in
    let one = length-append front (t ++ value w.value w.after) in
    let two = length-append t (value w.value w.after) in
    let three = length-append front t in
    omega arith

past_value : (whole front t : List ℕ) (w : PlacedValue) → whole ≡ front ++ (t ++ value w.value w.after)
    → whole ≡ (front ++ (t ++ value w.value [])) ++ w.after
past_value whole front t w e =
    e ∙ ap (λ (l : List ℕ). front ++ (t ++ l)) (value_rest w.value w.after) ∙
    ap (λ (l : List ℕ). front ++ l) (sym (append_assoc t (value w.value []) w.after)) ∙
    sym (append_assoc front (t ++ value w.value []) w.after)

end_behind : (whole front after : List ℕ) → whole ≡ front ++ after
    → length whole - length after ≡ length front
end_behind whole front after e =
    let all = ap length e in
    let one = length-append front after in
    omega arith

slice_behind : (whole front t more : List ℕ) → whole ≡ front ++ (t ++ more)
    → slice_range whole (length front) (length (front ++ t)) ≡ t
slice_behind whole front t more e =
    let rest_is : drop (length front) whole ≡ t ++ more = ap (λ (l : List ℕ). drop (length front) l) e ∙
    drop-append_seam front (t ++ more) in
    let len : length (front ++ t) - length front ≡ length t = omega (arith, length-append front t) in
    ap₂ (λ n (l : List ℕ). take n l) len rest_is ∙ take-append_seam t more

pub swaps_spliced : (whole front old new : List ℕ) (edits : List (PlacedValue × List ℕ))
    → Swaps literal_of edits old new → whole ≡ front ++ old
    → spliced whole (length front) (ranges_of (length whole) edits) ≡ new
swaps_spliced whole front old new edits (rest t) e = ap (λ (l : List ℕ). drop (length front) l) e ∙
    drop-append_seam front t
swaps_spliced whole front old new edits (next t w said more now s) e =
    let past = past_value whole front t w e in
    let after = front ++ (t ++ value w.value []) in
    let inner = swaps_spliced whole after w.after now more s past in
    let ranges = ranges_of (length whole) more in
    ap₂ (λ n m. slice_range whole (length front) n ++ (literal_bytes said ++ spliced whole m ranges))
    (start_behind whole front t w e) (end_behind whole after w.after past)
    ∙ ap₂ (λ (a : List ℕ) (b : List ℕ). a ++ (literal_bytes said ++ b))
    (slice_behind whole front t (value w.value w.after) e) inner
    ∙ ap (λ (l : List ℕ). t ++ l) (sym (value_rest (literal_of said) now))

-- ---- the order

-- each of the values begins and ends with a character of ASCII
abbrev pub AreEnclosed : List (PlacedValue × List ℕ) → Type 0
AreEnclosed edits = AllByRecursion (λ e. IsEnclosed (value e.0.value [])) edits

boundary_at : (whole front behind : List ℕ) (b : ℕ) → whole ≡ front ++ b ∷ behind → b < 128
    → IsCharBoundary whole (length front)
boundary_at whole front behind b e low =
    let all = ap length e in
    let one = length-append front (b ∷ behind) in
    let read : get_or whole (length front) 0 ≡ b = ap (λ (l : List ℕ). get_or l (length front) 0) e ∙
    get_or-append_seam front b behind 0 in
    IsCharBoundary-before_ascii whole (length front) (omega arith) (omega (arith, read))

boundary_past : (whole front behind : List ℕ) (b : ℕ) → IsUtf8 whole → whole ≡ front ++ b ∷ behind → b < 128
    → IsCharBoundary whole (length front + 1)
boundary_past whole front behind b utf8 e low =
    let all = ap length e in
    let one = length-append front (b ∷ behind) in
    let read : get_or whole (length front) 0 ≡ b = ap (λ (l : List ℕ). get_or l (length front) 0) e ∙
    get_or-append_seam front b behind 0 in
    IsCharBoundary-after_ascii whole (length front) utf8 (omega arith) (omega (arith, read))

start_boundary : (whole front t : List ℕ) (w : PlacedValue) → whole ≡ front ++ (t ++ value w.value w.after)
    → IsEnclosed (value w.value []) → IsCharBoundary whole (length (front ++ t))
start_boundary whole front t w e fence =
    boundary_at whole (front ++ t) (fence.behind ++ w.after) fence.first
    (e ∙ sym (append_assoc front t (value w.value w.after)) ∙
    ap (λ (l : List ℕ). (front ++ t) ++ l) (value_rest w.value w.after ∙
    ap (λ (l : List ℕ). l ++ w.after) fence.begins))
    fence.first_ascii

end_boundary : (whole front t : List ℕ) (w : PlacedValue) → IsUtf8 whole
    → whole ≡ front ++ (t ++ value w.value w.after) → IsEnclosed (value w.value [])
    → IsCharBoundary whole (length (front ++ (t ++ value w.value [])))
end_boundary whole front t w utf8 e fence =
    let head = front ++ (t ++ fence.before) in
    let same : front ++ (t ++ value w.value []) ≡ head ++ fence.last ∷ [] =
    ap (λ (l : List ℕ). front ++ (t ++ l)) fence.ends ∙ ap (λ (l : List ℕ). front ++ l)
    (sym (append_assoc t fence.before (fence.last ∷ []))) ∙
    sym (append_assoc front (t ++ fence.before) (fence.last ∷ [])) in
    let whole_is : whole ≡ head ++ fence.last ∷ w.after =
    past_value whole front t w e ∙ ap (λ (l : List ℕ). l ++ w.after) same ∙
    append_assoc head (fence.last ∷ []) w.after in
    let len : length (front ++ (t ++ value w.value [])) ≡ length head + 1 = ap length same ∙
    length-append head (fence.last ∷ []) in
    subst (λ n. IsCharBoundary whole n) (sym len)
    (boundary_past whole head w.after fence.last utf8 whole_is fence.last_ascii)

pub swaps_in_order : (whole front old new : List ℕ) (edits : List (PlacedValue × List ℕ))
    → Swaps literal_of edits old new → IsUtf8 whole → whole ≡ front ++ old → AreEnclosed edits
    → AreInOrder whole (length front) (ranges_of (length whole) edits)
swaps_in_order whole front old new edits (rest t) utf8 e fences = tt
swaps_in_order whole front old new edits (next t w said more now s) utf8 e fences =
    let past = past_value whole front t w e in
    let after = front ++ (t ++ value w.value []) in
    let start = start_behind whole front t w e in
    let end = end_behind whole after w.after past in
    let one = length-append front t in
    let two = length-append front (t ++ value w.value []) in
    let three = length-append t (value w.value []) in (
      omega (arith, start),
      omega (arith, start, end),
      subst (λ n. IsCharBoundary whole n) (sym start) (start_boundary whole front t w e fences.0),
      subst (λ n. IsCharBoundary whole n) (sym end) (end_boundary whole front t w utf8 e fences.0),
      subst (λ n. AreInOrder whole n (ranges_of (length whole) more)) (sym end)
          (swaps_in_order whole after w.after now more s utf8 past fences.1),
    )

-- ---- each begins behind the one before it

abbrev pub Rises : List Range → Type 0
Rises [] = Unit {0}
Rises (r ∷ more) = AllByRecursion (λ q. r.0 < q.0) more × Rises more

-- all begin at this position or behind it
abbrev Behind : ℕ → List Range → Type 0
Behind at ranges = AllByRecursion (λ q. at ≤ q.0) ranges

behind_weaker : (m n : ℕ) (ranges : List Range) → m ≤ n → Behind n ranges → Behind m ranges
behind_weaker m n [] le h = tt
behind_weaker m n (r ∷ more) le h = (omega (arith, h.0), behind_weaker m n more le h.1)

behind_strict : (m n : ℕ) (ranges : List Range) → m < n → Behind n ranges
    → AllByRecursion (λ q. m < q.0) ranges
behind_strict m n [] le h = tt
behind_strict m n (r ∷ more) le h = (omega (arith, h.0), behind_strict m n more le h.1)

some_long : (text : List ℕ) → IsEnclosed text → 0 < length text
some_long text fence = let e = ap length fence.begins in omega arith

rises_from : (whole front old new : List ℕ) (edits : List (PlacedValue × List ℕ))
    → Swaps literal_of edits old new
    → whole ≡ front ++ old → AreEnclosed edits
    → Behind (length front) (ranges_of (length whole) edits) × Rises (ranges_of (length whole) edits)
rises_from whole front old new edits (rest t) e fences = (tt, tt)
rises_from whole front old new edits (next t w said more now s) e fences =
    let past = past_value whole front t w e in
    let after = front ++ (t ++ value w.value []) in
    let start = start_behind whole front t w e in
    let one = length-append front t in
    let two = length-append front (t ++ value w.value []) in
    let three = length-append t (value w.value []) in
    let some = some_long (value w.value []) fences.0 in
    let inner = rises_from whole after w.after now more s past fences.1 in
    let first : length front ≤ start_of (length whole) w = omega (arith, start) in
    let below : start_of (length whole) w < length after = omega (arith, start) in (
      (
        first,
        behind_weaker (length front) (length after) (ranges_of (length whole) more)
            (omega arith) inner.0,
      ),
      (
        behind_strict (start_of (length whole) w) (length after)
            (ranges_of (length whole) more) below inner.0,
        inner.1,
      ),
    )

pub swaps_rise : (whole new : List ℕ) (edits : List (PlacedValue × List ℕ)) → Swaps literal_of edits whole new
    → AreEnclosed edits → Rises (ranges_of (length whole) edits)
swaps_rise whole new edits s fences = (rises_from whole [] whole new edits s refl fences).1
