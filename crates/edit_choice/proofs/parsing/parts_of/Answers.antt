use Rattle.std.proofs.Common.{◌≡◌, ◌<◌, ◌+◌, ◌++◌, ◌∷◌, ◌∙◌, [], Bor, List, ℕ, ap, arith, get_or, length, map, refl, sym}
use Rattle.std.proofs.lemmas.List.{map_push}
use Rattle.std.proofs.lemmas.Str.{IsCharBoundary-start}
use Rattle.edit_choice.specs.ChoiceTexts.{is_separator, parts_from}
use Rattle.edit_choice.proofs.PartLemmas.{ArePartsSoFar, byte_more, part_more, part_none, same_parts}
use Rattle.edit_choice.proofs.parsing.parts_of.Goals as goal
use Rattle.edit_choice.proofs.parsing.parts_of.Goals.{then-is_separator, then-start-i+in_ok-push, else-start-i, else-is_separator}

pub bytes-init : goal.bytes-init
bytes-init c = record {
  parts = ap (λ xs. map (λ part. part.now) xs ++ parts_from [] c.args.text.now) c.new-parts.ensures.items;
  order = omega arith;
  boundary = IsCharBoundary-start c.args.text.now c.utf8.text;
}

pub bytes-preserved : goal.bytes-preserved
bytes-preserved c =
    let text = c.args.text.now in
    let i = c.bytes.i in
    let now : Bor (List ℕ) → List ℕ = λ part. part.now in
    let so_far = map now c.bytes.parts.items in
    let lt : i < length text = omega arith in
    let test : c.is_separator.result ≡ is_separator (get_or text i 0) =
    c.is_separator.ensures ∙ ap (λ bs. is_separator (get_or bs i 0)) c.as_bytes-b-items.ensures.value in
    let are : ArePartsSoFar text so_far c.bytes.start i = record {
      all = c.bytes.invariant.parts;
      order = c.bytes.invariant.order;
      boundary = c.bytes.invariant.boundary;
    } in
    let next : ArePartsSoFar text (map now c.if-is_separator.parts.items) c.if-is_separator.start (i + 1) =
    elim c.if-is_separator.branch [
      | then-is_separator w ↦ elim w.if-start-i.branch [
        | then-start-i+in_ok-push w' ↦
            same_parts text _ _ _ _ (i + 1)
            (ap (λ v. map now v.items) (w.parts-is ∙ w'.parts-is) ∙ ap (map now) w'.in_ok-push.ensures.items
            ∙ map_push now c.bytes.parts.items w'.range.result
            ∙ ap (λ part. so_far ++ part ∷ []) w'.range.ensures.value) w.start-is
            (part_more text so_far c.bytes.start i c.utf8.text w'.if-start-i.true lt
            (sym test ∙ w.if-is_separator.true) are)
        | else-start-i w' ↦
            same_parts text _ _ _ _ (i + 1) (ap (λ v. map now v.items) (w.parts-is ∙ w'.parts-is)) w.start-is
            (part_none text so_far c.bytes.start i c.utf8.text w'.if-start-i.false lt
            (sym test ∙ w.if-is_separator.true) are)
      ]
      | else-is_separator w ↦
          same_parts text _ _ _ _ (i + 1) (ap (λ v. map now v.items) w.parts-is) w.start-is
          (byte_more text so_far c.bytes.start i lt (sym test ∙ w.if-is_separator.false) are)
    ] in
    record { parts = next.all; order = next.order; boundary = next.boundary }
