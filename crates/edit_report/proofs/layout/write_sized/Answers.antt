use Rattle.std.proofs.Common.{◌≡◌, ◌∙◌, ◌+◌, ◌<◌, ◌++◌, ◌∷◌, [], List, Option, Some, None, ap, append-nil, append_assoc, get_or, length, sym, take, ℕ}
use Rattle.std.proofs.lemmas.Grind.{flat_map-append}
use Rattle.std.proofs.lemmas.List.{take_more}
use Rattle.std.specs.Io.KnownBytes.{Appends}
use Rattle.std.specs.List.{flat_map}
use Rattle.std.specs.Prelude.{string_bytes}
use Rattle.edit_report.specs.Widths.{cells_of, sized_line}
use Rattle.edit_report.specs.declared.lines.Line.{Line}
use Rattle.edit_report.proofs.layout.write_sized.Goals as goal

-- bytes that are appended one after another are appended together
appended : (old between new : Option (List ℕ)) (xs ys : List ℕ) → Appends old between xs
    → Appends between new ys → Appends old new (xs ++ ys)
appended None between new xs ys first second = tt
appended (Some os) None new xs ys first second = absurd first
appended (Some os) (Some bs) None xs ys first second = absurd second
appended (Some os) (Some bs) (Some ns) xs ys first second =
    second ∙ ap (λ t. t ++ ys) first ∙ append_assoc os xs ys

-- the text of one line more
text_of_more : {A : Type 0} (f : A → List ℕ) (xs : List A) (i : ℕ) (x : A) → i < length xs
    → x ≡ get_or xs i x → flat_map f (take (i + 1) xs) ≡ flat_map f (take i xs) ++ f x
text_of_more f xs i x within is =
    ap (flat_map f) (take_more xs i x within ∙ ap (λ y. take i xs ++ y ∷ []) (sym is))
    ∙ flat_map-append f (take i xs) (x ∷ []) ∙ ap (λ t. flat_map f (take i xs) ++ t) (append-nil (f x))

pub loop-line-preserved : goal.loop-line-preserved
loop-line-preserved g c =
    let before = c.loop-line.invariant in
    let step = c.in_ok-write_full.ensures.bytes in
    let i = c.loop-line.line-index in
    let text : Line → List ℕ = λ line. sized_line c.args.columns.now (cells_of line) in
    let line = text c.line-item.result in
    let more = text_of_more text c.args.lines.now i c.line-item.result c.loop-line-test.true c.line-item.is in (
      before.0 ++ step.0,
      appended (g.W.Write.contents c.args.out.now) (g.W.Write.contents c.loop-line.out)
          (g.W.Write.contents c.write_full.new.out) before.0 step.0 before.1 step.1,
      more ∙ ap (λ t. t ++ line) before.2
          ∙ append_assoc before.0 (string_bytes c.loop-line.text) line
          ∙ ap (λ t. before.0 ++ t) (sym c.in_ok-push_line.ensures.ok ∙ step.2)
          ∙ sym (append_assoc before.0 step.0 (string_bytes c.write_full.new.text)),
    )
