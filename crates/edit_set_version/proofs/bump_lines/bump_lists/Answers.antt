use Rattle.std.proofs.Common.{◌≡◌, ◌∙◌, ◌++◌, ◌∷◌, [], List, ap, map, sym, take}
use Rattle.std.proofs.lemmas.List.{map_push, take_all}
use Rattle.std.specs.Global.{Vec}
use Rattle.edit_set_version.specs.declared.lines.Line.{Line}
use Rattle.edit_set_version.specs.Crates.{bump_view, bumps_view}
use Rattle.edit_set_version.specs.PlanLines.{Reported}
use Rattle.edit_set_version.specs.SetVersioned.{Bump}
use Rattle.edit_set_version.specs.LineViews.{bump_line_view, line_lists_view, line_view}
use Rattle.edit_set_version.proofs.ChoiceLemmas.{each_more}
use Rattle.edit_set_version.proofs.bump_lines.bump_lists.Goals as goal

pub bumps-init : goal.bumps-init
bumps-init c = ap line_lists_view c.in_ok-lists.ensures.items

pub bumps-preserved : goal.bumps-preserved
bumps-preserved c =
    let all = c.args.bumps.now in
    let i = c.bumps.bump-index in
    let own = c.bump-item.result in
    let list = c.push.new.self in
    let tell : Bump → List Reported = λ b. bump_line_view b ∷ [] in
    let lines_are : map line_view list.items ≡ tell (bump_view own)
    = ap (map line_view)
    (c.in_ok-push.ensures.items ∙ ap (λ ls. ls ++ c.in_ok-line.line ∷ []) c.new-list.ensures.items)
    ∙ ap (λ (l : Reported). l ∷ []) c.in_ok-line.ensures.ok in
    ap line_lists_view c.in_ok-push-2.ensures.items
    ∙ map_push (λ (l : Vec Line). map line_view l.items) c.bumps.lists.items list
    ∙ ap (λ (ls : List (List Reported)). ls ++ map line_view list.items ∷ []) c.bumps.invariant
    ∙ ap (λ (l : List Reported). map tell (bumps_view (take i all)) ++ l ∷ []) lines_are
    ∙ sym (each_more tell bump_view all i own c.bumps-test.true c.bump-item.is)

pub returns : goal.returns
returns c = record {
  ok = let tell : Bump → List Reported = λ b. bump_line_view b ∷ [] in
      c.bumps.invariant ∙ ap (λ bs. map tell (bumps_view bs))
      (take_all c.bumps.bump-index c.args.bumps.now c.bumps-test.false);
}
