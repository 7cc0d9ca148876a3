use Rattle.std.proofs.Common.{◌≡◌, ℕ, ◌<◌, List, [], ◌∷◌, ◌++◌, length, take, map, get_or, ap, sym, ◌∙◌, Bor, subst, rules}
use Rattle.std.proofs.lemmas.List.{map-append}
use Rattle.edit_base.specs.Paths.{Named, IsEmptyOrDot}
use Rattle.edit_base.specs.Paths.Named.{none as named_none, drop as named_drop, take as named_take}
use Rattle.edit_base.proofs.PathParts.{part_more}
use Rattle.edit_base.proofs.paths.named_parts.Goals as goal

pub loop-part-init : goal.loop-part-init
loop-part-init c = subst (λ zs. Named [] (map (λ x. x.now) zs)) (sym c.new-names.ensures.items) named_none

pub loop-part-preserved-then-is_empty_or_dot : goal.loop-part-preserved-then-is_empty_or_dot
loop-part-preserved-then-is_empty_or_dot c =
    let d : Bor (List ℕ) = record { ref_ptr = (0, 0); now = [] } in
    let idle : IsEmptyOrDot (get_or c.args.parts.now c.loop-part.part-index d).now = search rules in
    let within : c.loop-part.part-index < length c.args.parts.now = c.loop-part-test.true in
    let one = part_more c.args.parts.now c.loop-part.part-index d within in
    subst (λ ps. Named ps (map (λ x. x.now) c.loop-part.names.items)) (sym one)
    (named_drop _ _ _ c.loop-part.invariant idle)

pub loop-part-preserved : goal.loop-part-preserved
loop-part-preserved c =
    let d : Bor (List ℕ) = record { ref_ptr = (0, 0); now = [] } in
    let busy : IsEmptyOrDot (get_or c.args.parts.now c.loop-part.part-index d).now → ⊥ = search rules in
    let within : c.loop-part.part-index < length c.args.parts.now = c.loop-part-test.true in
    let one = part_more c.args.parts.now c.loop-part.part-index d within in
    let all : map (λ x. x.now) c.push.new.self.items ≡ map (λ x. x.now) c.loop-part.names.items
    ++ (get_or c.args.parts.now c.loop-part.part-index d).now ∷ [] =
    ap (λ xs. map (λ (x : Bor (List ℕ)). x.now) xs) c.in_ok-push.ensures.items
    ∙ map-append (λ (x : Bor (List ℕ)). x.now) c.loop-part.names.items
    (get_or c.args.parts.now c.loop-part.part-index d ∷ []) in
    subst (λ ps. Named ps (map (λ x. x.now) c.push.new.self.items)) (sym one)
    (subst (λ ns. Named (map (λ x. x.now) (take c.loop-part.part-index c.args.parts.now)
    ++ (get_or c.args.parts.now c.loop-part.part-index d).now ∷ []) ns) (sym all)
    (named_take _ _ _ c.loop-part.invariant busy))
