use Rattle.std.proofs.Common.{◌≡◌, ℕ, ◌<◌, List, [], ◌∷◌, ◌++◌, length, map, get_or, ap, sym, ◌∙◌, arith, Bor, refl, subst, Option, Some, None, rules}
use Rattle.std.specs.Prelude.{codes}
use Rattle.std.specs.Option.{option_to_list}
use Rattle.std.proofs.lemmas.List.{map-append}
use Rattle.std.proofs.lemmas.Grind.{common_steps}
use Rattle.edit_base.specs.Paths.{Normal, IsEmptyOrDot, IsName}
use Rattle.edit_base.specs.Paths.Normal.{root, skip, keep, back, stay}
use Rattle.edit_base.proofs.PathParts.{part_more}
use Rattle.edit_base.proofs.paths.collapsed_names.Goals as goal
use Rattle.edit_base.proofs.paths.collapsed_names.Goals.{then-eq, else-eq+in_ok-push}

-- what a `..` leaves
popped : (ps : List (List ℕ)) (old new : List (Bor (List ℕ))) (r : Option (Bor (List ℕ)))
    → Normal ps (map (λ x. x.now) old) → old ≡ new ++ option_to_list r → (r ≡ None → length old ≡ 0)
    → Normal (ps ++ codes ".." ∷ []) (map (λ x. x.now) new)
popped ps [] [] None n e h = stay ps n
popped ps [] (x ∷ new) None n e h = cc
popped ps (x ∷ old) new None n e h = absurd (let z : length (x ∷ old) ≡ 0 = h refl in omega arith)
popped ps old new (Some q) n e h =
    let last = map-append (λ (x : Bor (List ℕ)). x.now) new (q ∷ []) in
    let same_names : map (λ x. x.now) old ≡ map (λ x. x.now) new ++ q.now ∷ [] = ap (λ xs. map (λ x. x.now) xs) e
    ∙ last in
    back ps (map (λ x. x.now) new) q.now (subst (λ qs. Normal ps qs) same_names n)

pub loop-part-init : goal.loop-part-init
loop-part-init c = subst (λ zs. Normal [] (map (λ x. x.now) zs)) (sym c.new-names.ensures.items) root

pub loop-part-preserved-then-is_empty_or_dot : goal.loop-part-preserved-then-is_empty_or_dot
loop-part-preserved-then-is_empty_or_dot c =
    let d : Bor (List ℕ) = record { ref_ptr = (0, 0); now = [] } in
    let none : IsEmptyOrDot (get_or c.args.parts.now c.loop-part.part-index d).now = search rules in
    let within : c.loop-part.part-index < length c.args.parts.now = c.loop-part-test.true in
    let one = part_more c.args.parts.now c.loop-part.part-index d within in
    subst (λ ps. Normal ps (map (λ x. x.now) c.loop-part.names.items)) (sym one)
    (skip _ _ _ c.loop-part.invariant none)

pub loop-part-preserved : goal.loop-part-preserved
loop-part-preserved c =
    let d : Bor (List ℕ) = record { ref_ptr = (0, 0); now = [] } in
    let part : Bor (List ℕ) = get_or c.args.parts.now c.loop-part.part-index d in
    let within : c.loop-part.part-index < length c.args.parts.now = c.loop-part-test.true in
    let one = part_more c.args.parts.now c.loop-part.part-index d within in
    subst (λ ps. Normal ps (map (λ x. x.now) c.if-eq.names.items)) (sym one)
    (elim c.if-eq.branch [
      | then-eq w ↦
          let two : part.now ≡ codes ".." = search rules in
          let none : w.pop.result ≡ None → length c.loop-part.names.items ≡ 0 =
          λ e. grind (arith, common_steps) in
          let left = popped _ c.loop-part.names.items w.pop.new.self.items w.pop.result c.loop-part.invariant
          w.pop.ensures.items none in
          rw (two, w.names-is) left
      | else-eq+in_ok-push w ↦
          let named : IsName part.now = record {
            some = search rules;
            own = search rules;
            below = search rules;
          } in
          let all = map-append (λ (x : Bor (List ℕ)). x.now) c.loop-part.names.items (part ∷ []) in
          let pushed : c.if-eq.names.items ≡ c.loop-part.names.items ++ part ∷ [] = search rules in
          rw (pushed, all) (keep _ _ _ c.loop-part.invariant named)
    ])
