use Rattle.std.proofs.Common.{◌≡◌, ◌++◌, Option, Some, None, refl, sym, ap, ◌∙◌, append-nil}
use Rattle.std.specs.Prelude.{option_to_list}
use Rattle.edit_tree.specs.declared.nodes.DecodedText.{DecodedText}
use Rattle.edit_tree.specs.declared.walk.Walk.{Walk}
use Rattle.edit_tree.proofs.WalkSteps.{awaits}
use Rattle.edit_tree.proofs.walk.Walk.push_key_part.Goals as goal
use Rattle.edit_tree.proofs.walk.Walk.push_key_part.Goals.{in-Some+in_ok-push, in_default}

pub returns : goal.returns
returns c = record {
  goes = λ text st w.
      let old = c.args.self.now in
      let fronts = old.fronts.items in
      elim c.match-take.branch [
        | in-Some+in_ok-push b ↦
            let some : old.name ≡ Some b.in-Some.front = sym c.take.ensures.value ∙ b.in-Some.is in
            awaits old _ st c.args.name w (ap (λ (m : Walk). m.nodes.items) b.self-is)
            (ap (λ (m : Walk). m.tables.items) b.self-is)
            (ap (λ (m : Walk). m.fronts.items) b.self-is ∙ (b.in_ok-push.ensures {u = tt}).items ∙
            ap (λ (o : Option DecodedText). fronts ++ option_to_list o) (sym some)) refl
        | in_default b ↦
            let none : old.name ≡ None = sym c.take.ensures.value ∙ b.in_default.is in
            awaits old _ st c.args.name w (ap (λ (m : Walk). m.nodes.items) b.self-is)
            (ap (λ (m : Walk). m.tables.items) b.self-is)
            (ap (λ (m : Walk). m.fronts.items) b.self-is ∙ sym (append-nil fronts) ∙
            ap (λ (o : Option DecodedText). fronts ++ option_to_list o) (sym none)) refl
      ];
}
