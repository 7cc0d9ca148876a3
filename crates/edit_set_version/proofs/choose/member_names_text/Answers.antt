use Rattle.std.proofs.Common.{◌≡◌, ◌∙◌, ℕ, List, [], ◌∷◌, ◌++◌, ap, sym, map, take, rules}
use Rattle.std.specs.Prelude.{codes}
use Rattle.std.specs.List.{join_by}
use Rattle.std.proofs.Math.Seq.{take-length}
use Rattle.std.proofs.lemmas.List.{map_push}
use Rattle.std.proofs.lemmas.Result.{IfOk-weaker}
use Rattle.edit_base.specs.Paths.{texts}
use Rattle.edit_set_version.specs.Chosen.{Member}
use Rattle.edit_set_version.specs.Crates.{member_of, members_of}
use Rattle.edit_set_version.proofs.ChoiceLemmas.{each_more, joined_texts}
use Rattle.edit_set_version.proofs.choose.member_names_text.Goals as goal

pub crates-preserved : goal.crates-preserved
crates-preserved c =
    ap texts c.in_ok-push.ensures.items
    ∙ map_push (λ x. x.now) c.crates.names.items c.as_str.result
    ∙ ap (λ ts. ts ++ c.as_str.result.now ∷ []) c.crates.invariant
    ∙ ap (λ t. map (λ (m : Member). m.name) (members_of
    (take c.crates.found-index c.args.crates.now)) ++ t ∷ [])
    c.as_str.ensures.value
    ∙ sym (each_more (λ (m : Member). m.name) member_of c.args.crates.now c.crates.found-index
    c.found-item.result c.crates-test.true c.found-item.is)

pub returns : goal.returns
returns c = record {
  ok = let all : take c.crates.found-index c.args.crates.now ≡ c.args.crates.now
      = search (rules, take-length c.args.crates.now) in
      IfOk-weaker c.join.result _ _ (λ s joined. joined
      ∙ joined_texts (codes ", ") c.as_slice.result.now
      ∙ ap (λ xs. join_by (λ (t : List ℕ). t) (codes ", ") (texts xs)) c.as_slice.ensures.value
      ∙ ap (join_by (λ (t : List ℕ). t) (codes ", "))
      (c.crates.invariant ∙ ap (λ xs. map (λ (m : Member). m.name) (members_of xs)) all))
      c.join.ensures.ok;
}
