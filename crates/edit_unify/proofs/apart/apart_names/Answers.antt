use Rattle.std.proofs.Common.{◌≡◌, ◌∙◌, Option, arith, ap, map, option_map, rules, string_bytes, sym}
use Rattle.std.specs.BTreeSet.{contains_text}
use Rattle.std.specs.List.{filter_map, list_any}
use Rattle.std.specs.Str.{bytes_eq}
use Rattle.std.proofs.lemmas.List.{take_all}
use Rattle.edit_unify.specs.Apart.{apart_names}
use Rattle.edit_unify.specs.Firsts.{caret_for, first_caret, other_name}
use Rattle.edit_unify.specs.Stands.{Required, stand_view}
use Rattle.edit_unify.specs.declared.stands.Stand.{Stand}
use Rattle.edit_unify.proofs.ApartLemmas.{set_more, set_same, text_any}
use Rattle.edit_unify.proofs.NameLemmas.{other_names}
use Rattle.edit_unify.proofs.apart.apart_names.Goals as goal
use Rattle.edit_unify.proofs.apart.apart_names.Goals.{in-Some+in_ok-add_name, in_default}

pub stands-preserved : goal.stands-preserved
stands-preserved c =
    let xs = c.deref-own-items.result.now in
    let view : Option Stand → Option Required = option_map stand_view in
    let found = other_name (caret_for c.in_ok-firsts.firsts) in
    elim c.match-other_name.branch [
      | in-Some+in_ok-add_name w ↦ λ q. ap (λ s. contains_text s q) w.names-is
          ∙ set_more view found xs c.stands.own-index _ w.in-Some.name.now c.stands-test.true
          (sym c.other_name.ensures ∙ ap (option_map (λ name. name.now)) w.in-Some.is)
          (contains_text c.stands.names) (contains_text w.add_name.new.names) c.stands.invariant
          w.in_ok-add_name.ensures.ok q
      | in_default w ↦ λ q. ap (λ s. contains_text s q) w.names-is
          ∙ set_same view found xs c.stands.own-index _ c.stands-test.true
          (sym c.other_name.ensures ∙ ap (option_map (λ name. name.now)) w.in_default.is)
          (contains_text c.stands.names) c.stands.invariant q
    ]

pub returns-clause-names : goal.returns-clause-names
returns-clause-names c =
    let xs = c.deref-own-items.result.now in
    let view : Option Stand → Option Required = option_map stand_view in
    let same = c.deref.ensures.value ∙ sym c.deref-own-items.ensures.value in
    record {
      ordered = search rules;
      each = λ name.
          let keys : c.in_ok-names.names.items ≡ c.stands.names.keys = search rules in
          let whole = take_all c.stands.own-index xs (omega (arith, c.stands-test.false)) in
          ap (λ ks. list_any (bytes_eq name) (map string_bytes ks)) keys ∙ text_any name c.stands.names.keys
          ∙ c.stands.invariant name
          ∙ ap (λ ys. list_any (bytes_eq name) (filter_map (other_name (caret_for c.in_ok-firsts.firsts))
          (map view ys))) whole
          ∙ (λ i. list_any (bytes_eq name)
          (filter_map (other_name (λ krate. c.in_ok-firsts.ensures krate i)) (map view xs)))
          ∙ ap (λ ys. list_any (bytes_eq name) (filter_map (other_name (first_caret (map view ys)))
          (map view xs))) same
          ∙ other_names name (map view xs)
          ∙ ap (λ stands. list_any (bytes_eq name) (apart_names stands))
          (ap (map view) c.deref-own-items.ensures.value ∙ c.in_ok-stands.ensures.stands);
    }
