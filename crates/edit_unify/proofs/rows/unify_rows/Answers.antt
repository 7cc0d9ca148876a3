use Rattle.std.proofs.Common.{◌≡◌, ◌∷◌, [], ◌++◌, ◌∙◌, ap, length, map, option_map, refl, rules, string_bytes, subst, sym}
use Rattle.std.specs.List.{AllZip, zip}
use Rattle.std.specs.Iterator.Adapters.{zip_first, zip_second}
use Rattle.std.proofs.lemmas.Iterator.{YieldsList-from_zip}
use Rattle.std.proofs.lemmas.Iterator.Adapters.{YieldsList-from_vec}
use Rattle.std.proofs.lemmas.Iterator.Consumers.{YieldsList-end}
use Rattle.std.proofs.lemmas.List.{length-map}
use Rattle.std.proofs.lemmas.Slice.Zip.{all_zipped_more}
use Rattle.edit_version.specs.Levels.{level_of}
use Rattle.edit_unify.specs.Stands.{stands_of}
use Rattle.edit_unify.specs.Unified.{taken_texts}
use Rattle.edit_unify.proofs.OneTextLemmas.{one_text}
use Rattle.edit_unify.proofs.UnifyLemmas.{IsTurn, IsTurnBy, pairs_same, unified_each}
use Rattle.edit_unify.proofs.rows.unify_rows.Goals as goal
use Rattle.edit_unify.proofs.rows.unify_rows.Goals.{in-Some-text, in-None-text}

pub rows-preserved : goal.rows-preserved
rows-preserved c =
    let row = c.in-Some.row in
    let turn : IsTurnBy c.in-Some.text row c.match-text.row = elim c.match-text.branch [
      | in-Some-text w ↦
          subst (λ a. IsTurnBy c.in-Some.text row a) (sym w.row-is)
          (subst (λ t. IsTurnBy t row w.with_text-row.result) (sym w.in-Some-text.is) w.with_text-row.ensures)
      | in-None-text w ↦
          subst (λ a. IsTurnBy c.in-Some.text row a) (sym w.row-is)
          (subst (λ t. IsTurnBy t row row) (sym w.in-None-text.is) refl)
    ] in
    subst (λ ys. AllZip IsTurn (c.rows.yielded ++ (row, c.in-Some.text) ∷ []) ys)
    (sym c.in_ok-push.ensures.items)
    (all_zipped_more IsTurn c.rows.yielded c.rows.unified.items (row, c.in-Some.text) c.match-text.row
    c.rows.invariant turn)

pub returns-clause-rows : goal.returns-clause-rows
returns-clause-rows c =
    let from = c.into_iter-row-iterator.result in
    let all = YieldsList-from_zip {s = from}
    (YieldsList-from_vec {s = zip_first from} c.args.rows.items (search rules) (search rules))
    (YieldsList-from_vec {s = zip_second from} c.in_ok-texts.texts.items (search rules) (search rules)) in
    let t = YieldsList-end all c.rows.yielded c.rows.row-iterator c.rows.yielded_by
    c.next.result c.next.new.self c.in-None.is c.next.ensures.steps in
    let same : c.rows.yielded ≡ zip c.args.rows.items c.in_ok-texts.texts.items =
    sym (pairs_same c.rows.yielded) ∙ t.0 in
    let addresses = map (option_map string_bytes) c.args.addresses.now in
    let len : length addresses ≡ length c.args.rows.items =
    length-map c.args.addresses.now (option_map string_bytes) ∙ c.requires in
    unified_each (level_of c.args.levels) (stands_of addresses c.args.rows.items) addresses c.args.rows.items
    c.in_ok-texts.texts.items c.rows.unified.items len (λ x has. has)
    (c.in_ok-texts.ensures.texts
    ∙ ap (λ rows. taken_texts (level_of c.args.levels) (stands_of addresses rows)) c.deref.ensures.value)
    (subst (λ xs. AllZip IsTurn xs c.rows.unified.items) same c.rows.invariant)

pub returns-clause-one : goal.returns-clause-one
returns-clause-one c =
    let from = c.into_iter-row-iterator.result in
    let all = YieldsList-from_zip {s = from}
    (YieldsList-from_vec {s = zip_first from} c.args.rows.items (search rules) (search rules))
    (YieldsList-from_vec {s = zip_second from} c.in_ok-texts.texts.items (search rules) (search rules)) in
    let t = YieldsList-end all c.rows.yielded c.rows.row-iterator c.rows.yielded_by
    c.next.result c.next.new.self c.in-None.is c.next.ensures.steps in
    let same : c.rows.yielded ≡ zip c.args.rows.items c.in_ok-texts.texts.items =
    sym (pairs_same c.rows.yielded) ∙ t.0 in
    let addresses = map (option_map string_bytes) c.args.addresses.now in
    one_text (level_of c.args.levels) addresses c.args.rows.items
    c.in_ok-texts.texts.items c.rows.unified.items
    (c.in_ok-texts.ensures.texts
    ∙ ap (λ rows. taken_texts (level_of c.args.levels) (stands_of addresses rows)) c.deref.ensures.value)
    (subst (λ xs. AllZip IsTurn xs c.rows.unified.items) same c.rows.invariant)
