use Rattle.std.proofs.Common.{◌≡◌, ◌∙◌, ◌+◌, List, [], ◌∷◌, ◌++◌, Some, None, ap, sym, refl, take, length, length-take-le, rules}
use Rattle.std.specs.Option.{option_or}
use Rattle.std.specs.Prelude.{if◌then◌else◌}
use Rattle.std.proofs.lemmas.List.{length-map, map_more}
use Rattle.std.proofs.Math.Seq.{take-length}
use Rattle.edit_set_version.specs.Crates.{bump_view, bumps_view}
use Rattle.edit_set_version.specs.Folders.{folder_of, folder_at_path, same_folder}
use Rattle.edit_set_version.specs.BumpsByFolder.{first_in}
use Rattle.edit_set_version.specs.SetVersioned.{Bump}
use Rattle.edit_set_version.proofs.NumberLemmas.{first_more}
use Rattle.edit_set_version.proofs.numbers.index_bumps.Goals as goal

pub bumps-preserved : goal.bumps-preserved
bumps-preserved c = λ q.
    let n = c.bumps.number in
    let old = bumps_view (take n c.args.bumps.now) in
    let own = bump_view c.index-bumps-number.result in
    let more : bumps_view (take (n + 1) c.args.bumps.now) ≡ old ++ own ∷ []
    = map_more bump_view c.args.bumps.now n c.index-bumps-number.result c.bumps-test.true
    ∙ ap (λ b. old ++ bump_view b ∷ []) (sym c.index-bumps-number.is) in
    let long : length old ≡ n =
    length-map (take n c.args.bumps.now) bump_view
    ∙ length-take-le n c.args.bumps.now c.bumps.auto.number-end in
    c.in_ok-add_bump.ensures.ok q
    ∙ ap (λ o. option_or o (if same_folder (folder_of c.as_str-path.result.now) (folder_at_path q)
    then Some (n, own.next) else None)) (c.bumps.invariant q)
    ∙ ap (λ p. option_or (first_in old (folder_at_path q)) (if same_folder (folder_of p) (folder_at_path q)
    then Some (n, own.next) else None)) c.as_str-path.ensures.value
    ∙ ap (λ m. option_or (first_in old (folder_at_path q)) (if same_folder (folder_of own.member.path) (folder_at_path q)
    then Some (m, own.next) else None)) (sym long)
    ∙ sym (first_more old own (folder_at_path q))
    ∙ ap (λ (bs : List Bump). first_in bs (folder_at_path q)) (sym more)

pub bumps-init : goal.bumps-init
bumps-init c = λ q. rw c.new-numbers.ensures.empty refl

pub returns-clause-ok : goal.returns-clause-ok
returns-clause-ok c = λ q.
    let all : take c.bumps.number c.args.bumps.now ≡ c.args.bumps.now
    = search (rules, take-length c.args.bumps.now) in
    c.bumps.invariant q ∙ ap (λ bs. first_in (bumps_view bs) (folder_at_path q)) all
