use Rattle.std.proofs.Common.{◌≡◌, ◌∙◌, Some, None, ap, sym, refl, cond, option_map, Option}
use Rattle.std.specs.Prelude.{is_some, string_bytes}
use Rattle.std.specs.BTreeMap.{get_by_text}
use Rattle.std.specs.Str.{bytes_eq}
use Rattle.std.proofs.lemmas.Map.Text.{btree_map_updates_text}
use Rattle.edit_set_version.specs.Folders.{folder_of, folder_at_path, same_folder}
use Rattle.edit_set_version.specs.FolderTexts.{folder_text}
use Rattle.edit_set_version.specs.BumpsByFolder.{numbered_view}
use Rattle.edit_set_version.proofs.FolderSameness.{first_option, names_above, put_first, same_by_text, same_folder_is}
use Rattle.edit_set_version.proofs.ReachedFolders.{named}
use Rattle.edit_set_version.proofs.numbers.add_bump.Goals as goal

is_some_map : {X Y : Type 0} (f : X → Y) (o : Option X) → is_some (option_map f o) ≡ is_some o
is_some_map f None = refl
is_some_map f (Some x) = refl

pub returns-then-contains_key-clause-ok : goal.returns-then-contains_key-clause-ok
returns-then-contains_key-clause-ok c = λ q.
    let own = folder_of c.args.path.now in
    let there = folder_at_path q in
    let text : c.as_str.result.now ≡ folder_text own = c.as_str.ensures.value ∙ c.in_ok-folder.ensures.ok in
    first_option (option_map numbered_view (get_by_text c.args.numbers.now (folder_text there)))
    (same_folder own there) (numbered_view c.args.bump)
    (λ same. is_some_map numbered_view (get_by_text c.args.numbers.now (folder_text there))
    ∙ ap (λ t. is_some (get_by_text c.args.numbers.now (folder_text t))) (sym (same_folder_is own there same))
    ∙ ap (λ t. is_some (get_by_text c.args.numbers.now t)) (sym text)
    ∙ sym c.contains_key.ensures ∙ c.if-contains_key.true)

pub returns-clause-ok : goal.returns-clause-ok
returns-clause-ok c = λ q.
    let own = folder_of c.args.path.now in
    let there = folder_at_path q in
    let text : c.as_str.result.now ≡ folder_text own = c.as_str.ensures.value ∙ c.in_ok-folder.ensures.ok in
    ap (option_map numbered_view)
    (btree_map_updates_text (string_bytes c.in_ok-folder.folder) c.args.numbers.now c.insert.new.self
    (Some c.args.bump) c.in_ok-insert.ensures.updates (folder_text there)
    ∙ ap (λ b. cond b (Some c.args.bump) (get_by_text c.args.numbers.now (folder_text there)))
    (ap (λ t. bytes_eq t (folder_text there)) c.in_ok-folder.ensures.ok
    ∙ same_by_text own there (names_above c.args.path.now) (named q)))
    ∙ put_first numbered_view (get_by_text c.args.numbers.now (folder_text there)) (same_folder own there)
    c.args.bump
    (λ same. ap (λ t. is_some (get_by_text c.args.numbers.now (folder_text t))) (sym
    (same_folder_is own there same))
    ∙ ap (λ t. is_some (get_by_text c.args.numbers.now t)) (sym text)
    ∙ sym c.contains_key.ensures ∙ c.if-contains_key.false)
