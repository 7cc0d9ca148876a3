use Rattle.std.proofs.Common.{◌≡◌, ◌∙◌, false, Some, None, cond, ap, sym, subst}
use Rattle.std.specs.Prelude.{is_some, string_bytes}
use Rattle.std.specs.BTreeMap.{get_by_text}
use Rattle.std.specs.Option.{option_or}
use Rattle.std.specs.Str.{bytes_eq}
use Rattle.std.proofs.lemmas.Map.Text.{btree_map_updates_text}
use Rattle.index_list.specs.EntryLists.{entry_text}
use Rattle.index_list.specs.Listed.{ShownFile, entry_file, file_of_map}
use Rattle.index_list.proofs.ListedLemmas.{file_added}
use Rattle.index_list.proofs.listed_files.add_entry.Goals as goal

pub returns : goal.returns
returns c = λ path.
    let listed = c.args.listed.now in
    let new = c.insert.new.self in
    let key = string_bytes c.in_ok-path.path in
    let out : is_some (get_by_text listed key) ≡ false =
    subst (λ k. is_some (get_by_text listed k) ≡ false) c.as_str.ensures.value
    (sym c.contains_key.ensures ∙ c.if-contains_key.false) in
    let shown : ShownFile = entry_file (entry_text c.args.entry.now) in
    let more = file_added listed new key path _ shown out
    (btree_map_updates_text key listed new _ c.in_ok-insert.ensures.updates path)
    (ap (λ p. record { is_cached = c.args.entry.now.is_cached; path = p }) c.in_ok-from_str.ensures.ok) in
    subst (λ k. file_of_map new path ≡ option_or (file_of_map listed path)
    (cond (bytes_eq k path) (Some shown) None)) c.in_ok-path.ensures.ok more
