-- The files of listed entries.
use Rattle.std.proofs.Common.{◌≡◌, ◌∙◌, ℕ, ◌+◌, ◌<◌, List, [], ◌∷◌, Bool, true, false, cond, Option, Some, None, length, map, take, get_or, refl, ap, sym, subst}
use Rattle.std.specs.Prelude.{String, is_some, option_map}
use Rattle.std.specs.BTreeMap.{BTreeMap, get_by_text}
use Rattle.std.specs.List.{find}
use Rattle.std.specs.Option.{option_or}
use Rattle.std.specs.Str.{bytes_eq}
use Rattle.std.proofs.lemmas.Bool.{false≢true}
use Rattle.std.proofs.lemmas.List.{map_more}
use Rattle.std.proofs.lemmas.List.Folds.{find-append}
use Rattle.std.proofs.lemmas.Slice.Eq.{bytes_eq-Decides}
use Rattle.index_list.specs.EntryLists.{EntryText, entry_text}
use Rattle.index_list.specs.Listed.{ShownFile, entry_file, entry_path, file_of_entries, file_of_map, listed_file}
use Rattle.index_list.specs.declared.entry_list.ListedEntry.{ListedEntry}
use Rattle.index_list.specs.declared.listed_store.ListedFile.{ListedFile}

file_or : (a : Option EntryText) (b : Bool) (e : EntryText)
    → option_map entry_file (option_or a (cond b (Some e) None))
    ≡ option_or (option_map entry_file a) (cond b (Some (entry_file e)) None)
file_or None true e = refl
file_or None false e = refl
file_or (Some x) b e = refl

-- one entry more
pub files_more : (folder : List ℕ) (entries : List ListedEntry) (i : ℕ) (d : ListedEntry) (path : List ℕ)
    (old new : Option ShownFile) → i < length entries
    → old ≡ file_of_entries folder (map entry_text (take i entries)) path
    → new ≡ option_or old (cond (bytes_eq (entry_path folder (entry_text (get_or entries i d))) path)
    (Some (entry_file (entry_text (get_or entries i d)))) None)
    → new ≡ file_of_entries folder (map entry_text (take (i + 1) entries)) path
files_more folder entries i d path old new within so_far is =
    let e = entry_text (get_or entries i d) in
    let test : EntryText → Bool = λ x. bytes_eq (entry_path folder x) path in
    let front = map entry_text (take i entries) in
    is ∙ (ap (λ o. option_or o (cond (test e) (Some (entry_file e)) None)) so_far
    ∙ (sym (file_or (find test front) (test e) e)
    ∙ (ap (option_map entry_file) (sym (find-append test front (e ∷ [])))
    ∙ ap (λ es. option_map entry_file (find test es)) (sym (map_more entry_text entries i d within)))))

-- a file that is added unless there is one
added : (old now : Option ListedFile) (is_here : Bool) (f : ListedFile) (shown : ShownFile)
    → (is_here ≡ true → old ≡ None) → now ≡ cond is_here (Some f) old → listed_file f ≡ shown
    → option_map listed_file now ≡ option_or (option_map listed_file old) (cond is_here (Some shown) None)
added old now true f shown out is same =
    ap (option_map listed_file) is ∙ (ap (λ x. Some x) same
    ∙ sym (ap (λ o. option_or (option_map listed_file o) (Some shown)) (out refl)))
added None now false f shown out is same = ap (option_map listed_file) is
added (Some x) now false f shown out is same = ap (option_map listed_file) is

none_of : (o : Option ListedFile) → is_some o ≡ false → o ≡ None
none_of None h = refl
none_of (Some f) h = absurd (false≢true (sym h))

pub file_added : {Y : Type 0} (listed new : BTreeMap (String Y) ListedFile) (key path : List ℕ)
    (f : ListedFile) (shown : ShownFile) → is_some (get_by_text listed key) ≡ false
    → get_by_text new path ≡ cond (bytes_eq key path) (Some f) (get_by_text listed path)
    → listed_file f ≡ shown
    → file_of_map new path ≡ option_or (file_of_map listed path) (cond (bytes_eq key path) (Some shown) None)
file_added listed new key path f shown out is same =
    added (get_by_text listed path) (get_by_text new path) (bytes_eq key path) f shown
    (λ e. subst (λ k. get_by_text listed k ≡ None) ((bytes_eq-Decides key path).0 e)
    (none_of (get_by_text listed key) out)) is same
