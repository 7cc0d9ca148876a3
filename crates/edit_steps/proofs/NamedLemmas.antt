-- Given configuration files, and the configurations of a manifest with them.
use Rattle.std.proofs.Common.{◌≡◌, ◌∙◌, ◌++◌, ℕ, Global, List, Option, Some, None, String, true, ap, inl, inr, map, refl, subst, sym}
use Rattle.std.proofs.lemmas.List.{append_assoc, map-append}
use Rattle.std.specs.Borrow.{Bor}
use Rattle.std.specs.Prelude.{◌⊎◌, option_copied, option_map, string_bytes}
use Rattle.edit_base.specs.Errors.{IsMemory}
use Rattle.edit_base.specs.declared.errors.DeviceCall.TheVariants as call
use Rattle.edit_base.specs.declared.errors.Error.{Error}
use Rattle.edit_sources.specs.Configuration.{IsMalformedConfig}
use Rattle.edit_sources.specs.ConfigurationFiles.{AreConfigs}
use Rattle.edit_sources.specs.Configured.{IsConfigErrorAt}
use Rattle.edit_sources.specs.declared.config.Config.{Config}
use Rattle.edit_store.specs.Store.{Files, OnlyReads, IsCallError, StoreView}
use Rattle.edit_steps.proofs.ReadLemmas.{before, refused_on}
use Rattle.edit_steps.specs.RequestView.{RequestView}
use Rattle.edit_steps.specs.Causes.{LacksNamed}
use Rattle.edit_steps.specs.Named.{AreGathered, AreConfigsIn, HasNoFile, IsUnreadFile, Pair, PathAndBytes, path_and_bytes, path_in, given_file_view}
use Rattle.edit_steps.specs.declared.upgrade_read.named.NamedFile.{NamedFile}

-- a borrowed file is seen as the file is
pub seen_copied : (file : Option (Bor NamedFile))
    → given_file_view file ≡ option_map path_and_bytes (option_copied file)
seen_copied None = refl
seen_copied (Some there) = refl

-- the same, of a file that another one is borrowed of
pub seen_of : (file : Option (Bor NamedFile)) (whole : Option NamedFile) → option_copied file ≡ whole
    → given_file_view file ≡ option_map path_and_bytes whole
seen_of file whole is = seen_copied file ∙ ap (option_map path_and_bytes) is

-- a file that is no configuration
pub unread_said : (file : Option (Bor NamedFile)) (there : Bor NamedFile) (path bytes : List ℕ) (e : Error)
    → file ≡ Some there → path ≡ string_bytes there.now.path → bytes ≡ there.now.bytes.items
    → IsMemory e ⊎ (IsConfigErrorAt path e × IsMalformedConfig bytes)
    → IsMemory e ⊎ IsUnreadFile (given_file_view file) e
unread_said file there path bytes e is named holds (inl memory) = inl memory
unread_said file there path bytes e is named holds (inr (names, nothing)) =
    inr (subst (λ f. IsUnreadFile (given_file_view f) e) (sym is) (record {
      named = subst (λ p. IsConfigErrorAt p e) named names;
      nothing = subst IsMalformedConfig holds nothing;
    }))

-- the second file that is named is not there
pub last_lacks : (old mid new : StoreView) (current : List ℕ) (asking : RequestView) (e : Error)
    → OnlyReads old mid → IsCallError call.Read mid new e
    ⊎ (mid.tells ≡ true → HasNoFile mid.file_at current asking.default_config e)
    → IsCallError call.Read old new e ⊎ (old.tells ≡ true → LacksNamed old.file_at current asking e)
last_lacks old mid new current asking e reads (inl refused) =
    inl (refused_on call.Read old mid new e reads refused)
last_lacks old mid new current asking e reads (inr lacks) = inr (λ t. inr
    (before (λ files. HasNoFile files current asking.default_config e) old mid reads lacks t))

-- the configurations of a manifest, one list after another
pub gathered : (files : Files) (home : Option (List ℕ)) (pair : Pair) (manifest : List ℕ)
    (first own last both all : List Config) (f l : Option PathAndBytes) → f ≡ pair.first → l ≡ pair.last
    → AreConfigsIn f first → AreConfigs files manifest home own → AreConfigsIn l last
    → both ≡ first ++ own → all ≡ both ++ last → AreGathered files home pair manifest all
gathered files home pair manifest first own last both all f l is_first is_last said read behind one two =
    record {
      before = first;
      own = own;
      behind = last;
      first = subst (λ x. AreConfigsIn x first) is_first said;
      read = read;
      last = subst (λ x. AreConfigsIn x last) is_last behind;
      all = two ∙ ap (λ xs. xs ++ last) one ∙ append_assoc first own last;
    }

-- the paths of a list, one part after another
pub paths_listed : (first own last both all : List (String Global)) (f l : Option (Bor NamedFile))
    (whole last_whole : Option NamedFile) → option_copied f ≡ whole → option_copied l ≡ last_whole
    → map string_bytes first ≡ path_in (given_file_view f)
    → map string_bytes last ≡ path_in (given_file_view l)
    → both ≡ first ++ own → all ≡ both ++ last
    → map string_bytes all ≡ path_in (option_map path_and_bytes whole)
    ++ (map string_bytes own ++ path_in (option_map path_and_bytes last_whole))
paths_listed first own last both all f l whole last_whole is_first is_last said behind one two =
    ap (map string_bytes) two ∙ map-append string_bytes both last
    ∙ ap (λ ps. ps ++ map string_bytes last)
    (ap (map string_bytes) one ∙ map-append string_bytes first own)
    ∙ append_assoc (map string_bytes first) (map string_bytes own) (map string_bytes last)
    ∙ ap (λ ps. ps ++ (map string_bytes own ++ map string_bytes last))
    (said ∙ ap path_in (seen_of f whole is_first))
    ∙ ap (λ ps. path_in (option_map path_and_bytes whole) ++ (map string_bytes own ++ ps))
    (behind ∙ ap path_in (seen_of l last_whole is_last))
