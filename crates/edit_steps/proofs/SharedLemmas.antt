-- Lists of configurations that inputs share.
use Rattle.std.proofs.Common.{◌≡◌, ◌∙◌, ◌+◌, ◌<◌, ◌++◌, ◌∷◌, [], ℕ, List, Option, Some, zero, suc, ap, arith, length, map, refl, subst, sym, take}
use Rattle.std.specs.Prelude.{All, slice_get, string_bytes}
use Rattle.std.specs.List.{AllZip, cons_option, filter_map}
use Rattle.std.specs.Option.{option_to_list}
use Rattle.std.specs.Global.{Vec}
use Rattle.std.proofs.lemmas.List.{length-append, length-map, length-take-le, map-append}
use Rattle.std.proofs.lemmas.List.Elements.{All-head, All-push, All-tail, filter_map-append}
use Rattle.std.proofs.lemmas.Option.{get_or_from_slice_get, slice_get_within}
use Rattle.std.proofs.lemmas.Slice.Zip.{AllZip-long}
use Rattle.edit_sources.specs.ConfigurationFiles.{AreConfigPaths, AreConfigs, IsReadFrom}
use Rattle.edit_sources.specs.Configured.{paths_of}
use Rattle.edit_sources.specs.declared.config.Config.{Config}
use Rattle.edit_store.specs.Store.{Files}
use Rattle.edit_steps.specs.Named.{AreGathered, Pair, PathAndBytes, list_paths, path_in}
use Rattle.edit_steps.specs.Shared.{AddsList, HasLists, IsListed, IsOfSome, SharesList}
use Rattle.edit_steps.proofs.StandingFiles.{Stands, all_stand}
use Rattle.edit_steps.specs.declared.upgrade_read.shared.SharedConfigs.{SharedConfigs}

-- ---- what a path says of a configuration

one_value : {A : Type 0} (x y : A) → Some x ≡ Some y → x ≡ y
one_value x y h = cc h

-- files that stand are the same where their paths are
same_files : (files : Files) (xs ys : List PathAndBytes) → All (Stands files) xs → All (Stands files) ys
    → map (λ (f : PathAndBytes). f.0) xs ≡ map (λ (f : PathAndBytes). f.0) ys → xs ≡ ys
same_files files [] [] all others e = refl
same_files files [] (y ∷ ys) all others e = cc e
same_files files (x ∷ xs) [] all others e = cc e
same_files files (x ∷ xs) (y ∷ ys) all others e =
    let path : x.0 ≡ y.0 = cc e in
    let tails : map (λ (f : PathAndBytes). f.0) xs ≡ map (λ (f : PathAndBytes). f.0) ys = cc e in
    let bytes : x.1 ≡ y.1 = one_value x.1 y.1 (sym (All-head (Stands files) x xs all) ∙ ap files path
    ∙ All-head (Stands files) y ys others) in
    let header_walk : x ≡ y = ap (λ (p : List ℕ). (p, x.1)) path ∙ ap (λ (b : List ℕ). (y.0, b)) bytes in
    ap (λ (f : PathAndBytes). f ∷ xs) header_walk ∙ ap (λ (fs : List PathAndBytes). y ∷ fs)
    (same_files files xs ys (All-tail (Stands files) x xs all) (All-tail (Stands files) y ys others) tails)

-- the paths of configurations are those of the files that they are read from
read_paths : (fs : List PathAndBytes) (cs : List Config) → AllZip IsReadFrom fs cs
    → paths_of cs ≡ map (λ (f : PathAndBytes). f.0) fs
read_paths [] [] read = refl
read_paths [] (c ∷ cs) read = elim read [ ]
read_paths (f ∷ fs) [] read = elim read [ ]
read_paths (f ∷ fs) (c ∷ cs) read =
    ap (λ (p : List ℕ). p ∷ paths_of cs) read.0.path
    ∙ ap (λ (ps : List (List ℕ)). f.0 ∷ ps) (read_paths fs cs read.1)

-- the configurations of a manifest serve for another one whose configurations have the same files
configs_same : (files : Files) (home : Option (List ℕ)) (one other : List ℕ) (a b : List Config)
    → AreConfigs files one home a → AreConfigs files other home b → paths_of a ≡ paths_of b
    → AreConfigs files other home a
configs_same files home one other a b left right same = record {
  places = right.places;
  searched = right.searched;
  found = right.found;
  stand = right.stand;
  each = subst (λ (fs : List PathAndBytes). AllZip IsReadFrom fs a)
      (same_files files left.found right.found (all_stand files left.places left.found left.stand)
      (all_stand files right.places right.found right.stand)
      (sym (read_paths left.found a left.each) ∙ same ∙ read_paths right.found b right.each)) left.each;
}

-- two joined lists are the same only part by part, where the first parts are as long
parts_same : {A : Type 0} (a b c d : List A) → length a ≡ length c → a ++ b ≡ c ++ d → (a ≡ c) × (b ≡ d)
parts_same [] b [] d long e = (refl, e)
parts_same [] b (y ∷ c) d long e = cc long
parts_same (x ∷ a) b [] d long e = cc long
parts_same {A} (x ∷ a) b (y ∷ c) d long e =
    let header_walk : x ≡ y = cc e in
    let tails : a ++ b ≡ c ++ d = cc e in
    let shorter : length a ≡ length c = cc long in
    let rest = parts_same a b c d shorter tails in
    (ap (λ (z : A). z ∷ a) header_walk ∙ ap (λ (zs : List A). y ∷ zs) rest.0, rest.1)

paths_joined : (a b c : List Config) → paths_of (a ++ (b ++ c)) ≡ paths_of a ++ (paths_of b ++ paths_of c)
paths_joined a b c =
    let path : Config → List ℕ = λ c. string_bytes c.path in
    map-append path a (b ++ c) ∙ ap (λ (ps : List (List ℕ)). paths_of a ++ ps) (map-append path b c)

as_long : {A : Type 0} (R : A → Config → Type 0) (xs : List A) (a b : List Config) → AllZip R xs a
    → AllZip R xs b → length (paths_of a) ≡ length (paths_of b)
as_long R xs a b left right =
    let path : Config → List ℕ = λ c. string_bytes c.path in
    length-map a path ∙ AllZip-long R xs a left ∙ sym (AllZip-long R xs b right) ∙ sym (length-map b path)

-- the list of an input serves for another one whose list has the same files
gathered_same : (files : Files) (home : Option (List ℕ)) (pair : Pair) (one other : List ℕ)
    (a b : List Config) → AreGathered files home pair one a → AreGathered files home pair other b
    → paths_of a ≡ paths_of b → AreGathered files home pair other a
gathered_same files home pair one other a b left right same =
    let whole : paths_of left.before ++ (paths_of left.own ++ paths_of left.behind)
    ≡ paths_of right.before ++ (paths_of right.own ++ paths_of right.behind)
    = sym (paths_joined left.before left.own left.behind) ∙ ap paths_of (sym left.all) ∙ same
    ∙ ap paths_of right.all ∙ paths_joined right.before right.own right.behind in
    let ends = parts_same (paths_of left.before) (paths_of left.own ++ paths_of left.behind)
    (paths_of right.before) (paths_of right.own ++ paths_of right.behind)
    (as_long IsReadFrom (option_to_list pair.first) left.before right.before left.first right.first) whole in
    let behind = as_long IsReadFrom (option_to_list pair.last) left.behind right.behind left.last
    right.last in
    let sums = sym (length-append (paths_of left.own) (paths_of left.behind)) ∙ ap length ends.1
    ∙ length-append (paths_of right.own) (paths_of right.behind) in
    let own = parts_same (paths_of left.own) (paths_of left.behind) (paths_of right.own)
    (paths_of right.behind) (omega (arith, behind, sums)) ends.1 in
    record {
      before = left.before;
      own = left.own;
      behind = left.behind;
      first = left.first;
      read = configs_same files home one other left.own right.own left.read right.read own.0;
      last = left.last;
      all = left.all;
    }

-- ---- one list more

get_front : {A : Type 0} (xs ys : List A) (j : ℕ) → j < length xs → slice_get (xs ++ ys) j ≡ slice_get xs j
get_front [] ys j low = absurd (none j low)
  where
    none : (k : ℕ) → k < 0 → ⊥
    none k h = omega arith
get_front (x ∷ xs) ys zero low = refl
get_front (x ∷ xs) ys (suc j) low = get_front xs ys j (omega (arith, low))

get_behind : {A : Type 0} (xs : List A) (x : A) → slice_get (xs ++ x ∷ []) (length xs) ≡ Some x
get_behind [] x = refl
get_behind (y ∷ ys) x = get_behind ys x

-- the chosen lists stay, where lists are added
chosen_stay : {A : Type 0} (lists more : List A) (which : List ℕ) → All (λ j. j < length lists) which
    → filter_map (slice_get (lists ++ more)) which ≡ filter_map (slice_get lists) which
chosen_stay lists more [] within = refl
chosen_stay {A} lists more (j ∷ js) within =
    ap (λ (o : Option A). cons_option o (filter_map (slice_get (lists ++ more)) js))
    (get_front lists more j (All-head (λ k. k < length lists) j js within))
    ∙ ap (λ (rest : List A). cons_option (slice_get lists j) rest)
    (chosen_stay lists more js (All-tail (λ k. k < length lists) j js within))

-- one more is chosen
chosen_more : {A : Type 0} (lists : List A) (which : List ℕ) (j : ℕ) (x : A) → slice_get lists j ≡ Some x
    → filter_map (slice_get lists) (which ++ j ∷ []) ≡ filter_map (slice_get lists) which ++ x ∷ []
chosen_more {A} lists which j x is =
    filter_map-append (slice_get lists) which (j ∷ [])
    ∙ ap (λ (o : Option A). filter_map (slice_get lists) which ++ cons_option o []) is

pub shares_list : (paths : List (List ℕ)) (list : Vec Config) (old new : SharedConfigs) (j : ℕ)
    → slice_get old.lists.items j ≡ Some list → paths_of list.items ≡ paths
    → new.lists.items ≡ old.lists.items → new.which.items ≡ old.which.items ++ j ∷ []
    → SharesList paths old new
shares_list paths list old new j is same lists which = record {
  list = list;
  has = (
    j,
    slice_get_within old.lists.items j list is,
    get_or_from_slice_get old.lists.items j list list is,
  );
  same = same;
  lists = lists;
  chosen = ap (λ (xs : List (Vec Config)). filter_map (slice_get xs) new.which.items) lists
      ∙ ap (filter_map (slice_get old.lists.items)) which
      ∙ chosen_more old.lists.items old.which.items j list is;
}

pub adds_list : (own : Vec Config) (old new : SharedConfigs) (j : ℕ) → HasLists old
    → j ≡ length old.lists.items → new.lists.items ≡ old.lists.items ++ own ∷ []
    → new.which.items ≡ old.which.items ++ j ∷ [] → AddsList own old new
adds_list own old new j within is lists which = record {
  lists = lists;
  chosen = ap (λ (xs : List (Vec Config)). filter_map (slice_get xs) new.which.items) lists
      ∙ ap (filter_map (slice_get (old.lists.items ++ own ∷ []))) which
      ∙ chosen_more (old.lists.items ++ own ∷ []) old.which.items j own
      (ap (slice_get (old.lists.items ++ own ∷ [])) is ∙ get_behind old.lists.items own)
      ∙ ap (λ (xs : List (Vec Config)). xs ++ own ∷ [])
      (chosen_stay old.lists.items (own ∷ []) old.which.items within);
}

-- ---- lists that are those of manifests

-- a list that is shared is that of the manifest with the same files
pub shared_listed : (files : Files) (home : Option (List ℕ)) (pair : Pair) (manifest : List ℕ)
    (own : List (List ℕ)) (old new : SharedConfigs) → SharesList (list_paths pair own) old new
    → All (IsOfSome files home pair) old.lists.items → AreConfigPaths files manifest home own
    → IsListed files home pair manifest old new
shared_listed files home pair manifest own old new shares all paths =
    let there : IsOfSome files home pair shares.list
    = subst (IsOfSome files home pair) shares.has.2 (all shares.has.0 shares.list shares.has.1) in
    let one = there.1 in
    let other : AreGathered files home pair manifest (one.before ++ (paths.configs ++ one.behind)) = record {
      before = one.before;
      own = paths.configs;
      behind = one.behind;
      first = one.first;
      read = paths.read;
      last = one.last;
      all = refl;
    } in
    let same : paths_of (one.before ++ (paths.configs ++ one.behind)) ≡ list_paths pair own
    = paths_joined one.before paths.configs one.behind
    ∙ ap (λ (ps : List (List ℕ)). ps ++ (paths_of paths.configs ++ paths_of one.behind))
    (read_paths (option_to_list pair.first) one.before one.first)
    ∙ ap (λ (ps : List (List ℕ)). path_in pair.first ++ (ps ++ paths_of one.behind)) (sym paths.all)
    ∙ ap (λ (ps : List (List ℕ)). path_in pair.first ++ (own ++ ps))
    (read_paths (option_to_list pair.last) one.behind one.last) in
    record {
      list = shares.list;
      is = shares.chosen;
      gathered = gathered_same files home pair there.0 manifest shares.list.items
          (one.before ++ (paths.configs ++ one.behind)) one other (shares.same ∙ sym same);
      others = subst (All (IsOfSome files home pair)) (sym shares.lists) all;
    }

-- a new list is that of its manifest
pub added_listed : (files : Files) (home : Option (List ℕ)) (pair : Pair) (manifest : List ℕ) (own : Vec Config)
    (old new : SharedConfigs) → AddsList own old new → All (IsOfSome files home pair) old.lists.items
    → AreGathered files home pair manifest own.items → IsListed files home pair manifest old new
added_listed files home pair manifest own old new adds all gathered = record {
  list = own;
  is = adds.chosen;
  gathered = gathered;
  others = subst (All (IsOfSome files home pair)) (sym adds.lists)
      (All-push (IsOfSome files home pair) old.lists.items own all (manifest, gathered));
}

-- ---- one input more

-- each input so far has an index
pub each_more : {X : Type 0} (inputs : List X) (i : ℕ) (old new : SharedConfigs) → i < length inputs
    → length new.which.items ≡ length old.which.items + 1
    → length old.which.items ≡ length (take i inputs)
    → length new.which.items ≡ length (take (i + 1) inputs)
each_more inputs i old new within more each =
    more ∙ ap (λ n. n + 1) each
    ∙ ap (λ n. n + 1) (length-take-le i inputs (omega (arith, within)))
    ∙ sym (length-take-le (i + 1) inputs (omega (arith, within)))
