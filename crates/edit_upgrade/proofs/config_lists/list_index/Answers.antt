use Rattle.std.proofs.Common.{◌<◌, ◌≡◌, Bor, List, ℕ, Option, Some, arith, get_or, length, refl, subst, sym}
use Rattle.std.specs.Prelude.{option_copied, slice_get}
use Rattle.std.specs.Global.{Vec}
use Rattle.std.proofs.lemmas.Option.{slice_get-get_or}
use Rattle.edit_sources.specs.declared.config.Config.{Config}
use Rattle.edit_upgrade.specs.ConfigLists.{AreIndices, MayBeIndices, lists_by}
use Rattle.edit_upgrade.proofs.ConfigListLemmas.{chosen-at, chosen-length}
use Rattle.edit_upgrade.proofs.config_lists.list_index.Goals as goal

-- an input has a list, by the indices that are given
abbrev IsBelow : List (Vec Config) → ℕ → Option (Bor (List ℕ)) → Type 0
IsBelow lists i which = i < length (lists_by lists (option_copied which))

-- the list of an input is the one at this index
abbrev IsListAt : List (Vec Config) → ℕ → ℕ → Option (Bor (List ℕ)) → Type 0
IsListAt lists i j which = slice_get lists j ≡ slice_get (lists_by lists (option_copied which)) i

-- the indices are those of lists
indices-of : (lists : List (Vec Config)) (o : Option (Bor (List ℕ))) (which : Bor (List ℕ))
    → o ≡ Some which → MayBeIndices lists (option_copied o) → AreIndices lists which.now
indices-of lists o which is may =
    subst (λ (p : Option (Bor (List ℕ))). MayBeIndices lists (option_copied p)) is may

-- an input has an index
index-below : (lists : List (Vec Config)) (i : ℕ) (o : Option (Bor (List ℕ))) (which : Bor (List ℕ))
    → o ≡ Some which → MayBeIndices lists (option_copied o) → IsBelow lists i o → i < length which.now
index-below lists i o which is may below =
    let low : i < length (lists_by lists (Some which.now)) = subst (IsBelow lists i) is below in
    omega (arith, low, chosen-length lists which.now (indices-of lists o which is may))

-- the list at the index of an input is that of the input
list-at : (lists : List (Vec Config)) (i : ℕ) (o : Option (Bor (List ℕ))) (which : Bor (List ℕ))
    → o ≡ Some which → MayBeIndices lists (option_copied o) → IsBelow lists i o
    → IsListAt lists i (get_or which.now i 0) o
list-at lists i o which is may below =
    subst (IsListAt lists i (get_or which.now i 0)) (sym is)
    (sym (chosen-at lists which.now i (get_or which.now i 0) (indices-of lists o which is may)
    (slice_get-get_or which.now i 0 (index-below lists i o which is may below))))

pub shared_index-requires : goal.shared_index-requires
shared_index-requires c =
    index-below c.args.configs.lists.now c.args.i c.args.configs.which c.in-Some.which c.in-Some.is
    c.requires.lists c.requires.within

pub returns-in-Some : goal.returns-in-Some
returns-in-Some c =
    let lists = c.args.configs.lists.now in
    let which = c.in-Some.which in
    let indices = indices-of lists c.args.configs.which which c.in-Some.is c.requires.lists in
    let is = sym c.shared_index.ensures in
    record {
      within = subst (λ (j : ℕ). j < length lists) is (indices c.args.i 0
          (index-below lists c.args.i c.args.configs.which which c.in-Some.is c.requires.lists
          c.requires.within));
      list = subst (λ (j : ℕ). IsListAt lists c.args.i j c.args.configs.which) is
          (list-at lists c.args.i c.args.configs.which which c.in-Some.is c.requires.lists
          c.requires.within);
    }

pub returns-in-None : goal.returns-in-None
returns-in-None c =
    let lists = c.args.configs.lists.now in
    record {
      within = subst (IsBelow lists c.args.i) c.in-None.is c.requires.within;
      list = subst (IsListAt lists c.args.i c.args.i) (sym c.in-None.is) refl;
    }
