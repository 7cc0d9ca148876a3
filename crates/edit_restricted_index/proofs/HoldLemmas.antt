-- What a policy says of crates, by name.
use Rattle.std.proofs.Common.{◌≡◌, ◌∷◌, [], ◌++◌, ◌+◌, ◌<◌, ◌∙◌, ℕ, zero, suc, Bool, List, Bor, None, Option, Some, ap, append-nil, arith, false, filter, get_or, length, refl, string_bytes, sym, take, true}
use Rattle.std.specs.Prelude.{◌==◌, ◌&&◌, ◌||◌, Vec, if◌then◌else◌, is_some, not}
use Rattle.std.specs.BTreeMap.{UpdatesBy, get_by}
use Rattle.std.specs.Cmp.Lexicographic.{slice_cmp}
use Rattle.std.specs.List.{list_all, list_any}
use Rattle.std.specs.Option.{option_map_or}
use Rattle.std.specs.Ordering.{nat_cmp}
use Rattle.std.specs.Str.{bytes_eq}
use Rattle.std.specs.declared.alloc.Global.{Global}
use Rattle.std.proofs.lemmas.List.{take_more}
use Rattle.std.proofs.lemmas.List.Elements.{filter-append}
use Rattle.std.proofs.lemmas.Map.Text.{btree_map_updates_str}
use Rattle.std.proofs.lemmas.Slice.Eq.{bytes_eq-Decides}
use mathlib.Core.Path.{fun_ext}
use Rattle.edit_policy.specs.Holds.{admits_text, has_hold, passes_hold, passes_holds}
use Rattle.edit_policy.specs.declared.policy.CratePolicy.{CratePolicy}
use Rattle.edit_version.specs.Requirement.{comparators_of}
use Rattle.edit_restricted_index.specs.HoldsByName.{HoldMap, IsHoldMap, IsWithout, passes_map, policies_of, said_of}
use Rattle.edit_restricted_index.specs.Restrictions.{VersionTest, hold_test}

-- ---- lists

all_step : {X : Type 0} (p : X → Bool) (x : X) (xs ys : List X) (b : Bool) → (b ≡ false → p x ≡ true)
    → list_all p ys ≡ list_all p xs → list_all p (if b then x ∷ ys else ys) ≡ (p x && list_all p xs)
all_step p x xs ys true none same = ap (λ r. p x && r) same
all_step p x xs ys false none same = same ∙ sym (ap (λ r. r && list_all p xs) (none refl))

-- elements that pass may be left out
all_filter : {X : Type 0} (p test : X → Bool) (xs : List X) → ((x : X) → test x ≡ false → p x ≡ true)
    → list_all p (filter test xs) ≡ list_all p xs
all_filter p test [] none = refl
all_filter p test (x ∷ xs) none =
    all_step p x xs (filter test xs) (test x) (none x) (all_filter p test xs none)

or_true : (a : Bool) → (a || true) ≡ true
or_true true = refl
or_true false = refl

or_false : (a : Bool) → (a || false) ≡ a
or_false true = refl
or_false false = refl

and_false : (a : Bool) → (a && false) ≡ false
and_false true = refl
and_false false = refl

any_at : (p : CratePolicy → Bool) (said : List (Bor CratePolicy)) (i : ℕ) (x d : Bor CratePolicy)
    → i < length said → x ≡ get_or said i d → p x.now ≡ true → list_any p (policies_of said) ≡ true
any_at p [] i x d lt is holds = absurd (omega (arith, lt))
any_at p (y ∷ said) zero x d lt is holds =
    ap (λ b. b || list_any p (policies_of said)) (ap (λ (z : Bor CratePolicy). p z.now) (sym is) ∙ holds)
any_at p (y ∷ said) (suc i) x d lt is holds =
    ap (λ b. p y.now || b) (any_at p said i x d (omega (arith, lt)) is holds) ∙ or_true (p y.now)

all_at : (p : CratePolicy → Bool) (said : List (Bor CratePolicy)) (i : ℕ) (x d : Bor CratePolicy)
    → i < length said → x ≡ get_or said i d → p x.now ≡ false → list_all p (policies_of said) ≡ false
all_at p [] i x d lt is none = absurd (omega (arith, lt))
all_at p (y ∷ said) zero x d lt is none =
    ap (λ b. b && list_all p (policies_of said)) (ap (λ (z : Bor CratePolicy). p z.now) (sym is) ∙ none)
all_at p (y ∷ said) (suc i) x d lt is none =
    ap (λ b. p y.now && b) (all_at p said i x d (omega (arith, lt)) is none) ∙ and_false (p y.now)

-- a list that is not empty has an element
pub has_element : (crates : List CratePolicy) (b : Bool) → b ≡ (length crates == 0) → b ≡ false
    → 0 < length crates
has_element [] b is some = cc (is, some)
has_element (c ∷ cs) b is some = omega arith

-- ---- what is said of a crate

-- one of the things said is a hold
pub hold_at : (name : List ℕ) (said : List (Bor CratePolicy)) (i : ℕ) (x d : Bor CratePolicy) → i < length said
    → x ≡ get_or said i d → has_hold (x.now ∷ []) name ≡ true → has_hold (policies_of said) name ≡ true
hold_at name said i x d lt is held =
    any_at (λ c. bytes_eq (string_bytes c.name) name && is_some c.hold) said i x d lt is
    (sym (or_false (bytes_eq (string_bytes x.now.name) name && is_some x.now.hold)) ∙ held)

and_true : (a : Bool) → (a && true) ≡ a
and_true true = refl
and_true false = refl

-- one of the things said does not admit a version
pub excluded_at : (name version : List ℕ) (said : List (Bor CratePolicy)) (i : ℕ) (x d : Bor CratePolicy)
    → i < length said → x ≡ get_or said i d → passes_holds (x.now ∷ []) name version ≡ false
    → passes_holds (policies_of said) name version ≡ false
excluded_at name version said i x d lt is excluded =
    all_at (λ c. passes_hold c name version) said i x d lt is
    (sym (and_true (passes_hold x.now name version)) ∙ excluded)

-- ---- maps

passes_other : (b x : Bool) → b ≡ false → (not b || x) ≡ true
passes_other true x other = cc other
passes_other false x other = refl

-- what is said of crates of other names admits a version
said_passes : (crates : List CratePolicy) (name version : List ℕ)
    → passes_holds (filter (λ c. bytes_eq (string_bytes c.name) name) crates) name version
    ≡ passes_holds crates name version
said_passes crates name version =
    all_filter {X = CratePolicy} (λ c. passes_hold c name version) (λ c. bytes_eq (string_bytes c.name) name) crates
    (λ c other. passes_other (bytes_eq (string_bytes c.name) name)
    (option_map_or (λ hold. admits_text (comparators_of hold.requirement) version) c.hold true) other)

-- a map of what is said of some crates is their test
pub map_test : (crates : List CratePolicy) (holds : HoldMap) → 0 < length crates → IsHoldMap crates holds
    → Some (passes_map holds) ≡ hold_test crates
map_test [] holds some is = absurd (omega (arith, some))
map_test (c ∷ cs) holds some is = ap (λ (t : VersionTest). Some t) (fun_ext (λ name. fun_ext (λ version.
    ap (λ said. passes_holds said name version) (is name) ∙ said_passes (c ∷ cs) name version)))

-- what is said of one more crate
pub said_more : (crates : List CratePolicy) (i : ℕ) (c d : CratePolicy) (old new : HoldMap) → i < length crates
    → c ≡ get_or crates i d → IsHoldMap (take i crates) old
    → ((name : List ℕ) → said_of new name
    ≡ said_of old name ++ (if bytes_eq (string_bytes c.name) name then c ∷ [] else []))
    → IsHoldMap (take (i + 1) crates) new
said_more crates i c d old new lt is so_far added = λ name.
    let test : CratePolicy → Bool = λ x. bytes_eq (string_bytes x.name) name in
    added name ∙ ap (λ said. said ++ (if test c then c ∷ [] else [])) (so_far name)
    ∙ sym (filter-append test (take i crates) (c ∷ []))
    ∙ ap (λ (x : CratePolicy). filter test (take i crates ++ x ∷ [])) is
    ∙ ap (filter test) (sym (take_more crates i d lt))

-- where a map loses a name, each other name has the same policies as before
pub others_stay : (name : List ℕ) (old new : HoldMap)
    → UpdatesBy (λ (x y : Bor (List ℕ)). slice_cmp nat_cmp x.now y.now)
    (λ (k : Bor (List ℕ)). slice_cmp nat_cmp name k.now) old new None → IsWithout name old new
others_stay name old new updates = λ other differ.
    let shown : Option (Vec (Bor CratePolicy) Global) → List CratePolicy =
    λ o. option_map_or (λ v. policies_of v.items) o [] in
    ap shown (btree_map_updates_str name old new None updates other)
    ∙ ap (λ (b : Bool). shown (if b then None else get_by (λ k. slice_cmp nat_cmp other k.now) old)) differ

-- a map that got what is said of a name
pub added_by : (name : List ℕ) (held : Bor CratePolicy) (old without new : HoldMap) (said : Vec (Bor CratePolicy) Global)
    → UpdatesBy (λ (x y : Bor (List ℕ)). slice_cmp nat_cmp x.now y.now)
    (λ (k : Bor (List ℕ)). slice_cmp nat_cmp name k.now) without new (Some said)
    → IsWithout name old without → policies_of said.items ≡ said_of old name ++ held.now ∷ []
    → (other : List ℕ)
    → said_of new other ≡ said_of old other ++ (if bytes_eq name other then held.now ∷ [] else [])
added_by name held old without new said updates others is other =
    let shown : Option (Vec (Bor CratePolicy) Global) → List CratePolicy =
    λ o. option_map_or (λ v. policies_of v.items) o [] in
    ap shown (btree_map_updates_str name without new (Some said) updates other)
    ∙ go (bytes_eq name other) refl
  where
    go : (b : Bool) → bytes_eq name other ≡ b
        → option_map_or (λ v. policies_of v.items) (if b then Some said
        else get_by (λ k. slice_cmp nat_cmp other k.now) without) []
        ≡ said_of old other ++ (if b then held.now ∷ [] else [])
    go true same = is ∙ ap (λ n. said_of old n ++ held.now ∷ []) ((bytes_eq-Decides name other).0 same)
    go false differ = others other differ ∙ sym (append-nil (said_of old other))
