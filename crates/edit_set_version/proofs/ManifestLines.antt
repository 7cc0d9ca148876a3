-- Lists of lines to which the lines of manifests are appended.
use Rattle.std.proofs.Common.{◌≡◌, ◌⊎◌, ◌∙◌, ◌+◌, ◌<◌, ℕ, suc, drop, get_or, inl, inr, length, not, subst, take, List, [], ◌∷◌, ◌++◌, false, true, map, refl, sym, ap}
use Rattle.std.specs.Prelude.{All, if◌then◌else◌}
use Rattle.std.specs.List.{filter}
use Rattle.std.proofs.lemmas.List.{append_assoc, append-nil, map-append, map_more}
use Rattle.std.proofs.lemmas.List.Elements.{filter-append}
use Rattle.edit_tree.specs.Assertions.{same_bytes}
use Rattle.edit_base.specs.Errors.{IsMemory}
use Rattle.edit_set_version.specs.declared.failure.VersionFailure.{VersionFailure}
use Rattle.edit_set_version.specs.Chosen.{Member}
use Rattle.edit_set_version.specs.Crates.{member_of, members_of}
use Rattle.edit_set_version.specs.declared.crates.Crate.{Crate}
use Rattle.edit_set_version.specs.Dependents.{all_numbered}
use Rattle.edit_set_version.specs.PlanCauses.{AllRiseIn, AreUnraised, IsUnraised}
use Rattle.edit_set_version.specs.PlanLines.{Named, Reported}
use Rattle.edit_set_version.specs.SetVersioned.{Bump}
use Rattle.edit_set_version.specs.LineViews.{manifest_lines_view, named_member, other_manifests, update_lines_view, with_manifests, with_more, with_updates}
use Rattle.edit_base.proofs.FirstCauseLemmas.{first_before, first_behind, split_at}

-- lines in two parts
more_in_parts : (f g h : ℕ → List Reported) → ((k : ℕ) → h k ≡ f k ++ g k)
    → (n : ℕ) (ls : List (List Reported))
    → with_more h n ls ≡ with_more g n (with_more f n ls)
more_in_parts f g h same n [] = refl
more_in_parts f g h same n (l ∷ ls) =
    ap (λ us. (l ++ us) ∷ with_more h (suc n) ls) (same n)
    ∙ ap (λ x. x ∷ with_more h (suc n) ls) (sym (append_assoc l (f n) (g n)))
    ∙ ap (λ xs. ((l ++ f n) ++ g n) ∷ xs) (more_in_parts f g h same (suc n) ls)

-- the lines are equal
more_same : (f g : ℕ → List Reported) → ((k : ℕ) → f k ≡ g k) → (n : ℕ) (ls : List (List Reported))
    → with_more f n ls ≡ with_more g n ls
more_same f g same n [] = refl
more_same f g same n (l ∷ ls) =
    ap (λ us. (l ++ us) ∷ with_more f (suc n) ls) (same n)
    ∙ ap (λ xs. (l ++ g n) ∷ xs) (more_same f g same (suc n) ls)

lines_append : (bs : List Bump) (xs ys : List Named) (n : ℕ)
    → manifest_lines_view bs (xs ++ ys) n ≡ manifest_lines_view bs xs n ++ manifest_lines_view bs ys n
lines_append bs [] ys n = refl
lines_append bs (x ∷ xs) ys n =
    ap (λ us. update_lines_view (x.name, x.path) (all_numbered bs x.path x.tree) n ++ us) (lines_append bs xs ys n)
    ∙ sym (append_assoc (update_lines_view (x.name, x.path) (all_numbered bs x.path x.tree) n) (manifest_lines_view bs xs n)
    (manifest_lines_view bs ys n))

-- manifests in two parts
pub manifests_in_parts : (bs : List Bump) (xs ys : List Named) (n : ℕ) (ls : List (List Reported))
    → with_manifests bs (xs ++ ys) n ls ≡ with_manifests bs ys n (with_manifests bs xs n ls)
manifests_in_parts bs xs ys n ls =
    more_in_parts (manifest_lines_view bs xs) (manifest_lines_view bs ys) (manifest_lines_view bs (xs ++ ys))
    (lines_append bs xs ys) n ls

-- one manifest
pub one_manifest : (bs : List Bump) (m : Named) (n : ℕ) (ls : List (List Reported))
    → with_updates (m.name, m.path) (all_numbered bs m.path m.tree) n ls ≡ with_manifests bs (m ∷ []) n ls
one_manifest bs m n ls =
    more_same (update_lines_view (m.name, m.path) (all_numbered bs m.path m.tree)) (manifest_lines_view bs (m ∷ []))
    (λ k. sym (append-nil (update_lines_view (m.name, m.path) (all_numbered bs m.path m.tree) k))) n ls

-- none
pub no_manifests : (bs : List Bump) (n : ℕ) (ls : List (List Reported)) → with_manifests bs [] n ls ≡ ls
no_manifests bs n [] = refl
no_manifests bs n (l ∷ ls) =
    ap (λ x. x ∷ with_manifests bs [] (suc n) ls) (append-nil l)
    ∙ ap (λ xs. l ∷ xs) (no_manifests bs (suc n) ls)

-- ---- the members' manifests

-- a member's manifest under a name
abbrev pub one_named : Member → List ℕ → List Named
one_named m name = record { name = name; path = m.path; tree = m.tree } ∷ []

-- the one at the path is left out
pub other_same : (path : List ℕ) (m : Member) → same_bytes m.path path ≡ true
    → other_manifests path (m ∷ []) ≡ []
other_same path m same = ap (λ b. map named_member (if not b then m ∷ [] else [])) same

pub other_one : (path : List ℕ) (m : Member) → same_bytes m.path path ≡ false
    → other_manifests path (m ∷ []) ≡ named_member m ∷ []
other_one path m other = ap (λ b. map named_member (if not b then m ∷ [] else [])) other

other_append : (path : List ℕ) (xs ys : List Member)
    → other_manifests path (xs ++ ys) ≡ other_manifests path xs ++ other_manifests path ys
other_append path xs ys =
    ap (map named_member) (filter-append (λ (m : Member). not (same_bytes m.path path)) xs ys)
    ∙ map-append named_member (filter (λ (m : Member). not (same_bytes m.path path)) xs)
    (filter (λ (m : Member). not (same_bytes m.path path)) ys)

-- those of crates with one more
pub others_more : (path : List ℕ) (cs : List Crate) (i : ℕ) (c : Crate) → i < length cs → c ≡ get_or cs i c
    → other_manifests path (members_of (take (i + 1) cs))
    ≡ other_manifests path (members_of (take i cs)) ++ other_manifests path (member_of c ∷ [])
others_more path cs i c within is =
    ap (other_manifests path) (map_more member_of cs i c within
    ∙ ap (λ z. members_of (take i cs) ++ member_of z ∷ []) (sym is))
    ∙ other_append path (members_of (take i cs)) (member_of c ∷ [])

-- ---- requirements that cannot be raised

-- that of one of several crates, where each requirement of those before it can be raised
pub unraised_among : (bs : List Bump) (path : List ℕ) (cs : List Crate) (i : ℕ) (c : Crate) (f : VersionFailure)
    → i < length cs → c ≡ get_or cs i c
    → All (AllRiseIn bs) (other_manifests path (members_of (take i cs)))
    → IsMemory f.error ⊎ AreUnraised bs (other_manifests path (member_of c ∷ [])) f
    → IsMemory f.error ⊎ AreUnraised bs (other_manifests path (members_of cs)) f
unraised_among bs path cs i c f within is rise (inl none) = inl none
unraised_among bs path cs i c f within is rise (inr has) =
    inr (subst (λ (ms : List Named). AreUnraised bs ms f) (sym split)
    (first_behind (AllRiseIn bs) (λ (m : Named). IsUnraised bs m.path m.tree f) front (own ++ rest) rise
    (first_before (AllRiseIn bs) (λ (m : Named). IsUnraised bs m.path m.tree f) own rest has)))
  where
    front : List Named
    front = other_manifests path (members_of (take i cs))

    own : List Named
    own = other_manifests path (member_of c ∷ [])

    rest : List Named
    rest = other_manifests path (members_of (drop (i + 1) cs))

    split : other_manifests path (members_of cs) ≡ front ++ (own ++ rest)
    split =
        ap (λ (xs : List Crate). other_manifests path (members_of xs)) (split_at cs i c within is)
        ∙ ap (other_manifests path) (map-append member_of (take i cs) (c ∷ drop (i + 1) cs))
        ∙ other_append path (members_of (take i cs)) (member_of c ∷ members_of (drop (i + 1) cs))
        ∙ ap (λ (ms : List Named). front ++ ms)
        (other_append path (member_of c ∷ []) (members_of (drop (i + 1) cs)))
