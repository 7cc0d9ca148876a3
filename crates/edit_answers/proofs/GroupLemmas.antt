-- The first lookups of registries, one lookup after another.
use Rattle.std.proofs.Common.{◌≡◌, ◌<◌, ◌+◌, ℕ, List, [], ◌∷◌, ◌++◌, Bool, true, false, cond, not, refl, sym, ap, subst, ◌∙◌, map, take, length, get_or, append-nil}
use Rattle.std.specs.Prelude.{◌||◌, Option, Some, None, filter, option_map}
use Rattle.std.specs.List.{cons_option}
use Rattle.std.specs.Str.{bytes_eq}
use Rattle.std.proofs.lemmas.List.{map-append, take_more}
use Rattle.std.proofs.lemmas.List.Elements.{filter-append, filter_map-append}
use Rattle.std.proofs.lemmas.Slice.Eq.{bytes_eq-Decides}
use Rattle.edit_lookups.specs.declared.lookups.Lookup.{Lookup}
use Rattle.edit_answers.specs.Groups.{AreGroupsOf, GroupText, IsGroup, failure_with, firsts, group_text, is_in, is_listed, failed_lookups}
use Rattle.edit_answers.specs.Groups.AreGroupsOf.{more}
use Rattle.edit_answers.specs.declared.groups.Group.{Group}
use Rattle.edit_answers.specs.declared.groups.Consequence.{Consequence}
use Rattle.edit_answers.specs.declared.meaning.Failure.{Failure}
use Rattle.edit_answers.specs.declared.meaning.Outcome.{Outcome}
use Rattle.edit_answers.proofs.BoolLemmas.{same-bools}

-- bytes are compared either way
pub bytes_eq-sym : (a b : List ℕ) → bytes_eq a b ≡ bytes_eq b a
bytes_eq-sym a b =
    same-bools (bytes_eq a b) (bytes_eq b a)
    (λ t. (bytes_eq-Decides b a).1 (sym ((bytes_eq-Decides a b).0 t)))
    (λ t. (bytes_eq-Decides a b).1 (sym ((bytes_eq-Decides b a).0 t)))

-- one first lookup more, behind another one: whether it is in the registry of that, and of a later one
first-step : (y x : Lookup × Failure) (t : Lookup × Failure → Bool) (zs ws : List (Lookup × Failure))
    (here later : Bool)
    → t x ≡ not here → ws ≡ cond later zs (zs ++ x ∷ [])
    → y ∷ filter t ws ≡ cond (here || later) (y ∷ filter t zs) (y ∷ (filter t zs ++ x ∷ []))
first-step y x t zs ws true true is e = ap (λ l. y ∷ filter t l) e
first-step y x t zs ws false true is e = ap (λ l. y ∷ filter t l) e
first-step y x t zs ws false false is e =
    ap (λ l. y ∷ filter t l) e
    ∙ ap (λ l. y ∷ l) (filter-append t zs (x ∷ []) ∙ ap (λ b. filter t zs ++ cond b (x ∷ []) []) is)
first-step y x t zs ws true false is e =
    ap (λ l. y ∷ filter t l) e
    ∙ ap (λ l. y ∷ l) (filter-append t zs (x ∷ []) ∙ ap (λ b. filter t zs ++ cond b (x ∷ []) []) is
    ∙ append-nil (filter t zs))

-- the first lookups of one lookup more
pub firsts-more : (xs : List (Lookup × Failure)) (x : Lookup × Failure)
    → firsts (xs ++ x ∷ []) ≡ cond (is_listed xs x.0.address.now) (firsts xs) (firsts xs ++ x ∷ [])
firsts-more [] x = refl
firsts-more (y ∷ ys) x =
    first-step y x (λ other. not (is_in y.0.address.now other)) (firsts ys) (firsts (ys ++ x ∷ []))
    (is_in x.0.address.now y) (is_listed ys x.0.address.now)
    (ap not (bytes_eq-sym x.0.address.now y.0.address.now)) (firsts-more ys x)

module _ (all : List (Lookup × Failure)) (i : ℕ) (d : Lookup × Failure) (within : i < length all) where
  -- the first lookups of those up to a place, whose lookup is in a registry of which one was passed, or not
  firsts-taken : (listed : Bool) → is_listed (take i all) (get_or all i d).0.address.now ≡ listed
      → firsts (take (i + 1) all)
      ≡ cond listed (firsts (take i all)) (firsts (take i all) ++ get_or all i d ∷ [])
  firsts-taken listed is =
      ap firsts (take_more all i d within) ∙ firsts-more (take i all) (get_or all i d)
      ∙ ap (λ b. cond b (firsts (take i all)) (firsts (take i all) ++ get_or all i d ∷ [])) is

  -- a lookup in a registry of which one was passed adds no group
  pub groups-same : (groups : List GroupText) → is_listed (take i all) (get_or all i d).0.address.now ≡ true
      → AreGroupsOf all (firsts (take i all)) groups → AreGroupsOf all (firsts (take (i + 1) all)) groups
  groups-same groups listed h = subst (λ fs. AreGroupsOf all fs groups) (sym (firsts-taken true listed)) h

  -- the first lookup in a registry adds its group
  pub groups-more : (old new : List Group) (g : Group)
      → is_listed (take i all) (get_or all i d).0.address.now ≡ false → new ≡ old ++ g ∷ []
      → AreGroupsOf all (firsts (take i all)) (map group_text old)
      → IsGroup all (get_or all i d) (group_text g)
      → AreGroupsOf all (firsts (take (i + 1) all)) (map group_text new)
  groups-more old new g unlisted added h group =
      subst (λ fs. AreGroupsOf all fs (map group_text new)) (sym (firsts-taken false unlisted))
      (subst (λ gs. AreGroupsOf all (firsts (take i all) ++ get_or all i d ∷ []) gs)
      (sym (ap (map group_text) added ∙ map-append group_text old (g ∷ [])))
      (more (firsts (take i all)) (map group_text old) (get_or all i d) (group_text g) h group))

module _ (s : Consequence) (offline : Bool) (pairs : List (Lookup × Outcome)) (i : ℕ) (d : Lookup × Outcome)
    (within : i < length pairs) where
  missed-taken : (r : Option Failure) → r ≡ failure_with s offline (get_or pairs i d).1
      → failed_lookups s offline (take i pairs) ++ cons_option (option_map (λ f. ((get_or pairs i d).0, f)) r) []
      ≡ failed_lookups s offline (take (i + 1) pairs)
  missed-taken r is =
      ap (λ o. failed_lookups s offline (take i pairs) ++ cons_option
      (option_map (λ f. ((get_or pairs i d).0, f)) o) []) is
      ∙ sym (filter_map-append (λ p. option_map (λ f. (p.0, f)) (failure_with s offline p.1)) (take i pairs)
      (get_or pairs i d ∷ []))
      ∙ ap (failed_lookups s offline) (sym (take_more pairs i d within))

  -- a lookup with another consequence
  pub missed-same : (found : List (Lookup × Failure)) (r : Option Failure)
      → r ≡ failure_with s offline (get_or pairs i d).1 → r ≡ None
      → found ≡ failed_lookups s offline (take i pairs)
      → found ≡ failed_lookups s offline (take (i + 1) pairs)
  missed-same found r is none e =
      e ∙ sym (append-nil (failed_lookups s offline (take i pairs))) ∙ missed-taken None (sym none ∙ is)

  -- a lookup with this consequence
  pub missed-more : (old new : List (Lookup × Failure)) (r : Option Failure) (f : Failure)
      → r ≡ failure_with s offline (get_or pairs i d).1 → r ≡ Some f
      → new ≡ old ++ ((get_or pairs i d).0, f) ∷ [] → old ≡ failed_lookups s offline (take i pairs)
      → new ≡ failed_lookups s offline (take (i + 1) pairs)
  missed-more old new r f is some added e =
      added ∙ ap (λ l. l ++ ((get_or pairs i d).0, f) ∷ []) e ∙ missed-taken (Some f) (sym some ∙ is)
