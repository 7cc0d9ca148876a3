-- Lists without duplicates, and the set of the texts that were taken.
use Rattle.std.proofs.Common.{◌≡◌, ℕ, Bool, true, false, cond, not, ◌&&◌, ◌||◌, List, [], ◌∷◌, ◌++◌, BTreeSet, Bor, refl, sym, ap, ◌∙◌, if◌then◌else◌, append_assoc, append-nil, inl, inr, Option, Result}
use Rattle.std.proofs.lemmas.List.Folds.{list_any-append}
use Rattle.std.proofs.lemmas.Map.Text.{is_eq-slice_cmp}
use Rattle.std.specs.BTreeSet.{UpdatesBy, contains_by}
use Rattle.std.specs.Cmp.Lexicographic.{slice_cmp}
use Rattle.std.specs.List.{list_any}
use Rattle.std.specs.Ordering.{nat_cmp}
use Rattle.std.specs.Prelude.{filter}
use Rattle.edit_tree.specs.Assertions.{same_bytes}
use Rattle.edit_tree.proofs.SamePlace.{same_bytes_is}
use Rattle.edit_document.proofs.EntryPartViews.{same_texts}
use Rattle.edit_base.specs.Errors.{IsMemory}
use Rattle.edit_base.specs.declared.errors.Error.{Error}
use Rattle.edit_record.specs.EntryRecords.{EntryError}
use Rattle.edit_record.specs.EachOnce.{each_once}
use Rattle.edit_update.specs.EntryUpdates.{texts_or_none}
use Rattle.edit_record.specs.RecordViews.{IsErrorOfResult}

-- ---- texts one after the other

-- one of these texts
abbrev pub is_old : List (List ℕ) → List ℕ → Bool
is_old done u = list_any (λ s. same_bytes s u) done

-- none of these texts
abbrev is_new : List (List ℕ) → List ℕ → Bool
is_new done u = not (is_old done u)

-- a text more, where it is new
abbrev pub joins : List (List ℕ) → List ℕ → List (List ℕ)
joins done u = if is_old done u then done else done ++ u ∷ []

-- texts one after the other
abbrev pub join_all : List (List ℕ) → List (List ℕ) → List (List ℕ)
join_all done [] = done
join_all done (s ∷ ss) = join_all (joins done s) ss

-- ---- the set's own

-- whether a set has a text
abbrev pub in_set : BTreeSet (Bor (List ℕ)) → List ℕ → Bool
in_set set text = contains_by (λ k. slice_cmp nat_cmp text k.now) set

-- the set has exactly the texts that were taken
abbrev pub HoldsThese : BTreeSet (Bor (List ℕ)) → List (List ℕ) → Type 0
HoldsThese set done = (u : List ℕ) → in_set set u ≡ is_old done u

either : (a b : Bool) → cond a true b ≡ (b || (a || false))
either true true = refl
either true false = refl
either false true = refl
either false false = refl

-- a set that got a text
in_more : (key : List ℕ) (old new : BTreeSet (Bor (List ℕ)))
    → UpdatesBy (λ (x y : Bor (List ℕ)). slice_cmp nat_cmp x.now y.now)
    (λ (k : Bor (List ℕ)). slice_cmp nat_cmp key k.now) old new true
    → (u : List ℕ) → in_set new u ≡ cond (same_bytes key u) true (in_set old u)
in_more key old new updates u =
    updates.0 (record { ref_ptr = (0, 0); now = u }) ∙ ap (λ b. cond b true (in_set old u))
    (is_eq-slice_cmp key u ∙ same_texts key u)

-- a text that was taken, and the set that got it
pub holds_joined : (key : List ℕ) (old new : BTreeSet (Bor (List ℕ))) (done : List (List ℕ))
    → UpdatesBy (λ (x y : Bor (List ℕ)). slice_cmp nat_cmp x.now y.now)
    (λ (k : Bor (List ℕ)). slice_cmp nat_cmp key k.now) old new true
    → HoldsThese old done → HoldsThese new (joins done key)
holds_joined key old new done updates holds u = by (is_old done key) refl
  where
    by : (b : Bool) → is_old done key ≡ b → in_set new u ≡ is_old (joins done key) u
    by true e = rw e (in_more key old new updates u ∙ ap (cond (same_bytes key u) true) (holds u)
        ∙ at_old (same_bytes key u) refl)
      where
        at_old : (c : Bool) → same_bytes key u ≡ c → cond c true (is_old done u) ≡ is_old done u
        at_old true f = sym (ap (is_old done) (sym (same_bytes_is key u f)) ∙ e)
        at_old false f = refl
    by false e = rw e (in_more key old new updates u ∙ ap (cond (same_bytes key u) true) (holds u)
        ∙ either (same_bytes key u) (is_old done u)
        ∙ sym (list_any-append (λ s. same_bytes s u) done (key ∷ [])))

-- ---- filters

-- behind one filter another one leaves the same elements, where the second drops each that the first drops
filter_same : (p q r : List ℕ → Bool) → ((u : List ℕ) → (q u && p u) ≡ r u) → (xs : List (List ℕ))
    → filter p (filter q xs) ≡ filter r xs
filter_same p q r same [] = refl
filter_same p q r same (x ∷ xs) = by (q x) refl (p x) refl (filter_same p q r same xs)
  where
    by : (b : Bool) → q x ≡ b → (c : Bool) → p x ≡ c → filter p (filter q xs) ≡ filter r xs
        → filter p (filter q (x ∷ xs)) ≡ filter r (x ∷ xs)
    by true e true f rest =
        let here : r x ≡ true = sym (same x) ∙ rw (e, f) refl in
        rw (e, f, here) (ap (λ l. x ∷ l) rest)
    by true e false f rest =
        let here : r x ≡ false = sym (same x) ∙ rw (e, f) refl in
        rw (e, f, here) rest
    by false e c f rest =
        let here : r x ≡ false = sym (same x) ∙ rw e refl in
        rw (e, here) rest

-- ---- once

-- a text that is there goes with those that are there
drops_more : (done : List (List ℕ)) (s : List ℕ) → is_old done s ≡ true → (u : List ℕ)
    → (not (same_bytes s u) && is_new done u) ≡ is_new done u
drops_more done s there u = by (same_bytes s u) refl
  where
    by : (b : Bool) → same_bytes s u ≡ b → (not (same_bytes s u) && is_new done u) ≡ is_new done u
    by true e = rw (e, sym (ap (is_old done) (same_bytes_is s u e)) ∙ there) refl
    by false e = rw e refl

-- what is new behind one text more
new_behind : (done : List (List ℕ)) (s u : List ℕ)
    → (not (same_bytes s u) && is_new done u) ≡ is_new (done ++ s ∷ []) u
new_behind done s u = rw (list_any-append (λ t. same_bytes t u) done (s ∷ []))
    (by (same_bytes s u) (is_old done u))
  where
    by : (a b : Bool) → (not a && not b) ≡ not (b || (a || false))
    by true true = refl
    by true false = refl
    by false true = refl
    by false false = refl

joined_once : (done ss : List (List ℕ))
    → join_all done ss ≡ done ++ filter (is_new done) (each_once ss)
joined_once done [] = sym (append-nil done)
joined_once done (s ∷ ss) = by (is_old done s) refl (λ d. joined_once d ss)
  where
    by : (b : Bool) → is_old done s ≡ b
        → ((d : List (List ℕ)) → join_all d ss ≡ d ++ filter (is_new d) (each_once ss))
        → join_all (joins done s) ss ≡ done ++ filter (is_new done) (each_once (s ∷ ss))
    by true e rest = rw e (rest done
        ∙ ap (λ l. done ++ l) (sym (filter_same (is_new done) (λ u. not (same_bytes s u)) (is_new done)
        (drops_more done s e) (each_once ss))))
    by false e rest = rw e (rest (done ++ s ∷ []) ∙ append_assoc done (s ∷ []) _
        ∙ ap (λ l. done ++ s ∷ l) (sym (filter_same (is_new done) (λ u. not (same_bytes s u))
        (is_new (done ++ s ∷ [])) (new_behind done s) (each_once ss))))

-- nothing is old where nothing was before
all_new : (ss : List (List ℕ)) → filter (is_new []) ss ≡ ss
all_new [] = refl
all_new (s ∷ ss) = ap (λ l. s ∷ l) (all_new ss)

-- texts one after the other are each once
pub joined_all : (xs : List (List ℕ)) → join_all [] xs ≡ each_once xs
joined_all xs = joined_once [] xs ∙ all_new (each_once xs)

-- a text more
pub join_more : (done xs : List (List ℕ)) (s : List ℕ)
    → join_all done (xs ++ s ∷ []) ≡ joins (join_all done xs) s
join_more done [] s = refl
join_more done (x ∷ xs) s = join_more (joins done x) xs s

-- ---- features that cannot be read

-- features that cannot be read count as none, if memory did not run out
pub refused_texts : (result : Result (Option (List (List ℕ))) EntryError) (e : Error) → IsErrorOfResult result e
    → (IsMemory e → ⊥) → [] ≡ texts_or_none result
refused_texts result e (inl memory) not_memory = absurd (not_memory memory)
refused_texts result e (inr h) not_memory = rw h.1 refl
