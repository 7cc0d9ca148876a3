-- Results of lookups that follow from the outcomes of transfers, one after another.
use Rattle.std.proofs.Common.{◌≡◌, ◌<◌, ℕ, zero, suc, ◌+◌, List, [], ◌∷◌, ◌++◌, length, Bool, Option, Some, ap, sym, ◌∙◌, subst, ⊎_elim, inl, inr, refl}
use Rattle.std.specs.Prelude.{◌⊎◌, slice_get}
use Rattle.std.proofs.lemmas.Option.{slice_get_within}
use Rattle.edit_store.specs.Store.{Files}
use Rattle.edit_lookups.specs.Lookups.{LookupText}
use Rattle.edit_answers.specs.Changes.{AllowsChanges}
use Rattle.edit_answers.specs.OutcomeRules.{AllFollow, HasFollowed, HasOutcome, answer_at}
use Rattle.edit_answers.specs.Outcomes.{Puts, PutsAmong, PutsOne, Stores}
use Rattle.edit_answers.specs.declared.answers.Answer.{Answer}
use Rattle.edit_answers.specs.declared.meaning.Outcome.{Outcome}
use Rattle.edit_answers.specs.declared.places.Places.{Places}
use Rattle.edit_answers.proofs.ChangeLemmas.{keeps-then, keeps-weaker}
use Rattle.edit_answers.proofs.SettleLemmas.{puts-fetched}

-- an element of a list with one more is among the others, or is that one
get-cases : {X : Type 0} (xs : List X) (y x : X) (k : ℕ) → slice_get (xs ++ y ∷ []) k ≡ Some x
    → (slice_get xs k ≡ Some x) ⊎ ((k ≡ length xs) × (y ≡ x))
get-cases [] y x zero e = inr (refl, cc)
get-cases [] y x (suc k) e = cc
get-cases (z ∷ xs) y x zero e = inl e
get-cases (z ∷ xs) y x (suc k) e =
    ⊎_elim (λ h. inl h) (λ h. inr (ap suc h.0, h.1)) (get-cases xs y x k e)

one-of : {X : Type 0} (o : Option X) (x y : X) → o ≡ Some x → o ≡ Some y → x ≡ y
one-of o x y a b = cc

module _ (p : Places) (ls : List LookupText) (is_offline : Bool) (answers : List (Option Answer))
    (old cur new : Files) where
  -- a result so far, after one lookup more
  followed-on : (i k : ℕ) (l lk : LookupText) (o ok : Outcome) → k < i → slice_get ls i ≡ Some l
      → AllowsChanges (Puts p l o) cur new → HasFollowed p ls is_offline answers old cur k lk ok
      → HasFollowed p ls is_offline answers old new k lk ok
  followed-on i k l lk o ok before at writes it = record {
    before = it.before;
    after = it.after;
    from_old = it.from_old;
    follows = it.follows;
    stores = it.stores;
    to_new = keeps-then (PutsAmong p ls (λ n. k < n)) it.after cur new it.to_new
        (keeps-weaker (Puts p l o) (PutsAmong p ls (λ n. k < n))
        (λ path bytes h. record {
          number = i;
          lookup = l;
          among = before;
          is = at;
          puts = puts-fetched p l o path bytes h;
        })
        cur new writes);
  }

  -- the result of the last lookup
  followed-last : (os : List Outcome) (i : ℕ) (l : LookupText) (o : Outcome) (a : Option Answer)
      → length os ≡ i → a ≡ answer_at answers i → AllowsChanges (PutsOne p ls os) old cur
      → HasOutcome p l (i + 1) is_offline a cur o → Stores o p l (i + 1) cur new
      → HasFollowed p ls is_offline answers old new i l o
  followed-last os i l o a count given keeps one stores = record {
    before = cur;
    after = new;
    from_old = keeps-weaker (PutsOne p ls os) (PutsAmong p ls (λ n. n < i))
        (λ path bytes h. record {
          number = h.number;
          lookup = h.lookup;
          among = subst (λ n. h.number < n) count (slice_get_within os h.number h.outcome h.becomes);
          is = h.is;
          puts = puts-fetched p h.lookup h.outcome path bytes h.puts;
        })
        old cur keeps;
    follows = subst (λ x. HasOutcome p l (i + 1) is_offline x cur o) given one;
    stores = stores;
    to_new = λ path. inl refl;
  }

  -- one result more
  pub follows-more : (os all : List Outcome) (o : Outcome) (l : LookupText) (i : ℕ) (a : Option Answer)
      → length os ≡ i → a ≡ answer_at answers i → all ≡ os ++ o ∷ [] → slice_get ls (length os) ≡ Some l
      → AllowsChanges (PutsOne p ls os) old cur → HasOutcome p l (i + 1) is_offline a cur o
      → Stores o p l (i + 1) cur new → AllowsChanges (Puts p l o) cur new
      → AllFollow p ls is_offline answers old cur os → AllFollow p ls is_offline answers old new all
  follows-more os all o l i a count given e at keeps one stores writes so k lk ok is was =
      let here = subst (λ n. slice_get ls n ≡ Some l) count at in
      ⊎_elim
      (λ h. followed-on i k l lk o ok (subst (λ n. k < n) count (slice_get_within os k ok h)) here writes
      (so k lk ok is h))
      (λ h. subst (λ x. HasFollowed p ls is_offline answers old new k lk x) h.1
      (subst (λ x. HasFollowed p ls is_offline answers old new k x o)
      (one-of (slice_get ls k) l lk (subst (λ n. slice_get ls n ≡ Some l) (sym h.0) at) is)
      (subst (λ n. HasFollowed p ls is_offline answers old new n l o) (sym (h.0 ∙ count))
      (followed-last os i l o a count given keeps one stores))))
      (get-cases os o ok k (subst (λ xs. slice_get xs k ≡ Some ok) e was))
